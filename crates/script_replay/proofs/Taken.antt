-- Disks that are taken off a shelf, and put back where the others of their session can't be taken.
use Rattle.std.proofs.Common.{◌≡◌, ℕ, true, false, List, Some, inl, inr, refl, sym, ap, ◌∙◌, subst}
use Rattle.std.specs.Prelude.{◌⊎◌}
use Rattle.std.proofs.lemmas.Bool.{cases_eq}
use Rattle.disk_model.specs.declared.name.DiskName.{DiskName}
use Rattle.disk_model.specs.declared.name.Role.{Role}
use Rattle.disk_model.specs.declared.name.Role.TheVariants as roles
use Rattle.disk_model.specs.Shelf.{Holdings, OnShelf, IsOut, reading_given}
use Rattle.pump_frame.specs.Counts.{Rose}
use Rattle.script_replay.specs.Failing.{is_earlier, IsNotGiven}
use Rattle.script_replay.specs.Lending.{IsOutAt, ReadAt}
use Rattle.script_replay.specs.Shelves.{Places, disk_name, reading_in, LeavesOtherSessions, AllAreBack, ReadsAlike, Spares}
use Rattle.script_replay.proofs.Shelving.{read_in, is_out, name_is}

-- every disk but this one is where it was
abbrev pub MovesOnly : Places → Places → ℕ → Role → Type 0
MovesOnly before after id role = (name : DiskName) → (name ≡ disk_name id role → ⊥) → after name ≡ before name

module _ (before after : Places) (id : ℕ) (role : Role) (moved : MovesOnly before after id role) where
  pub others_by : LeavesOtherSessions before after id
  others_by name other = moved name (λ e. other (ap (λ n. n.session) e))

  role_kept : (other : Role) → (other ≡ role → ⊥) → after (disk_name id other) ≡ before (disk_name id other)
  role_kept other differs = moved (disk_name id other) (λ e. differs (ap (λ n. n.role) e))

  -- what is read of a disk of another role was there to be read
  pub read_before : (other : Role) (reading : List ℕ) → (other ≡ role → ⊥) → ReadAt after id other reading → ReadAt before id other reading
  read_before other reading differs read = ap reading_given (sym (role_kept other differs)) ∙ read

  pub out_after : (other : Role) (count : ℕ) → (other ≡ role → ⊥) → IsOutAt before id other count → IsOutAt after id other count
  out_after other count differs out = (out.0, role_kept other differs ∙ out.1, out.2)

-- where a call that failed left all disks as they were
pub moves_still : (before mid after : Places) (id : ℕ) (role : Role) → after ≡ mid → MovesOnly before mid id role → MovesOnly before after id role
moves_still before mid after id role same moved = λ name other. ap (λ (p : Places). p name) same ∙ moved name other

pub out_still_at : (before after : Places) (id : ℕ) (role : Role) (count : ℕ) → after ≡ before → IsOutAt before id role count → IsOutAt after id role count
out_still_at before after id role count same out = (out.0, ap (λ (p : Places). p (disk_name id role)) same ∙ out.1, out.2)

pub is_out_at : (places : Places) (id : ℕ) (role : Role) (count : ℕ) → IsOutAt places id role count → IsOut (places (disk_name id role))
is_out_at places id role count out = is_out (places (disk_name id role)) count out

role_cases : (a b : Role) → (a ≡ b) ⊎ (a ≡ b → ⊥)
role_cases roles.Low roles.Low = inl refl
role_cases roles.Low roles.High = inr (λ e. cc)
role_cases roles.Low roles.Recv = inr (λ e. cc)
role_cases roles.High roles.Low = inr (λ e. cc)
role_cases roles.High roles.High = inl refl
role_cases roles.High roles.Recv = inr (λ e. cc)
role_cases roles.Recv roles.Low = inr (λ e. cc)
role_cases roles.Recv roles.High = inr (λ e. cc)
role_cases roles.Recv roles.Recv = inl refl

name_cases : (name : DiskName) (id : ℕ) (role : Role) → (name ≡ disk_name id role) ⊎ (name ≡ disk_name id role → ⊥)
name_cases name id role = elim (cases_eq name.session id) [
  | inl same ↦
      elim (role_cases name.role role) [
        | inl is ↦ inl (name_is name id same ∙ ap (disk_name id) is)
        | inr differs ↦ inr (λ e. differs (ap (λ n. n.role) e))
      ]
  | inr differs ↦ inr (λ e. differs (ap (λ n. n.session) e))
]

-- a disk reads as it did, and is off the shelf only where it was before
record StaysAt (before now : Places) (name : DiskName) : Type 0 where
  pub reads : reading_in (now name) ≡ reading_in (before name)
  pub back : IsOut (now name) → IsOut (before name)

stays_there : (before now : Places) (name : DiskName) → now name ≡ before name → StaysAt before now name
stays_there before now name e = record { reads = ap reading_in e; back = λ out. subst IsOut e out }

comes_back : (before now : Places) (name : DiskName) (reading : List ℕ) → reading_given (before name) ≡ Some reading → now name ≡ OnShelf reading → StaysAt before now name
comes_back before now name reading read on = record {
  reads = ap reading_in on ∙ sym (read_in (before name) reading read);
  back = λ out. absurd (subst IsOut on out);
}

-- so of all disks
pub record AllStay (before now : Places) : Type 0 where
  pub spared : Spares before now
  pub back : AllAreBack before now
  pub alike : ReadsAlike before now

all_of : (before now : Places) → ((name : DiskName) → StaysAt before now name) → AllStay before now
all_of before now stay = record {
  spared = λ name some. (stay name).reads;
  back = λ name out. (stay name).back out;
  alike = λ name. (stay name).reads;
}

-- none was taken
pub none_taken : (before now : Places) → now ≡ before → AllStay before now
none_taken before now same = all_of before now (λ name. stays_there before now name (ap (λ (p : Places). p name) same))

-- one was taken, and put back
pub one_back : (before out now : Places) (id : ℕ) (role : Role) (reading : List ℕ) → MovesOnly before out id role → MovesOnly out now id role → ReadAt before id role reading → now (disk_name id role) ≡ OnShelf reading → AllStay before now
one_back before out now id role reading taken returned read on = all_of before now (λ name. elim (name_cases name id role) [
  | inl is ↦ comes_back before now name reading (ap (λ n. reading_given (before n)) is ∙ read) (ap now is ∙ on)
  | inr other ↦ stays_there before now name (returned name other ∙ taken name other)
])

-- two were taken and put back, in the same order
pub two_back : (before mid out less now : Places) (id : ℕ) (a b : Role) (read_a read_b : List ℕ) → (b ≡ a → ⊥) → MovesOnly before mid id a → MovesOnly mid out id b → MovesOnly out less id a → MovesOnly less now id b
    → ReadAt before id a read_a → ReadAt mid id b read_b → less (disk_name id a) ≡ OnShelf read_a → now (disk_name id b) ≡ OnShelf read_b → AllStay before now
two_back before mid out less now id a b read_a read_b differ takes_a takes_b returns_a returns_b reads_a reads_b on_a on_b = all_of before now (λ name. elim (name_cases name id b) [
  | inl is ↦ comes_back before now name read_b (ap (λ n. reading_given (before n)) is ∙ read_before before mid id a takes_a b read_b differ reads_b) (ap now is ∙ on_b)
  | inr not_b ↦
      elim (name_cases name id a) [
        | inl is ↦ comes_back before now name read_a (ap (λ n. reading_given (before n)) is ∙ reads_a) (returns_b name not_b ∙ ap less is ∙ on_a)
        | inr not_a ↦ stays_there before now name (returns_b name not_b ∙ returns_a name not_a ∙ takes_b name not_b ∙ takes_a name not_a)
      ]
])

-- ---- which one was asked for ----

module _ {S : Type 0} (m : Holdings S) (id : ℕ) (asked answered : S) (still : m.disk answered ≡ m.disk asked) (rose : Rose (m.disk_faults asked) (m.disk_faults answered)) where
  abbrev Taken : Role → Type 0
  Taken role = (other : Role) → is_earlier other role ≡ true → IsOut (m.disk asked (disk_name id other))

  abbrev There : Places → Role → Type 0
  There first role = (other : Role) → is_earlier other role ≡ false → m.disk asked (disk_name id other) ≡ first (disk_name id other)

  not_given : (first : Places) (role is : Role) → is ≡ role → Taken role → There first role → IsNotGiven m first id is
  not_given first role is e taken there = subst (λ (r : Role). IsNotGiven m first id r) (sym e) (record { asked = asked; answered = answered; still = still; rose = rose; taken = taken; there = there })

  pub low_not_given : (is : Role) → is ≡ roles.Low → IsNotGiven m (m.disk asked) id is
  low_not_given is e = not_given (m.disk asked) roles.Low is e none (λ other later. refl)
    where
      none : Taken roles.Low
      none roles.Low before = cc
      none roles.High before = cc
      none roles.Recv before = cc

  pub high_not_given : (first : Places) (low : ℕ) (is : Role) → is ≡ roles.High → IsOutAt (m.disk asked) id roles.Low low → MovesOnly first (m.disk asked) id roles.Low → IsNotGiven m first id is
  high_not_given first low is e out moved = not_given first roles.High is e taken there
    where
      taken : Taken roles.High
      taken roles.Low before = is_out_at (m.disk asked) id roles.Low low out
      taken roles.High before = cc
      taken roles.Recv before = cc

      there : There first roles.High
      there roles.Low later = cc
      there roles.High later = role_kept first (m.disk asked) id roles.Low moved roles.High (λ i. cc)
      there roles.Recv later = role_kept first (m.disk asked) id roles.Low moved roles.Recv (λ i. cc)

  pub recv_not_given : (first mid : Places) (low high : ℕ) (is : Role) → is ≡ roles.Recv → IsOutAt (m.disk asked) id roles.Low low → IsOutAt (m.disk asked) id roles.High high
      → MovesOnly first mid id roles.Low → MovesOnly mid (m.disk asked) id roles.High → IsNotGiven m first id is
  recv_not_given first mid low high is e low_out high_out low_moved high_moved = not_given first roles.Recv is e taken there
    where
      taken : Taken roles.Recv
      taken roles.Low before = is_out_at (m.disk asked) id roles.Low low low_out
      taken roles.High before = is_out_at (m.disk asked) id roles.High high high_out
      taken roles.Recv before = cc

      there : There first roles.Recv
      there roles.Low later = cc
      there roles.High later = cc
      there roles.Recv later = role_kept mid (m.disk asked) id roles.High high_moved roles.Recv (λ i. cc) ∙ role_kept first mid id roles.Low low_moved roles.Recv (λ i. cc)
