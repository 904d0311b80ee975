-- Disks that come off a shelf and back on it.
use Rattle.std.proofs.Common.{◌≡◌, ◌≤◌, ℕ, Bool, true, false, List, [], Some, inl, inr, refl, sym, ap, ◌∙◌, subst, arith}
use Rattle.std.specs.Prelude.{◌⊎◌}
use Rattle.std.proofs.lemmas.Bool.{cases_eq}
use Rattle.disk_model.specs.Disk.{Meaning}
use Rattle.disk_model.specs.declared.name.DiskName.{DiskName}
use Rattle.disk_model.specs.declared.name.Role.{Role}
use Rattle.disk_model.specs.declared.name.Role.TheVariants as roles
use Rattle.disk_model.specs.Shelf.{Whereabouts, OnShelf, Out, Nowhere, IsOut, reading_given}
use Rattle.pump_frame.specs.Counts.{Rose}
use Rattle.pump_frame.specs.declared.row.SessionRow.{SessionRow}
use Rattle.stable_buffer.specs.Format.{new_bytes}
use Rattle.two_worlds.specs.Openings.{LeavesDisk}
use Rattle.two_worlds.specs.Rooms.{Serves}
use Rattle.script_replay.specs.Lending.{IsOutAt, AreOnShelf, Readies}
use Rattle.script_replay.specs.Shelves.{Places, disk_name, reading_in, reading_at, LeavesOtherSessions, AllAreBack, Spares}

pub read_in : (w : Whereabouts) (r : List ℕ) → reading_given w ≡ Some r → reading_in w ≡ r
read_in (OnShelf x) r e = cc
read_in (Out given) r e = cc
read_in Nowhere r e = cc

not_out : (w : Whereabouts) (r : List ℕ) → w ≡ OnShelf r → IsOut w → ⊥
not_out w r e out = subst IsOut e out

pub is_out : (w : Whereabouts) (count : ℕ) → (given : ℕ) × (w ≡ Out given) × (given ≤ count) → IsOut w
is_out w count h = subst IsOut (sym h.1) tt

pub name_is : (name : DiskName) (session : ℕ) → name.session ≡ session → name ≡ disk_name session name.role
name_is name session e = ap (λ (s : ℕ). disk_name s name.role) e

pub rose_more : (given first last : ℕ) → given ≤ first → Rose first last → Rose given last
rose_more given first last low rose = omega (arith, low, rose)

-- ---- a disk that is put back ----

module _ (before mid now : Places) (id : ℕ) (taken : LeavesOtherSessions before mid id) (returned : LeavesOtherSessions mid now id) where
  pub others_so : LeavesOtherSessions before now id
  others_so name other = returned name other ∙ taken name other

  module _ (low high recv : List ℕ) (on : AreOnShelf now id low high recv) where
    at_home : (role : Role) → (r : List ℕ) × (now (disk_name id role) ≡ OnShelf r)
    at_home roles.Low = (low, on.low_on)
    at_home roles.High = (high, on.high_on)
    at_home roles.Recv = (recv, on.recv_on)

    pub all_back : AllAreBack before now
    all_back name out = elim (cases_eq name.session id) [
      | inl same ↦
          let home = at_home name.role in
          absurd (not_out (now name) home.0 (ap now (name_is name id same) ∙ home.1) out)
      | inr other ↦ subst IsOut (others_so name other) out
    ]

    module _ (spared : (role : Role) → (reading_at before id role ≡ [] → ⊥) → reading_at now id role ≡ reading_at before id role) where
      pub spares_so : Spares before now
      spares_so name some = elim (cases_eq name.session id) [
        | inl same ↦
            let e = name_is name id same in
            ap (λ n. reading_in (now n)) e ∙ spared name.role (λ none. some (ap (λ n. reading_in (before n)) e ∙ none)) ∙ ap (λ n. reading_in (before n)) (sym e)
        | inr other ↦ ap reading_in (others_so name other)
      ]

    module _ (row : SessionRow) (is : id ≡ row.id)
        (left : (role : Role) → (reading_at now id role ≡ reading_at before id role) ⊎ ((reading_at before id role ≡ []) × (reading_at now id role ≡ new_bytes row role 0))) where
      pub readies_so : Readies before now row
      readies_so name = elim (cases_eq name.session id) [
        | inl same ↦
            let e = name_is name id same in
            elim (left name.role) [
              | inl kept ↦ inl (ap (λ n. reading_in (now n)) e ∙ kept ∙ ap (λ n. reading_in (before n)) (sym e))
              | inr fresh ↦ inr (same ∙ is, ap (λ n. reading_in (before n)) e ∙ fresh.0, ap (λ n. reading_in (now n)) e ∙ fresh.1)
            ]
        | inr other ↦ inl (ap reading_in (others_so name other))
      ]

-- ---- what an opening leaves ----

module _ {D : Type 0} (d : Meaning D) (tells : d.tells) (row : SessionRow) (role : Role) (old new : D) (is_fault : Bool) where
  pub spared_by : LeavesDisk d row role old new is_fault → (d.reading old ≡ [] → ⊥) → d.reading new ≡ d.reading old
  spared_by h some = elim h.left [
    | inl same ↦ same.reads tells
    | inr fresh ↦ absurd (some (fresh tells).0)
  ]

  pub left_by : is_fault ≡ false → LeavesDisk d row role old new is_fault → (d.reading new ≡ d.reading old) ⊎ ((d.reading old ≡ []) × (d.reading new ≡ new_bytes row role 0))
  left_by fine h = elim h.left [
    | inl same ↦ inl (same.reads tells)
    | inr fresh ↦ inr ((fresh tells).0, (fresh tells).1 fine)
  ]

pub counts_more : {D : Type 0} (d : Meaning D) (size : ℕ) (old new : D) (is_fault : Bool) → Serves d size old new is_fault → d.count old ≤ d.count new
counts_more d size old new is_fault (inl same) = subst (λ x. d.count old ≤ d.count x) (sym same.0) (omega arith)
counts_more d size old new is_fault (inr answers) = answers.counts

pub rises_more : {D : Type 0} (d : Meaning D) (size : ℕ) (old new : D) (is_fault : Bool) → is_fault ≡ true → Serves d size old new is_fault → Rose (d.count old) (d.count new)
rises_more d size old new true e (inl same) = cc (sym same.1)
rises_more d size old new true e (inr answers) = answers.rose refl
rises_more d size old new false e h = cc

-- it is out still, and has not failed less often
pub out_still : (places : Places) (id : ℕ) (role : Role) (first last : ℕ) → first ≤ last → IsOutAt places id role first → IsOutAt places id role last
out_still places id role first last low h = let least = h.2 in (h.0, h.1, omega (arith, least, low))
