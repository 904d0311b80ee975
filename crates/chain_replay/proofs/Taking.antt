-- The disks of two sessions come off a shelf and back on it.
use Rattle.std.proofs.Common.{◌≡◌, ◌∙◌, ℕ, inl, inr, Option, None, Some, refl, sym, ap, subst}
use Rattle.std.proofs.lemmas.Bool.{cases_eq}
use Rattle.disk_model.specs.Disk.{Meaning}
use Rattle.disk_model.specs.declared.name.Role.{Role}
use Rattle.disk_model.specs.declared.name.Role.TheVariants as roles
use Rattle.disk_model.specs.Shelf.{Holdings, OnShelf, IsOut}
use Rattle.disk_model.specs.declared.shelf.ShelfFault.{ShelfFault}
use Rattle.disk_model.specs.declared.shelf.ShelfFault.TheVariants.{Failed, Memory}
use Rattle.pump_chain.specs.Opening.{disk_in}
use Rattle.pump_frame.specs.Counts.{Rose}
use Rattle.recovery.specs.declared.trio.Trio.{Trio}
use Rattle.script_reader.specs.declared.fault.Fault.{Fault}
use Rattle.script_reader.specs.declared.fault.Fault.TheVariants as faults
use Rattle.script_replay.specs.Failing.{IsNotGiven}
use Rattle.script_replay.specs.Lending.{AreOnShelf}
use Rattle.script_replay.specs.Shelves.{Places, disk_name, reading_in, LeavesOtherSessions, AllAreBack, ReadsAlike}
use Rattle.script_replay.proofs.Shelving.{is_out, read_in, name_is}
use Rattle.chain_replay.specs.Opened.{LeavesOthers}
use Rattle.chain_replay.specs.Private.{AreReadAt, AreOutAt, AreBackAt, AreOut, AreHome, IsUntaken, IsUntakenAt}

pub by_role : (P : Role → Type 0) → P roles.Low → P roles.High → P roles.Recv → (role : Role) → P role
by_role P low high recv roles.Low = low
by_role P low high recv roles.High = high
by_role P low high recv roles.Recv = recv

module _ {D : Type 0} (m : Meaning D) (places : Places) (session : ℕ) (t : Trio D) where
  pub back_by : AreOnShelf places session (m.reading t.low) (m.reading t.high) (m.reading t.recv) → AreBackAt m places session t
  back_by on = by_role (λ role. places (disk_name session role) ≡ OnShelf (m.reading (disk_in role t))) on.low_on on.high_on on.recv_on

  pub home_by : AreBackAt m places session t → AreHome places session
  home_by back role out = subst IsOut (back role) out

  pub are_out : AreOutAt m places session t → AreOut places session
  are_out out role = is_out (places (disk_name session role)) _ (out role)

-- ---- the other session's ----

module _ {D : Type 0} (m : Meaning D) (before now : Places) (one two : ℕ) (apart : one ≡ two → ⊥) (t : Trio D) where
  same_there : LeavesOtherSessions before now two → (role : Role) → now (disk_name one role) ≡ before (disk_name one role)
  same_there others role = others (disk_name one role) apart

  pub out_there : LeavesOtherSessions before now two → AreOutAt m before one t → AreOutAt m now one t
  out_there others out role = let h = out role in (h.0, same_there others role ∙ h.1, h.2)

-- a disk of the second session was not given, once the first one's were taken
pub not_given_there : {S : Type 0} (h : Holdings S) (before now : Places) (one two : ℕ) (apart : one ≡ two → ⊥) (role : Role) → LeavesOtherSessions before now one → IsNotGiven h now two role → IsNotGiven h before two role
not_given_there h before now one two apart role others n = record {
  asked = n.asked;
  answered = n.answered;
  still = n.still;
  rose = n.rose;
  taken = n.taken;
  there = λ other later. n.there other later ∙ others (disk_name two other) (λ e. apart (sym e));
}

-- the disk that was not given is the one that is named
pub untaken_named : {S : Type 0} (h : Holdings S) (before : Places) (session : ℕ) (fault : Option Fault) (what : ShelfFault) (named : Role) → (what ≡ Failed → IsNotGiven h before session named)
    → (what ≡ Memory → fault ≡ None) → (what ≡ Failed → fault ≡ Some (faults.Device session named)) → IsUntakenAt (IsNotGiven h before) session fault
untaken_named h before session fault Memory named asked memory failed = subst (λ (f : Option Fault). IsUntakenAt (IsNotGiven h before) session f) (sym (memory refl)) tt
untaken_named h before session fault Failed named asked memory failed = subst (λ (f : Option Fault). IsUntakenAt (IsNotGiven h before) session f) (sym (failed refl)) (named, refl, asked refl)

-- a fault comes only where the shelf failed
pub untaken_rose : (first last : ℕ) (fault : Option Fault) (what : ShelfFault) → (what ≡ Memory → fault ≡ None) → (what ≡ Failed → Rose first last) → (f : Fault) → fault ≡ Some f → Rose first last
untaken_rose first last fault Memory memory rose f is = (let e = sym (memory refl) ∙ is in absurd (cc))
untaken_rose first last fault Failed memory rose f is = rose refl

pub untaken_first : (fails : ℕ → Role → Type 0) (one two : ℕ) (fault : Option Fault) → IsUntakenAt fails one fault → IsUntaken fails one two fault
untaken_first fails one two None h = tt
untaken_first fails one two (Some fault) (role, is, failed) = (role, inl (is, failed))

pub untaken_second : (fails more : ℕ → Role → Type 0) (one two : ℕ) (fault : Option Fault) → ((role : Role) → fails two role → more two role) → IsUntakenAt fails two fault → IsUntaken more one two fault
untaken_second fails more one two None so h = tt
untaken_second fails more one two (Some fault) so (role, is, failed) = (role, inr (is, so role failed))

-- the first session's disks came back, since one of the second was not given
module _ {D : Type 0} (m : Meaning D) (before mid later after : Places) (one : ℕ) (t : Trio D) where
  pub alike_back : AreReadAt m before one t → LeavesOtherSessions before mid one → ReadsAlike mid later → AreBackAt m after one t → LeavesOtherSessions later after one → ReadsAlike before after
  alike_back read taken alike back others name = elim (cases_eq name.session one) [
    | inl same ↦
        let e = name_is name one same in
        ap (λ n. reading_in (after n)) e ∙ ap reading_in (back name.role) ∙ sym (read_in (before (disk_name one name.role)) _ (read name.role)) ∙ ap (λ n. reading_in (before n)) (sym e)
    | inr other ↦ ap reading_in (others name other) ∙ alike name ∙ ap reading_in (taken name other)
  ]

  pub home_back : LeavesOtherSessions before mid one → AllAreBack mid later → AreBackAt m after one t → LeavesOtherSessions later after one → AllAreBack before after
  home_back taken home back others name out = elim (cases_eq name.session one) [
    | inl same ↦ absurd (subst IsOut (ap after (name_is name one same) ∙ back name.role) out)
    | inr other ↦ subst IsOut (taken name other) (home name (subst IsOut (others name other) out))
  ]

pub others_more : (before mid now : Places) (one two : ℕ) → LeavesOthers before mid one two → LeavesOthers mid now one two → LeavesOthers before now one two
others_more before mid now one two first second name a b = second name a b ∙ first name a b
