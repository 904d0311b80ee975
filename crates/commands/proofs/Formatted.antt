-- Disks that are formatted, and back on the shelf.
use Rattle.std.proofs.Common.{◌≡◌, ℕ, List, [], Option, None, Some, Result, Ok, Err, IfErr, OnOk, inl, inr, refl, sym, ap, ◌∙◌, subst}
use Rattle.std.proofs.lemmas.Bool.{cases_eq}
use Rattle.disk_model.specs.Disk.{Meaning}
use Rattle.disk_model.specs.declared.name.Role.{Role}
use Rattle.disk_model.specs.declared.name.Role.TheVariants as roles
use Rattle.pump_frame.specs.Counts.{Rose}
use Rattle.pump_frame.specs.Rows.{IsLawfulRow}
use Rattle.pump_frame.specs.declared.row.SessionRow.{SessionRow}
use Rattle.script_reader.specs.Openings.{nothing_found}
use Rattle.stable_buffer.specs.Format.{new_bytes}
use Rattle.two_worlds.specs.Openings.{StandForFound}
use Rattle.two_worlds.proofs.Opening.NewDisks.{nothing_stands}
use Rattle.commands.specs.Formatting.{IsSpared, first_full, IsFormatted, FormatStops, FormatsSo, IsDiskEnd}
use Rattle.command_ends.specs.Tables.{HasRow}
use Rattle.script_replay.specs.Lending.{ReadAt, IsOutAt, RisesAt, AreOnShelf}
use Rattle.script_replay.specs.Shelves.{Places, reading_in, reading_at, LeavesOtherSessions, ReadsAlike}
use Rattle.commands.specs.TakenDisks.{HasBytes, RoseAt, StopsFormat}
use Rattle.command_ends.specs.declared.command_end.CommandEnd.{CommandEnd}
use Rattle.command_ends.specs.declared.command_end.CommandEnd.TheVariants.{Memory, Failed, Refused}
use Rattle.recovery.specs.declared.trio.Trio.{Trio}
use Rattle.script_replay.proofs.Shelving.{read_in, name_is, rose_more, others_so, spares_so}

pub on_ok : {T E P Q R : Type 0} (r : Result T E) → OnOk r P → OnOk r Q → (P → Q → R) → OnOk r R
on_ok (Ok x) p q f = f p q
on_ok (Err e) p q f = tt

pub if_err : {T E : Type 0} (r : Result T E) (P Q : E → Type 0) → IfErr r P → ((e : E) → P e → Q e) → IfErr r Q
if_err (Ok x) P Q h f = tt
if_err (Err e) P Q h f = f e h

abbrev pub disk_of : {D : Type 0} → Role → Trio D → D
disk_of roles.Low disks = disks.low
disk_of roles.High disks = disks.high
disk_of roles.Recv disks = disks.recv

-- ---- before and after ----

module _ {D : Type 0} (d : Meaning D) (tells : d.tells) (before mid now : Places) (id : ℕ) (old new : Trio D)
    (taken : LeavesOtherSessions before mid id) (returned : LeavesOtherSessions mid now id)
    (low_read : ReadAt before id roles.Low (d.reading old.low)) (high_read : ReadAt before id roles.High (d.reading old.high)) (recv_read : ReadAt before id roles.Recv (d.reading old.recv))
    (on : AreOnShelf now id (d.reading new.low) (d.reading new.high) (d.reading new.recv)) where
  pub was : (role : Role) → reading_at before id role ≡ d.reading (disk_of role old)
  was roles.Low = read_in _ _ low_read
  was roles.High = read_in _ _ high_read
  was roles.Recv = read_in _ _ recv_read

  pub is : (role : Role) → reading_at now id role ≡ d.reading (disk_of role new)
  is roles.Low = ap reading_in on.low_on
  is roles.High = ap reading_in on.high_on
  is roles.Recv = ap reading_in on.recv_on

  pub alike_so : ((role : Role) → d.reading (disk_of role new) ≡ d.reading (disk_of role old)) → ReadsAlike before now
  alike_so same name = elim (cases_eq name.session id) [
    | inl mine ↦
        let e = name_is name id mine in
        ap (λ n. reading_in (now n)) e ∙ is name.role ∙ same name.role ∙ sym (was name.role) ∙ ap (λ n. reading_in (before n)) (sym e)
    | inr other ↦ ap reading_in (others_so before mid now id taken returned name other)
  ]

  pub spared_so : ((role : Role) → (d.reading (disk_of role old) ≡ [] → ⊥) → d.reading (disk_of role new) ≡ d.reading (disk_of role old)) → IsSpared before now id
  spared_so spared = record {
    spares = spares_so before mid now id taken returned _ _ _ on (λ role some. is role ∙ spared role (λ none. some (was role ∙ none)) ∙ sym (was role));
    others = others_so before mid now id taken returned;
  }

module _ {D : Type 0} (d : Meaning D) (tells : d.tells) (before mid now : Places) (row : SessionRow) (old new : Trio D)
    (taken : LeavesOtherSessions before mid row.id) (returned : LeavesOtherSessions mid now row.id)
    (low_read : ReadAt before row.id roles.Low (d.reading old.low)) (high_read : ReadAt before row.id roles.High (d.reading old.high)) (recv_read : ReadAt before row.id roles.Recv (d.reading old.recv))
    (on : AreOnShelf now row.id (d.reading new.low) (d.reading new.high) (d.reading new.recv)) where
  was_at : (role : Role) → reading_at before row.id role ≡ d.reading (disk_of role old)
  was_at = was d tells before mid now row.id old new taken returned low_read high_read recv_read on

  is_at : (role : Role) → reading_at now row.id role ≡ d.reading (disk_of role new)
  is_at = is d tells before mid now row.id old new taken returned low_read high_read recv_read on

  pub formatted_so : IsLawfulRow row → HasBytes d (λ role. []) old → HasBytes d (λ role. new_bytes row role 0) new → IsFormatted before now row
  formatted_so lawful none made =
      let n = none tells in
      let m = made tells in
      let fresh : (role : Role) → reading_at now row.id role ≡ new_bytes row role 0 = λ role. is_at role ∙ (elim role as (λ r. d.reading (disk_of r new) ≡ new_bytes row r 0) [ roles.Low ↦ m.0 | roles.High ↦ m.1 | roles.Recv ↦ m.2 ]) in
      record {
        empty = subst (λ (t : List ℕ × List ℕ × List ℕ). first_full t.0 t.1 t.2 ≡ None) (λ i. (sym (was_at roles.Low ∙ n.0) i, sym (was_at roles.High ∙ n.1) i, sym (was_at roles.Recv ∙ n.2) i)) refl;
        new = fresh;
        stand = subst (λ (t : List ℕ × List ℕ × List ℕ). StandForFound row nothing_found t.0 t.1 t.2) (λ i. (sym (fresh roles.Low) i, sym (fresh roles.High) i, sym (fresh roles.Recv) i)) (nothing_stands row lawful);
        others = others_so before mid now row.id taken returned;
      }

  pub stops_so : (end : CommandEnd) → StopsFormat d old new end → FormatStops before now row end
  stops_so (Failed role) h =
      let s = h.1 tells in
      spared_so d tells before mid now row.id old new taken returned low_read high_read recv_read on
      (λ role. elim role as (λ r. (d.reading (disk_of r old) ≡ [] → ⊥) → d.reading (disk_of r new) ≡ d.reading (disk_of r old)) [ roles.Low ↦ s.0 | roles.High ↦ s.1 | roles.Recv ↦ s.2 ])
  stops_so (Refused role why) h =
      let s = h.1 tells in (
        subst (λ (t : List ℕ × List ℕ × List ℕ). first_full t.0 t.1 t.2 ≡ Some (role, why)) (λ i. (sym (was_at roles.Low) i, sym (was_at roles.High) i, sym (was_at roles.Recv) i)) (h.0 tells),
        alike_so d tells before mid now row.id old new taken returned low_read high_read recv_read on
            (λ role. elim role as (λ r. d.reading (disk_of r new) ≡ d.reading (disk_of r old)) [ roles.Low ↦ s.0 | roles.High ↦ s.1 | roles.Recv ↦ s.2 ]),
      )
  stops_so end h = absurd h

-- ---- a disk that failed while it was out ----

module _ {D : Type 0} (d : Meaning D) (mid : Places) (id : ℕ) (old new : Trio D) (first last : ℕ) where
  rises_at : (role : Role) (was now : D) → IsOutAt mid id role (d.count was) → RisesAt mid id role (d.count now) first last → Rose (d.count was) (d.count now) → Rose first last
  rises_at role was now out rises rose = rises out.0 out.1 (rose_more out.0 (d.count was) (d.count now) out.2 rose)

  pub rises_so : IsOutAt mid id roles.Low (d.count old.low) → IsOutAt mid id roles.High (d.count old.high) → IsOutAt mid id roles.Recv (d.count old.recv)
      → RisesAt mid id roles.Low (d.count new.low) first last → RisesAt mid id roles.High (d.count new.high) first last → RisesAt mid id roles.Recv (d.count new.recv) first last
      → (role : Role) → RoseAt d role old new → Rose first last
  rises_so a b c x y z roles.Low rose = rises_at roles.Low old.low new.low a x rose
  rises_so a b c x y z roles.High rose = rises_at roles.High old.high new.high b y rose
  rises_so a b c x y z roles.Recv rose = rises_at roles.Recv old.recv new.recv c z rose

-- what stops a format with this end is that the disk failed
pub failed_at : {D T : Type 0} (d : Meaning D) (old new : Trio D) (r : Result T CommandEnd) (role : Role) → IfErr r (StopsFormat d old new) → r ≡ Err (Failed role) → RoseAt d role old new
failed_at d old new (Ok x) role h e = cc
failed_at d old new (Err end) role h e =
    let same : end ≡ Failed role = cc in
    let fails : StopsFormat d old new (Failed role) = subst (λ (k : CommandEnd). StopsFormat d old new k) same h in
    fails.0

pub disk_end : {D : Type 0} (d : Meaning D) (old new : Trio D) (end : CommandEnd) → StopsFormat d old new end → IsDiskEnd end
disk_end d old new (Failed role) h = tt
disk_end d old new (Refused role why) h = tt
disk_end d old new end h = absurd h

-- what a row's disks are formatted to is what the table's file gives for the session
pub formats_so : (told tells : Type 0) (file : Option (List ℕ)) (before mid after : Places) (fails : ℕ → Role → Type 0) (session : ℕ) (row : SessionRow) (r : Result (Unit {0}) CommandEnd)
    → HasRow file session row → row.id ≡ session → mid ≡ before → OnOk r (told → tells → IsFormatted mid after row) → IfErr r (λ end. told → tells → FormatStops mid after row end)
    → ((role : Role) → r ≡ Err (Failed role) → fails session role) → told → tells → FormatsSo file before after fails session r
formats_so told tells file before mid after fails session row (Ok done) has id same ok stops names t u =
    (row, has, subst (λ (p : Places). IsFormatted p after row) same (ok t u), refl)
formats_so told tells file before mid after fails session row (Err Memory) has id same ok stops names t u =
    (subst (λ (n : ℕ). IsSpared before after n) id (subst (λ (p : Places). FormatStops p after row Memory) same (stops t u)), refl)
formats_so told tells file before mid after fails session row (Err (Failed role)) has id same ok stops names t u =
    (row, has, names role refl, subst (λ (p : Places). FormatStops p after row (Failed role)) same (stops t u), refl)
formats_so told tells file before mid after fails session row (Err (Refused role why)) has id same ok stops names t u =
    (row, has, subst (λ (p : Places). FormatStops p after row (Refused role why)) same (stops t u), refl)
formats_so told tells file before mid after fails session row (Err end) has id same ok stops names t u = absurd (stops t u)
