-- Disks that are shown, and back on the shelf.
use Rattle.std.proofs.Common.{◌≡◌, ◌<◌, ◌+◌, ℕ, zero, suc, true, false, List, [], ◌∷◌, ◌++◌, length, take, drop, get_or, Option, None, Some, Result, Ok, Err, IfOk, IfErr, IfSome, refl, sym, ap, ◌∙◌, subst, arith, add-zero, append_assoc, append-nil}
use Rattle.std.specs.Prelude.{◌&&◌}
use Rattle.disk_model.specs.Disk.{Meaning}
use Rattle.disk_model.specs.declared.name.Role.{Role}
use Rattle.disk_model.specs.declared.name.Role.TheVariants as roles
use Rattle.pump_frame.specs.declared.payload.Payload.{Payload}
use Rattle.pump_frame.specs.declared.row.SessionRow.{SessionRow}
use Rattle.recovery.specs.Calls.{is_device}
use Rattle.recovery.specs.declared.why.Why.{Why}
use Rattle.recovery.specs.declared.why.Why.TheVariants as whys
use Rattle.script_reader.specs.Openings.{Found, accepted_in}
use Rattle.script_reader.specs.Transcript.{event_line, text}
use Rattle.script_reader.specs.declared.event.Event.TheVariants.{Live}
use Rattle.two_worlds.specs.Openings.{StandForFound, IsRefused, failed_at, is_for_device}
use Rattle.two_worlds.specs.Rooms.{is_role}
use Rattle.two_worlds.specs.Surveys.{IsRead}
use Rattle.two_worlds.specs.declared.not_open.NotOpen.{NotOpen}
use Rattle.script_replay.specs.Lending.{ReadAt, AreOnShelf}
use Rattle.script_replay.specs.Shelves.{Places, OfDisks, disk_name, reading_at, LeavesOtherSessions, ReadsAlike}
use Rattle.commands.specs.Showing.{live_messages, shown_counts, shown, IsShown, ShowStops, ShowsSo, end_at}
use Rattle.command_ends.specs.Tables.{HasRow}
use Rattle.commands.specs.TakenDisks.{RoseAt}
use Rattle.command_ends.specs.declared.command_end.CommandEnd.{CommandEnd}
use Rattle.command_ends.specs.declared.command_end.CommandEnd.TheVariants.{Memory, Failed, Refused}
use Rattle.recovery.specs.declared.trio.Trio.{Trio}
use Rattle.commands.proofs.Formatted.{disk_of, was, alike_so}
use Rattle.script_replay.proofs.Shelving.{others_so}

-- ---- the lines ----

pub live_more : (session first : ℕ) (live : List Payload) (i : ℕ) (m : Payload) → i < length live → m ≡ get_or live i m
    → text (live_messages session first (take i live)) ++ event_line (Live session (first + i) m) ≡ text (live_messages session first (take (suc i) live))
live_more session first [] i m low is = absurd (omega arith)
live_more session first (x ∷ xs) zero m low is = rw add-zero (ap (λ p. event_line (Live session first p)) is ∙ sym (append-nil (event_line (Live session first x))))
live_more session first (x ∷ xs) (suc i) m low is =
    let at : first + suc i ≡ first + 1 + i = omega arith in
    append_assoc (event_line (Live session first x)) (text (live_messages session (first + 1) (take i xs))) (event_line (Live session (first + suc i) m))
    ∙ ap (λ t. event_line (Live session first x) ++ t)
    (ap (λ k. text (live_messages session (first + 1) (take i xs)) ++ event_line (Live session k m)) at ∙ live_more session (first + 1) xs i m (omega arith) is)

-- ---- the disks ----

module _ {D : Type 0} (d : Meaning D) (tells : d.tells) (before mid now : Places) (row : SessionRow) (old new : Trio D)
    (taken : LeavesOtherSessions before mid row.id) (returned : LeavesOtherSessions mid now row.id)
    (low_read : ReadAt before row.id roles.Low (d.reading old.low)) (high_read : ReadAt before row.id roles.High (d.reading old.high)) (recv_read : ReadAt before row.id roles.Recv (d.reading old.recv))
    (on : AreOnShelf now row.id (d.reading new.low) (d.reading new.high) (d.reading new.recv))
    (low_is : d.reading new.low ≡ d.reading old.low) (high_is : d.reading new.high ≡ d.reading old.high) (recv_is : d.reading new.recv ≡ d.reading old.recv) where
  was_at : (role : Role) → reading_at before row.id role ≡ d.reading (disk_of role old)
  was_at = was d tells before mid now row.id old new taken returned low_read high_read recv_read on

  pub alike : ReadsAlike before now
  alike = alike_so d tells before mid now row.id old new taken returned low_read high_read recv_read on
      (λ role. elim role as (λ r. d.reading (disk_of r new) ≡ d.reading (disk_of r old)) [ roles.Low ↦ low_is | roles.High ↦ high_is | roles.Recv ↦ recv_is ])

  of_before : (Holds : List ℕ → List ℕ → List ℕ → Type 0) → Holds (d.reading old.low) (d.reading old.high) (d.reading old.recv) → OfDisks before row.id Holds
  of_before Holds h = subst (λ (t : List ℕ × List ℕ × List ℕ). Holds t.0 t.1 t.2) (λ i. (sym (was_at roles.Low) i, sym (was_at roles.High) i, sym (was_at roles.Recv) i)) h

  of_now : (Holds : List ℕ → List ℕ → List ℕ → Type 0) → Holds (d.reading old.low) (d.reading old.high) (d.reading old.recv) → OfDisks now row.id Holds
  of_now Holds h = subst (λ (t : List ℕ × List ℕ × List ℕ). Holds t.0 t.1 t.2)
      (λ i. (sym (alike (disk_name row.id roles.Low)) i, sym (alike (disk_name row.id roles.High)) i, sym (alike (disk_name row.id roles.Recv)) i)) (of_before Holds h)

  pub shown_so : (f : Found) (output : List ℕ) → StandForFound row f (d.reading old.low) (d.reading old.high) (d.reading old.recv) → output ≡ shown row.id f → IsShown before now row output
  shown_so f output s is = record {
    found = f;
    stand = of_before (StandForFound row f) s;
    still = of_now (StandForFound row f) s;
    alike = alike;
    others = others_so before mid now row.id taken returned;
    output_is = is;
  }

  pub stops_so : (role : Role) (why : Option Why) → IfSome why (λ w. is_device w ≡ false → d.tells → IsRefused row (d.reading old.low) (d.reading old.high) (d.reading old.recv) role w)
      → ShowStops before now row (end_at role why)
  stops_so role None h = alike
  stops_so role (Some (whys.Device n)) h = alike
  stops_so role (Some (whys.NotABuffer size bytes)) h = (of_before (λ low high recv. IsRefused row low high recv role (whys.NotABuffer size bytes)) (h refl tells), alike)
  stops_so role (Some (whys.WrongShape field found wanted)) h = (of_before (λ low high recv. IsRefused row low high recv role (whys.WrongShape field found wanted)) (h refl tells), alike)
  stops_so role (Some (whys.BadRegister first second)) h = (of_before (λ low high recv. IsRefused row low high recv role (whys.BadRegister first second)) (h refl tells), alike)
  stops_so role (Some (whys.Mismatch removed accepted)) h = (of_before (λ low high recv. IsRefused row low high recv role (whys.Mismatch removed accepted)) (h refl tells), alike)
  stops_so role (Some (whys.BadSlot number length')) h = (of_before (λ low high recv. IsRefused row low high recv role (whys.BadSlot number length')) (h refl tells), alike)
  stops_so role (Some (whys.Apart count bound)) h = (of_before (λ low high recv. IsRefused row low high recv role (whys.Apart count bound)) (h refl tells), alike)
  stops_so role (Some (whys.Differs number)) h = (of_before (λ low high recv. IsRefused row low high recv role (whys.Differs number)) (h refl tells), alike)
  stops_so role (Some (whys.NotEmpty size)) h = (of_before (λ low high recv. IsRefused row low high recv role (whys.NotEmpty size)) (h refl tells), alike)
  stops_so role (Some (whys.Small held capacity)) h = (of_before (λ low high recv. IsRefused row low high recv role (whys.Small held capacity)) (h refl tells), alike)
  stops_so role (Some (whys.TooLong number size)) h = (of_before (λ low high recv. IsRefused row low high recv role (whys.TooLong number size)) (h refl tells), alike)

-- ---- the end ----

-- the disk of this role failed
is_blamed : (role other : Role) (why : Option Why) → end_at other why ≡ Failed role → (is_for_device why && is_role role other) ≡ true
is_blamed role other None e = cc
is_blamed role other (Some (whys.NotABuffer size bytes)) e = cc
is_blamed role other (Some (whys.WrongShape field found wanted)) e = cc
is_blamed role other (Some (whys.BadRegister first second)) e = cc
is_blamed role other (Some (whys.Mismatch removed accepted)) e = cc
is_blamed role other (Some (whys.BadSlot number length')) e = cc
is_blamed role other (Some (whys.Apart count bound)) e = cc
is_blamed role other (Some (whys.Differs number)) e = cc
is_blamed role other (Some (whys.NotEmpty size)) e = cc
is_blamed role other (Some (whys.Small held capacity)) e = cc
is_blamed role other (Some (whys.TooLong number size)) e = cc
is_blamed roles.Low roles.Low (Some (whys.Device n)) e = refl
is_blamed roles.High roles.High (Some (whys.Device n)) e = refl
is_blamed roles.Recv roles.Recv (Some (whys.Device n)) e = refl
is_blamed roles.Low roles.High (Some (whys.Device n)) e = cc
is_blamed roles.Low roles.Recv (Some (whys.Device n)) e = cc
is_blamed roles.High roles.Low (Some (whys.Device n)) e = cc
is_blamed roles.High roles.Recv (Some (whys.Device n)) e = cc
is_blamed roles.Recv roles.Low (Some (whys.Device n)) e = cc
is_blamed roles.Recv roles.High (Some (whys.Device n)) e = cc

pub rose_at : {D : Type 0} (d : Meaning D) (old : Trio D) (e : NotOpen D) → IsRead d old.low e.low (failed_at roles.Low e) → IsRead d old.high e.high (failed_at roles.High e) → IsRead d old.recv e.recv (failed_at roles.Recv e)
    → (role : Role) → end_at e.role e.why ≡ Failed role → RoseAt d role old (record { low = e.low; high = e.high; recv = e.recv })
rose_at d old e a b c roles.Low is = a.rose (is_blamed roles.Low e.role e.why is)
rose_at d old e a b c roles.High is = b.rose (is_blamed roles.High e.role e.why is)
rose_at d old e a b c roles.Recv is = c.rose (is_blamed roles.Recv e.role e.why is)

-- ---- answers ----

pub if_ok : {T E : Type 0} (r : Result T E) (P Q : T → Type 0) → IfOk r P → ((x : T) → P x → Q x) → IfOk r Q
if_ok (Ok x) P Q h f = f x h
if_ok (Err e) P Q h f = tt

pub not_failed : {T : Type 0} (r : Result T CommandEnd) (role : Role) → IfErr r (λ end. end ≡ Memory) → r ≡ Err (Failed role) → ⊥
not_failed (Ok x) role h e = cc
not_failed (Err end) role h e = cc

pub shown_same : (session : ℕ) (f : Found) (a b r : ℕ) (live : List Payload) → a ≡ length (accepted_in f) → b ≡ f.removed → r ≡ length f.received → live ≡ drop f.removed (accepted_in f)
    → shown_counts session a b r live ≡ shown session f
shown_same session f a b r live ea eb er el = ap (λ (t : ℕ × ℕ × ℕ × List Payload). shown_counts session t.0 t.1 t.2 t.3) (λ i. (ea i, eb i, er i, el i))

-- what the disks of a row show is what the table's file gives for the session
pub shows_so : {T : Type 0} (told tells : Type 0) (bytes : T → List ℕ) (file : Option (List ℕ)) (before mid after : Places) (fails : ℕ → Role → Type 0) (session : ℕ) (row : SessionRow) (r : Result T CommandEnd)
    → HasRow file session row → row.id ≡ session → mid ≡ before → IfOk r (λ text. told → tells → IsShown mid after row (bytes text)) → IfErr r (λ end. told → tells → ShowStops mid after row end)
    → ((role : Role) → r ≡ Err (Failed role) → fails session role) → told → tells → ShowsSo bytes file before after fails session r
shows_so told tells bytes file before mid after fails session row (Ok text) has id same ok stops names t u = (row, has, id, subst (λ (p : Places). IsShown p after row (bytes text)) same (ok t u))
shows_so told tells bytes file before mid after fails session row (Err Memory) has id same ok stops names t u = (subst (λ (p : Places). ShowStops p after row Memory) same (stops t u), refl)
shows_so told tells bytes file before mid after fails session row (Err (Failed role)) has id same ok stops names t u =
    (row, has, names role refl, subst (λ (p : Places). ShowStops p after row (Failed role)) same (stops t u), refl)
shows_so told tells bytes file before mid after fails session row (Err (Refused role why)) has id same ok stops names t u = (row, has, subst (λ (p : Places). ShowStops p after row (Refused role why)) same (stops t u), refl)
shows_so told tells bytes file before mid after fails session row (Err end) has id same ok stops names t u = absurd (stops t u)
