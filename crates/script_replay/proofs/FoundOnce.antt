-- Disks that stand for something stand for one thing.
use Rattle.std.proofs.Common.{◌≡◌, ℕ, ◌+◌, ◌-◌, List, [], ◌∷◌, ◌++◌, length, drop, refl, sym, ap, ◌∙◌, subst, arith}
use Rattle.std.proofs.lemmas.List.{drop-drop}
use Rattle.disk_model.specs.declared.name.Role.TheVariants as roles
use Rattle.pump_frame.specs.Rows.{IsLawfulRow}
use Rattle.pump_frame.specs.declared.payload.Payload.{Payload}
use Rattle.pump_frame.specs.declared.row.SessionRow.{SessionRow}
use Rattle.script_reader.specs.Openings.{Found, accepted_in}
use Rattle.script_reader.specs.Scripts.{coarsened}
use Rattle.stable_buffer.specs.Log.{RecvStands}
use Rattle.stable_buffer.specs.Stands.{HasHeader, InSlot, LowStands, HighStands}
use Rattle.script_replay.specs.Shelves.{Places, HasFound, reading_at}
use Rattle.script_replay.proofs.Coarse.{readied_coarse}
use Rattle.two_worlds.specs.Openings.{StandForFound}
use Rattle.two_worlds.proofs.Disks.OpensSurely.{one_received}
use Rattle.two_worlds.proofs.Opening.Surveying.{same_messages}

-- ---- one reading ----

drop_all : (xs ys : List Payload) → drop (length xs) (xs ++ ys) ≡ ys
drop_all [] ys = refl
drop_all (x ∷ xs) ys = drop_all xs ys

-- what comes behind the receiver's messages, from the live ones
later_of : (f : Found) (n : ℕ) → f.removed + n ≡ length f.received → drop n (drop f.removed (accepted_in f)) ≡ f.later
later_of f n sum = drop-drop n f.removed (accepted_in f) ∙ ap (λ k. drop k (accepted_in f)) sum ∙ drop_all f.received f.later

module _ (row : SessionRow) (lawful : IsLawfulRow row) (f g : Found) (low high recv : List ℕ) (s : StandForFound row f low high recv) (t : StandForFound row g low high recv) where
  removed_one : f.removed ≡ g.removed
  removed_one = ap (λ (v : ℕ × ℕ). v.0) (sym s.high_is.value ∙ t.high_is.value)

  received_one : f.received ≡ g.received
  received_one = one_received row f.received g.received recv s.recv_is t.recv_is

  total_one : length (accepted_in f) ≡ length (accepted_in g)
  total_one = ap (λ (v : ℕ × ℕ). v.0) (sym s.low_is.value ∙ t.low_is.value)

  live_one : drop f.removed (accepted_in f) ≡ drop g.removed (accepted_in g)
  live_one = same_messages row lawful (length (accepted_in g)) g.removed (drop g.removed (accepted_in g)) low t.low_is
      f.removed (drop f.removed (accepted_in f)) removed_one (s.low_is.count ∙ total_one) s.low_is.slots

  later_one : f.later ≡ g.later
  later_one =
      let n = length f.received - f.removed in
      let taken = s.can_open.agree.taken in
      let sum : f.removed + n ≡ length f.received = omega (arith, taken) in
      sym (later_of f n sum) ∙ ap (drop n) live_one ∙ later_of g n (ap (λ k. k + n) (sym removed_one) ∙ sum ∙ ap length received_one)

  one_standing : f ≡ g
  one_standing = λ i. record { removed = removed_one i; received = received_one i; later = later_one i }

pub one_found : (before : Places) (row : SessionRow) → IsLawfulRow row → (f g : Found) → HasFound before row f → HasFound before row g → f ≡ g
one_found before row lawful f g s t = one_standing row lawful f g _ _ _ s t

-- ---- a row that is not coarse ----

module _ (row : SessionRow) where
  header : (role : ℕ) (prefix : List ℕ) → HasHeader (coarsened row) role prefix → HasHeader row role prefix
  header role prefix h = record { version = h.version; known = h.known; mark = h.mark; numbers = h.numbers }

  slot : (n : ℕ) (message disk : List ℕ) → InSlot (coarsened row) n message disk → InSlot row n message disk
  slot n message disk s = record { fits = s.fits; bytes = s.bytes }

  low_fine : (E b : ℕ) (messages : List (List ℕ)) (disk : List ℕ) → LowStands (coarsened row) E b messages disk → LowStands row E b messages disk
  low_fine E b messages disk s = record { header = header 76 _ s.header; size = s.size; value = s.value; kept = s.kept; count = s.count; slots = λ i le. slot (b + i) _ disk (s.slots i le) }

  high_fine : (B : ℕ) (disk : List ℕ) → HighStands (coarsened row) B disk → HighStands row B disk
  high_fine B disk s = record { header = header 72 _ s.header; size = s.size; value = s.value }

  recv_fine : (messages : List (List ℕ)) (disk : List ℕ) → RecvStands (coarsened row) messages disk → RecvStands row messages disk
  recv_fine messages disk s = record { header = header 82 _ s.header; end = s.end; from = s.from; within = s.within; value = s.value; records = s.records }

  stand_fine : (f : Found) (low high recv : List ℕ) → StandForFound (coarsened row) f low high recv → StandForFound row f low high recv
  stand_fine f low high recv h = record {
    can_open = record { agree = h.can_open.agree; count = h.can_open.count; end = h.can_open.end; short = h.can_open.short };
    low_is = low_fine _ _ _ low h.low_is;
    high_is = high_fine _ high h.high_is;
    recv_is = recv_fine _ recv h.recv_is;
  }

pub found_fine : (before : Places) (row : SessionRow) (f : Found) → HasFound before (coarsened row) f → HasFound before row f
found_fine before row f h =
    let low = sym (readied_coarse row roles.Low (reading_at before row.id roles.Low)) in
    let high = sym (readied_coarse row roles.High (reading_at before row.id roles.High)) in
    let recv = sym (readied_coarse row roles.Recv (reading_at before row.id roles.Recv)) in
    subst (λ (t : List ℕ × List ℕ × List ℕ). StandForFound row f t.0 t.1 t.2) (λ i. (low i, high i, recv i)) (stand_fine row f _ _ _ h)
