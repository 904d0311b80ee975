-- Stays of the high worker, one after the other.
use Rattle.std.proofs.Common.{◌≡◌, ◌⊎◌, inl, inr, ℕ, ◌+◌, ◌≤◌, ◌<◌, false, List, [], ◌∷◌, length, Option, Some, None, refl, sym, ap, ◌∙◌, subst, arith}
use Rattle.std.specs.List.{AllByRecursion}
use Rattle.pump_frame.specs.declared.row.SessionRow.{SessionRow}
use Rattle.pump_frame.specs.Counts.{Rose}
use Rattle.pump_link.specs.Tells.{Draws, Grows}
use Rattle.pump_link.specs.declared.door.Accepted.{Accepted}
use Rattle.pump_link.specs.declared.door.Accepted.TheVariants.{Came, NotYet, Failed}
use Rattle.pump_link.specs.Doors.{DoorStep, answered}
use Rattle.pump_link.specs.declared.link.Looked.{Looked}
use Rattle.high_process.specs.declared.process.HighProcess.{HighProcess}
use Rattle.high_process.specs.States.{row_of, is_down}
use Rattle.high_process.specs.Looks.{StandsFor}
use Rattle.relay_threads.specs.declared.high_served.HighWhy.{HighWhy}
use Rattle.relay_threads.specs.declared.high_served.HighWhy.TheVariants.{Gone, Bad, NotAttach, LinkFailed, Device, Ahead, Behind, Looks, Stopped}
use Rattle.relay_threads.specs.declared.rounds_end.RoundsEnd.{RoundsEnd}
use Rattle.relay_threads.specs.declared.rounds_end.RoundsEnd.TheVariants.{Rounds, Device as DeviceBroke, RecordFailed as RecordBroke}
use Rattle.relay_threads.specs.Workers.{CountsEnd, IsNobody}
use Rattle.relay_threads.proofs.Reaching.{rose_later}
use Rattle.relay_threads.specs.HighRounds.{Round, GoOn, newest_cause}
use Rattle.relay_threads.specs.HighServes.{Serves, EndsBy, device_in, is_device}
use Rattle.relay_threads.specs.HighStays.{Visit, Stay, Alone, With, IsStay, IsOver, stay_after, stayed, StaySo, StaysSo, EndsStay, EndsStayBy, EndsStays, end_by, steps, answers, moments_in, count, count_at, TellsVisit}

-- a door that failed counts as one that found nobody
pub nobody : {L : Type 0} (answer : Accepted L) → (answer ≡ NotYet) ⊎ (answer ≡ Failed) → IsNobody (answered answer)
nobody NotYet e = tt
nobody Failed e = tt
nobody (Came link) (inl e) = absurd (cc)
nobody (Came link) (inr e) = absurd (cc)

pub alone_so : {L : Type 0} (p : HighProcess) (m : ℕ) (answer : DoorStep L) → IsNobody answer → StaySo p p (Alone m answer)
alone_so p m answer alone = record { row = refl; rule = λ t st. alone; past = λ up t st. st }

pub alone_ends : {L : Type 0} (m most : ℕ) (answer : DoorStep L) → 0 < most → EndsStay (Alone m answer) most (record { end = None; looks = 1 })
alone_ends m most answer pos = record { looks = refl; bound = omega (arith, pos); ends = ((λ lt. tt), refl) }

pub with_so : {L : Type 0} (p q : HighProcess) (m : ℕ) (v : Visit L) → Serves p q v.rounds → StaySo p q (With m v)
with_so p q m v s = record { row = s.row; rule = s.rule; past = s.past }

pub stays_none : {L : Type 0} (p : HighProcess) → StaysSo {L = L} p p []
stays_none p = record { row = refl; rule = λ t st. tt; past = λ up t st. st }

pub stays_more : {L : Type 0} (p q q' : HighProcess) (x : Stay L) (past : List (Stay L)) → is_down q ≡ false → AllByRecursion IsOver past → StaysSo p q past → StaySo q q' x → StaysSo p q' (x ∷ past)
stays_more p q q' x past up over was one = record {
  row = one.row ∙ was.row;
  rule = λ t st. (subst (λ (w : SessionRow). IsStay w (stayed w t past) x) was.row (one.rule (stayed (row_of q) t past) (subst (λ (w : SessionRow). StandsFor q (stayed w t past)) (sym was.row) (was.past up t st))), over, was.rule t st);
  past = λ up' t st. subst (λ (w : SessionRow). StandsFor q' (stay_after w (stayed w t past) x)) was.row (one.past up' (stayed (row_of q) t past) (subst (λ (w : SessionRow). StandsFor q (stayed w t past)) (sym was.row) (was.past up t st)));
}

-- all that the outside told
pub record StaysTold {L : Type 0} (gave : L → List Looked → Type 0) (sent : L → List ℕ → Type 0) (faults : L → ℕ) (session : ℕ) (did now_did comes now_comes : List (DoorStep L) → Type 0) (read now_read : List ℕ → Type 0) (stays : List (Stay L)) : Type 0 where
  pub door : Grows did now_did (steps stays)
  pub came : Draws comes now_comes (answers stays)
  pub links : AllByRecursion (TellsVisit gave sent faults session) stays
  pub moments : Draws read now_read (moments_in stays)

pub tells_at : {L : Type 0} (gave : L → List Looked → Type 0) (sent : L → List ℕ → Type 0) (faults : L → ℕ) (p q : HighProcess) (x : Stay L) → row_of q ≡ row_of p → TellsVisit gave sent faults (row_of q).id x → TellsVisit gave sent faults (row_of p).id x
tells_at gave sent faults p q x e t = subst (λ (r : SessionRow). TellsVisit gave sent faults r.id x) e t

-- ---- how a stay ended ----

newest_calm : (rounds : List Round) → GoOn rounds → newest_cause rounds ≡ None
newest_calm [] go = refl
newest_calm (r ∷ past) go = go.0

-- a link was served with the rounds that were left after the door's answer
module _ {L : Type 0} (m : ℕ) (v : Visit L) (most left looks : ℕ) (long : looks ≡ length v.rounds) (rest : most ≡ 1 + left) where
  over : (w : HighWhy) → is_device w ≡ false → end_by w ≡ None → (length v.rounds ≤ left) × (newest_cause v.rounds ≡ Some w) → EndsStay (With m v) most (record { end = end_by w; looks = 1 + looks })
  over w calm none e = record {
    looks = omega (arith, long);
    bound = omega (arith, e.0, rest);
    ends = subst (λ x. EndsStayBy (With m v) most (1 + looks) x) (sym none) ((λ lt. (w, e.1, calm)), ap device_in e.1 ∙ calm);
  }

  pub with_ends : (w : HighWhy) → (w ≡ Stopped → ⊥) → EndsBy v.rounds left w → EndsStay (With m v) most (record { end = end_by w; looks = 1 + looks })
  with_ends Gone open_gate e = over Gone refl refl e
  with_ends Bad open_gate e = over Bad refl refl e
  with_ends NotAttach open_gate e = over NotAttach refl refl e
  with_ends LinkFailed open_gate e = over LinkFailed refl refl e
  with_ends (Ahead n k) open_gate e = over (Ahead n k) refl refl e
  with_ends (Behind n k) open_gate e = over (Behind n k) refl refl e
  with_ends (Device n) open_gate e = record { looks = omega (arith, long); bound = omega (arith, e.0, rest); ends = e.1 }
  with_ends Looks open_gate e = record {
    looks = omega (arith, long);
    bound = omega (arith, e.0, rest);
    ends = ((λ lt. absurd (omega (arith, lt, long, rest, e.0))), ap device_in (newest_calm v.rounds e.1));
  }
  with_ends Stopped open_gate e = absurd (open_gate refl)

  pub failed_link : (w : HighWhy) (before now : ℕ) → (w ≡ Stopped → ⊥) → EndsBy v.rounds left w → (w ≡ LinkFailed → Rose before now) → newest_cause v.rounds ≡ Some LinkFailed → Rose before now
  failed_link Gone before now open_gate e rose is = absurd (let x = e.1 in cc)
  failed_link Bad before now open_gate e rose is = absurd (let x = e.1 in cc)
  failed_link NotAttach before now open_gate e rose is = absurd (let x = e.1 in cc)
  failed_link LinkFailed before now open_gate e rose is = rose refl
  failed_link (Ahead n k) before now open_gate e rose is = absurd (let x = e.1 in cc)
  failed_link (Behind n k) before now open_gate e rose is = absurd (let x = e.1 in cc)
  failed_link (Device n) before now open_gate e rose is = absurd (let x = e.1 in cc)
  failed_link Looks before now open_gate e rose is = absurd (let x = newest_calm v.rounds e.1 in cc)
  failed_link Stopped before now open_gate e rose is = absurd (open_gate refl)

-- the worker's end at a stay that ended it
pub worker_ends : {L : Type 0} (x : Stay L) (past : List (Stay L)) (rounds most looks : ℕ) (end : RoundsEnd) → count past + count_at x ≤ rounds → EndsStayBy x most looks (Some end) → EndsStays (x ∷ past) rounds end
worker_ends x past rounds most looks Rounds le e = absurd e
worker_ends x past rounds most looks (DeviceBroke n) le e = (le, e)
worker_ends x past rounds most looks RecordBroke le e = absurd e

-- a fault of the disk in the newest stay counts from the start of the worker, too
pub end_since : (turn : Option RoundsEnd) (end : RoundsEnd) (start before now : ℕ) → turn ≡ Some end → start ≤ before → CountsEnd turn before now → CountsEnd (Some end) start now
end_since turn end start before now is le counted = by_cases end (subst (λ t. CountsEnd t before now) is counted) where
  by_cases : (end : RoundsEnd) → CountsEnd (Some end) before now → CountsEnd (Some end) start now
  by_cases Rounds counted = tt
  by_cases (DeviceBroke n) counted = (counted.0, rose_later start before now le counted.1)
  by_cases RecordBroke counted = tt
