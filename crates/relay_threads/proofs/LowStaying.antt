-- Stays of the low worker, one after another.
use Rattle.std.proofs.Common.{◌≡◌, ℕ, ◌+◌, ◌≤◌, ◌<◌, Bool, true, false, List, [], ◌∷◌, length, Option, Some, None, refl, sym, ap, ◌∙◌, subst, arith}
use Rattle.std.specs.List.{AllByRecursion}
use Rattle.std.specs.Io.KnownBytes.{Appends}
use Rattle.pump_frame.specs.declared.row.SessionRow.{SessionRow}
use Rattle.pump_link.specs.Doors.{DoorStep}
use Rattle.pump_link.specs.Tells.{Draws, Grows}
use Rattle.pump_link.specs.declared.link.Looked.{Looked}
use Rattle.pump_link.proofs.Known.{Appends-none, Appends-then}
use Rattle.pump_link.proofs.Grown.{Draws-nil, Grows-nil}
use Rattle.pump_core.specs.History.{Opening}
use Rattle.low_process.specs.declared.process.LowProcess.{LowProcess}
use Rattle.low_process.specs.Looks.{row_of}
use Rattle.relay_threads.specs.declared.low_served.LowWhy.{LowWhy}
use Rattle.relay_threads.specs.declared.low_served.LowWhy.TheVariants.{Gone, Bad, LinkFailed, Device, RecordFailed, Looks, Stopped}
use Rattle.relay_threads.specs.declared.rounds_end.RoundsEnd.{RoundsEnd}
use Rattle.relay_threads.specs.declared.rounds_end.RoundsEnd.TheVariants.{Rounds as RoundsMade, Device as DeviceBroke, RecordFailed as RecordBroke}
use Rattle.relay_threads.specs.declared.rounds_end.Stayed.{Stayed}
use Rattle.relay_threads.specs.Reaching.{Reaches}
use Rattle.relay_threads.specs.Workers.{IsNobody}
use Rattle.relay_threads.specs.LowRounds.{newest_cause}
use Rattle.relay_threads.specs.LowServes.{Lives, Leads}
use Rattle.relay_threads.specs.LowStays.{Stay, Alone, With, Visit, IsStay, IsVisit, visited, stay_after, stayed, AreStays, StaysSo, IsOver, steps, answers, moments_in, words_in, text_in, text_at, count, count_at, stay_end, end_at, EndsStay, EndsStays, IsLeft, IsRecord, TellsVisit}
use Rattle.relay_threads.specs.Records.{AreMade}
use Rattle.relay_threads.proofs.LowRecord.{one_record}
use Rattle.relay_threads.proofs.LowLives.{leads_none, leads_then}
use Rattle.relay_threads.proofs.Reaching.{reaches_behind}

pub stays_none : (L : Type 0) (p : LowProcess) → StaysSo {L = L} p p []
stays_none L p = leads_none p (λ row o before. AreStays {L = L} row o before []) (λ row o before. tt)

pub stays_more : {L : Type 0} (p q q' : LowProcess) (x : Stay L) (past : List (Stay L)) → AllByRecursion IsOver past → StaysSo p q past → Leads q q' (λ row o before. IsStay row o before x) (λ before. stay_after before x) → StaysSo p q' (x ∷ past)
stays_more p q q' x past over was one =
    leads_then p q q' (λ row o before. AreStays row o before past) (λ row o before. IsStay row o before x) (λ row o before. AreStays row o before (x ∷ past)) (λ before. stayed before past) (λ before. stay_after before x)
    (λ row o before are is. (is, over, are)) was one

pub alone_so : {L : Type 0} (p : LowProcess) (m : ℕ) (answer : DoorStep L) → IsNobody answer → Leads p p (λ row o before. IsStay row o before (Alone m answer)) (λ before. stay_after before (Alone m answer))
alone_so p m answer nobody = leads_none p (λ row o before. IsStay row o before (Alone m answer)) (λ row o before. nobody)

pub alone_ends : {L : Type 0} (m most : ℕ) (answer : DoorStep L) → 0 < most → EndsStay (Alone m answer) most (record { end = None; looks = 1 })
alone_ends m most answer some = record { end = refl; looks = refl; bound = omega (arith, some); over = λ lt none. tt }

pub with_so : {L : Type 0} (p q : LowProcess) (m : ℕ) (v : Visit L) → Leads p q (λ row o before. IsVisit row o before v.rounds v.gone) (λ before. visited before v.rounds v.gone)
    → Leads p q (λ row o before. IsStay row o before (With m v)) (λ before. stay_after before (With m v))
with_so p q m v s = record { row = s.row; rule = s.rule; lives = s.lives }

-- a link that was served, in at most one round less
pub ends_stay : {L : Type 0} (m : ℕ) (v : Visit L) (most rest : ℕ) (s : Stayed) → s.end ≡ end_at (newest_cause v.rounds) v.is_kept → s.looks ≡ 1 + length v.rounds → most ≡ 1 + rest → length v.rounds ≤ rest → (length v.rounds < rest → IsLeft v.rounds)
    → EndsStay (With m v) most s
ends_stay m v most rest s end looks is bound left = record {
  end = end;
  looks = looks;
  bound = omega (arith, bound, is);
  over = λ lt none. (left (omega (arith, lt, is)), none);
}

-- ---- what the outside tells ----

-- all that it tells, while no stay has ended the worker
pub record StaysTold {L : Type 0} (gives : L → List Looked → Type 0) (sent : L → List ℕ → Type 0) (faults : L → ℕ) (did now_did comes now_comes : List (DoorStep L) → Type 0) (read now_read drawn now_drawn : List ℕ → Type 0) (written now_written : Option (List ℕ)) (row : SessionRow) (stays : List (Stay L)) : Type 0 where
  pub door : Grows did now_did (steps stays)
  pub came : Draws comes now_comes (answers stays)
  pub links : AllByRecursion (TellsVisit gives sent faults) stays
  pub moments : Draws read now_read (moments_in stays)
  pub words : Draws drawn now_drawn (words_in stays)
  pub lines : Appends written now_written (text_in row stays)

pub stays_told_none : {L : Type 0} (gives : L → List Looked → Type 0) (sent : L → List ℕ → Type 0) (faults : L → ℕ) (did comes : List (DoorStep L) → Type 0) (read drawn : List ℕ → Type 0) (written : Option (List ℕ)) (row : SessionRow)
    → StaysTold gives sent faults did did comes comes read read drawn drawn written written row []
stays_told_none gives sent faults did comes read drawn written row = record { door = Grows-nil did; came = Draws-nil comes; links = tt; moments = Draws-nil read; words = Draws-nil drawn; lines = Appends-none written }

pub lines_more : {L : Type 0} (t t1 t2 : Option (List ℕ)) (n n1 n2 : ℕ) (row row' : SessionRow) (x : Stay L) (past : List (Stay L)) (k : Bool) → n ≤ n1 → row' ≡ row → Appends t t1 (text_in row past) → Reaches (Appends t1 t2) n1 n2 k (text_at row' x)
    → Reaches (Appends t t2) n n2 k (text_in row (x ∷ past))
lines_more t t1 t2 n n1 n2 row row' x past k le same was line =
    reaches_behind (Appends t t2) (Appends t1 t2) n n1 n2 k (text_in row past) (text_at row x) le (λ rest g. Appends-then t t1 t2 _ rest was g)
    (subst (λ (z : SessionRow). Reaches (Appends t1 t2) n1 n2 k (text_at z x)) same line)

-- ---- how the worker ends ----

abbrev is_rounds : Option RoundsEnd → Bool
is_rounds (Some RoundsMade) = true
is_rounds _ = false

made_by_none : (c : Option LowWhy) (k : Bool) → is_rounds (end_at c k) ≡ false
made_by_none None k = refl
made_by_none (Some Gone) k = refl
made_by_none (Some Bad) true = refl
made_by_none (Some Bad) false = refl
made_by_none (Some LinkFailed) true = refl
made_by_none (Some LinkFailed) false = refl
made_by_none (Some (Device n)) k = refl
made_by_none (Some RecordFailed) k = refl
made_by_none (Some Looks) k = refl
made_by_none (Some Stopped) k = refl

-- no stay ends the worker for the number of its rounds
pub no_rounds : {L : Type 0} (x : Stay L) → stay_end x ≡ Some RoundsMade → ⊥
no_rounds (Alone m answer) e = cc
no_rounds (With m v) e = let t : is_rounds (end_at (newest_cause v.rounds) v.is_kept) ≡ true = ap is_rounds e in let y : false ≡ true = sym (made_by_none (newest_cause v.rounds) v.is_kept) ∙ t in cc

pub worker_ends : {L : Type 0} (x : Stay L) (past : List (Stay L)) (rounds : ℕ) (end : RoundsEnd) → stay_end x ≡ Some end → count past + count_at x ≤ rounds → EndsStays (x ∷ past) rounds end
worker_ends x past rounds RoundsMade e le = absurd (no_rounds x e)
worker_ends x past rounds (DeviceBroke n) e le = (le, e)
worker_ends x past rounds RecordBroke e le = (le, e)

-- what was recorded is the record of all looks
pub recorded_as : {L : Type 0} (p q : LowProcess) (stays : List (Stay L)) → StaysSo p q stays → (o : Opening) → Lives p o [] → IsRecord (row_of p) stays
recorded_as p q stays so o lives =
    one_record (row_of p) o stays (so.rule o [] lives) (subst (λ (z : SessionRow). AreMade z o (stayed [] stays)) so.row (so.lives o [] lives).are_made)
