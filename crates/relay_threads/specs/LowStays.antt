-- The stays of a low worker at its door, the newest first. Each begins with a round without connection,
-- which draws a moment and asks the door; where a link comes, it is served, and then given back.
use Rattle.std.specs.Prelude.{◌≡◌, ℕ, ◌+◌, ◌<◌, ◌≤◌, Bool, true, false, if◌then◌else◌, List, [], ◌∷◌, ◌++◌, length}
use Rattle.std.specs.Prelude.{Option, Some, None, IfSome}
use Rattle.std.specs.List.{AllByRecursion}
use Rattle.pump_frame.specs.Counts.{Rose}
use Rattle.pump_frame.specs.Rows.{IsLawfulRow}
use Rattle.pump_frame.specs.declared.row.SessionRow.{SessionRow}
use Rattle.pump_link.specs.Tells.{Draws, Grows}
use Rattle.pump_link.specs.Doors.{DoorStep, CameLink, BackLink}
use Rattle.pump_link.specs.declared.link.Looked.{Looked}
use Rattle.pump_core.specs.History.{Opening}
use Rattle.pump_core.specs.History.{Gone as CameGone}
use Rattle.low_process.specs.declared.process.LowProcess.{LowProcess}
use Rattle.relay_threads.specs.declared.low_served.LowWhy.{LowWhy}
use Rattle.relay_threads.specs.declared.low_served.LowWhy.TheVariants.{Bad, LinkFailed, Device, RecordFailed}
use Rattle.relay_threads.specs.declared.rounds_end.RoundsEnd.{RoundsEnd}
use Rattle.relay_threads.specs.declared.rounds_end.RoundsEnd.TheVariants.{Rounds, Device as DeviceBroke}
use Rattle.relay_threads.specs.declared.rounds_end.RoundsEnd.TheVariants.{RecordFailed as RecordBroke}
use Rattle.relay_threads.specs.declared.rounds_end.Stayed.{Stayed}
use Rattle.relay_threads.specs.Reaching.{Reaches}
use Rattle.relay_threads.specs.Workers.{IsNobody}
use Rattle.relay_threads.specs.Records.{Made, record_of}
use Rattle.relay_threads.specs.RecordLines.{looks_text}
use Rattle.relay_threads.specs.Replays.{ReadsBack}
use Rattle.relay_threads.specs.LowRounds.{Round, with_look, made_after, made_in, looks_of_rounds, moments_of, words_of}
use Rattle.relay_threads.specs.LowRounds.{reply_bytes, AreRounds, newest_cause}
use Rattle.relay_threads.specs.LowServes.{Leads, all_sent, text_made}

-- one link: as it came and as it was given back, the rounds on it, the look with Gone after them, if there
-- is one, and whether the lines of that were written whole
pub record Visit (L : Type 0) : Type 0 where
  pub came : L
  pub back : L
  pub rounds : List Round
  pub gone : Option Made
  pub is_kept : Bool

-- nobody came, or a link that was served
pub data Stay (L : Type 0) : Type 0 where
  Alone : (moment : ℕ) (answer : DoorStep L) → Stay L
  With : (moment : ℕ) (visit : Visit L) → Stay L

-- ---- one stay ----

-- a look with Gone, for which no word is drawn
abbrev pub IsGone : Made → Type 0
IsGone m = (m.look.arrival ≡ CameGone) × (m.look.word ≡ 0)

-- after a link that failed or showed bad bytes there is such a look, and else none
abbrev pub GoneAfter : Option LowWhy → Option Made → Type 0
GoneAfter (Some LinkFailed) gone = (m : Made) × (gone ≡ Some m) × IsGone m
GoneAfter (Some Bad) gone = (m : Made) × (gone ≡ Some m) × IsGone m
GoneAfter _ gone = gone ≡ None

-- rounds, and such a look after them, of which a record has a line that reads back
abbrev pub IsVisit : SessionRow → Opening → List Made → List Round → Option Made → Type 0
IsVisit row o before rounds gone = AreRounds row o before rounds × GoneAfter (newest_cause rounds) gone
    × (IsLawfulRow row → IfSome gone (ReadsBack row (made_after before rounds)))

abbrev pub IsStay : {L : Type 0} → SessionRow → Opening → List Made → Stay L → Type 0
IsStay row o before (Alone m answer) = IsNobody answer
IsStay row o before (With m v) = IsVisit row o before v.rounds v.gone

-- all looks that were made before and in it
abbrev pub visited : List Made → List Round → Option Made → List Made
visited before rounds gone = with_look gone (made_after before rounds)

abbrev pub stay_after : {L : Type 0} → List Made → Stay L → List Made
stay_after before (Alone m answer) = before
stay_after before (With m v) = visited before v.rounds v.gone

-- what the door answered and took back
abbrev pub steps_at : {L : Type 0} → Stay L → List (DoorStep L)
steps_at (Alone m answer) = answer ∷ []
steps_at (With m v) = CameLink v.came ∷ BackLink v.back ∷ []

-- .. and answered alone
abbrev pub answers_at : {L : Type 0} → Stay L → List (DoorStep L)
answers_at (Alone m answer) = answer ∷ []
answers_at (With m v) = CameLink v.came ∷ []

abbrev pub moment_made : Option Made → List ℕ
moment_made None = []
moment_made (Some m) = m.look.moment ∷ []

abbrev pub moments_at : {L : Type 0} → Stay L → List ℕ
moments_at (Alone m answer) = m ∷ []
moments_at (With m v) = m ∷ (moments_of v.rounds ++ moment_made v.gone)

abbrev pub words_at : {L : Type 0} → Stay L → List ℕ
words_at (Alone m answer) = []
words_at (With m v) = words_of v.rounds

-- the record of the looks on the link, and then that of the look with Gone
abbrev pub visit_text : SessionRow → List Round → Option Made → List ℕ
visit_text row rounds gone = looks_text row (record_of (made_in rounds)) ++ text_made row [] gone

abbrev pub text_at : {L : Type 0} → SessionRow → Stay L → List ℕ
text_at row (Alone m answer) = []
text_at row (With m v) = visit_text row v.rounds v.gone

-- how many rounds it has; the look with Gone is none
abbrev pub count_at : {L : Type 0} → Stay L → ℕ
count_at (Alone m answer) = 1
count_at (With m v) = 1 + length v.rounds

-- the link that was given back tells its rounds: what it gave, and what it was sent; and its count rose
-- where it failed
abbrev pub TellsVisit : {L : Type 0} → (L → List Looked → Type 0) → (L → List ℕ → Type 0) → (L → ℕ) → Stay L → Type 0
TellsVisit gives sent faults (Alone m answer) = Unit {0}
TellsVisit gives sent faults (With m v) = Draws (gives v.came) (gives v.back) (looks_of_rounds v.rounds)
    × Reaches (Grows (sent v.came) (sent v.back)) (faults v.came) (faults v.back) (all_sent v.rounds)
    (reply_bytes (made_in v.rounds))
    × (newest_cause v.rounds ≡ Some LinkFailed → Rose (faults v.came) (faults v.back))

-- the worker's end at a link that was left for this, where the lines of the look with Gone were written
-- whole or not
abbrev pub end_at : Option LowWhy → Bool → Option RoundsEnd
end_at (Some RecordFailed) is_kept = Some RecordBroke
end_at (Some (Device faults)) is_kept = Some (DeviceBroke faults)
end_at (Some LinkFailed) is_kept = if is_kept then None else Some RecordBroke
end_at (Some Bad) is_kept = if is_kept then None else Some RecordBroke
end_at _ is_kept = None

abbrev pub stay_end : {L : Type 0} → Stay L → Option RoundsEnd
stay_end (Alone m answer) = None
stay_end (With m v) = end_at (newest_cause v.rounds) v.is_kept

-- the link was left for a cause
abbrev pub IsLeft : List Round → Type 0
IsLeft rounds = (why : LowWhy) × (newest_cause rounds ≡ Some why)

-- the connection, if there was one, is over, and the worker goes on
abbrev pub IsOver : {L : Type 0} → Stay L → Type 0
IsOver (Alone m answer) = Unit {0}
IsOver (With m v) = IsLeft v.rounds × (end_at (newest_cause v.rounds) v.is_kept ≡ None)

-- ---- stays, the newest first ----

abbrev pub stayed : {L : Type 0} → List Made → List (Stay L) → List Made
stayed before [] = before
stayed before (x ∷ past) = stay_after (stayed before past) x

-- each stay is one, and all before the newest are over
abbrev pub AreStays : {L : Type 0} → SessionRow → Opening → List Made → List (Stay L) → Type 0
AreStays row o before [] = Unit {0}
AreStays row o before (x ∷ past) = IsStay row o (stayed before past) x × AllByRecursion IsOver past
    × AreStays row o before past

-- the stays keep their rule, and their looks go on with the life of the process
abbrev pub StaysSo : {L : Type 0} → LowProcess → LowProcess → List (Stay L) → Type 0
StaysSo p q stays = Leads p q (λ row o before. AreStays row o before stays) (λ before. stayed before stays)

abbrev pub steps : {L : Type 0} → List (Stay L) → List (DoorStep L)
steps [] = []
steps (x ∷ past) = steps past ++ steps_at x

abbrev pub answers : {L : Type 0} → List (Stay L) → List (DoorStep L)
answers [] = []
answers (x ∷ past) = answers past ++ answers_at x

abbrev pub moments_in : {L : Type 0} → List (Stay L) → List ℕ
moments_in [] = []
moments_in (x ∷ past) = moments_in past ++ moments_at x

abbrev pub words_in : {L : Type 0} → List (Stay L) → List ℕ
words_in [] = []
words_in (x ∷ past) = words_in past ++ words_at x

-- the record of the stays, without its opening line
abbrev pub text_in : {L : Type 0} → SessionRow → List (Stay L) → List ℕ
text_in row [] = []
text_in row (x ∷ past) = text_in row past ++ text_at row x

-- .. which is the record of all their looks
abbrev pub IsRecord : {L : Type 0} → SessionRow → List (Stay L) → Type 0
IsRecord row stays = text_in row stays ≡ looks_text row (record_of (stayed [] stays))

abbrev pub count : {L : Type 0} → List (Stay L) → ℕ
count [] = 0
count (x ∷ past) = count past + count_at x

abbrev pub newest_end : {L : Type 0} → List (Stay L) → Option RoundsEnd
newest_end [] = None
newest_end (x ∷ past) = stay_end x

-- how a worker with so many rounds ended: it made them and none of its stays ended it, or the newest did
abbrev pub EndsStays : {L : Type 0} → List (Stay L) → ℕ → RoundsEnd → Type 0
EndsStays stays rounds Rounds = (count stays ≡ rounds) × (newest_end stays ≡ None)
EndsStays stays rounds end = (count stays ≤ rounds) × (newest_end stays ≡ Some end)

-- all of the record was written, but where its end was that a write failed
abbrev pub is_kept_by : Option RoundsEnd → Bool
is_kept_by (Some RecordBroke) = false
is_kept_by _ = true

-- ---- the functions of one stay ----

-- whether a look with Gone follows
abbrev pub is_left_so : LowWhy → Bool
is_left_so LinkFailed = true
is_left_so Bad = true
is_left_so _ = false

abbrev pub end_by : LowWhy → Option RoundsEnd
end_by RecordFailed = Some RecordBroke
end_by (Device faults) = Some (DeviceBroke faults)
end_by _ = None

-- the worker ended
abbrev pub is_ended : Option RoundsEnd → Bool
is_ended None = false
is_ended (Some end) = true

-- what a stay of at most so many rounds came to
pub record EndsStay {L : Type 0} (x : Stay L) (most : ℕ) (s : Stayed) : Type 0 where
  pub end : s.end ≡ stay_end x
  pub looks : s.looks ≡ count_at x
  pub bound : count_at x ≤ most
  pub over : count_at x < most → stay_end x ≡ None → IsOver x
