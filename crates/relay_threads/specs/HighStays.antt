-- The stays of a high worker at its door, the newest first. Each begins with a round without connection,
-- which draws a moment and asks the door; where a link comes, it is served, and then given back.
use Rattle.std.specs.Prelude.{◌≡◌, ℕ, ◌+◌, ◌<◌, ◌≤◌, Bool, true, false, List, [], ◌∷◌, ◌++◌, length, Option, Some, None}
use Rattle.std.specs.List.{AllByRecursion}
use Rattle.pump_frame.specs.Counts.{Rose}
use Rattle.pump_frame.specs.Streams.{spellings}
use Rattle.pump_frame.specs.declared.row.SessionRow.{SessionRow}
use Rattle.pump_link.specs.Tells.{Draws}
use Rattle.pump_link.specs.Doors.{DoorStep, CameLink, BackLink}
use Rattle.pump_link.specs.declared.link.Looked.{Looked}
use Rattle.high_process.specs.declared.process.HighProcess.{HighProcess}
use Rattle.high_process.specs.States.{row_of, is_down}
use Rattle.high_process.specs.Past.{ProcessPast}
use Rattle.high_process.specs.Looks.{StandsFor}
use Rattle.relay_threads.specs.declared.high_served.HighWhy.{HighWhy}
use Rattle.relay_threads.specs.declared.high_served.HighWhy.TheVariants.{LinkFailed, Device}
use Rattle.relay_threads.specs.declared.rounds_end.RoundsEnd.{RoundsEnd}
use Rattle.relay_threads.specs.declared.rounds_end.RoundsEnd.TheVariants.{Rounds, Device as DeviceBroke}
use Rattle.relay_threads.specs.declared.rounds_end.RoundsEnd.TheVariants.{RecordFailed as RecordBroke}
use Rattle.relay_threads.specs.declared.rounds_end.Stayed.{Stayed}
use Rattle.relay_threads.specs.Workers.{SendsPrefix, IsNobody}
use Rattle.relay_threads.specs.HighRounds.{Round, AreRounds, served, looks_of_rounds, moments, data_sent, newest_cause}
use Rattle.relay_threads.specs.HighServes.{all_sent, is_device, device_in}

-- one link: as it came, as it was given back, and the rounds on it
pub record Visit (L : Type 0) : Type 0 where
  pub came : L
  pub back : L
  pub rounds : List Round

-- nobody came, or a link that was served
pub data Stay (L : Type 0) : Type 0 where
  Alone : (moment : ℕ) (answer : DoorStep L) → Stay L
  With : (moment : ℕ) (visit : Visit L) → Stay L

-- ---- one stay ----

abbrev pub IsStay : {L : Type 0} → SessionRow → ProcessPast → Stay L → Type 0
IsStay row t (Alone m answer) = IsNobody answer
IsStay row t (With m v) = AreRounds row t v.rounds

-- the past after it
abbrev pub stay_after : {L : Type 0} → SessionRow → ProcessPast → Stay L → ProcessPast
stay_after row t (Alone m answer) = t
stay_after row t (With m v) = served row t v.rounds

-- what the door answered and took back
abbrev pub steps_at : {L : Type 0} → Stay L → List (DoorStep L)
steps_at (Alone m answer) = answer ∷ []
steps_at (With m v) = CameLink v.came ∷ BackLink v.back ∷ []

-- .. and answered alone
abbrev pub answers_at : {L : Type 0} → Stay L → List (DoorStep L)
answers_at (Alone m answer) = answer ∷ []
answers_at (With m v) = CameLink v.came ∷ []

abbrev pub moments_at : {L : Type 0} → Stay L → List ℕ
moments_at (Alone m answer) = m ∷ []
moments_at (With m v) = m ∷ moments v.rounds

-- how many rounds it has
abbrev pub count_at : {L : Type 0} → Stay L → ℕ
count_at (Alone m answer) = 1
count_at (With m v) = 1 + length v.rounds

-- what ended the connection, if it ended
abbrev pub stay_cause : {L : Type 0} → Stay L → Option HighWhy
stay_cause (Alone m answer) = None
stay_cause (With m v) = newest_cause v.rounds

-- the link that was given back tells its rounds: what it gave, and what it was sent. Its count rose where it failed
abbrev pub TellsVisit : {L : Type 0} → (L → List Looked → Type 0) → (L → List ℕ → Type 0) → (L → ℕ) → ℕ → Stay L
    → Type 0
TellsVisit gives sent faults session (Alone m answer) = Unit {0}
TellsVisit gives sent faults session (With m v) = Draws (gives v.came) (gives v.back) (looks_of_rounds v.rounds)
    × SendsPrefix (sent v.came) (sent v.back) (all_sent v.rounds) (spellings (data_sent session v.rounds))
    × (newest_cause v.rounds ≡ Some LinkFailed → Rose (faults v.came) (faults v.back))

-- the connection, if there was one, is over, and the worker goes on
abbrev pub IsOver : {L : Type 0} → Stay L → Type 0
IsOver (Alone m answer) = Unit {0}
IsOver (With m v) = (why : HighWhy) × (newest_cause v.rounds ≡ Some why) × (is_device why ≡ false)

-- ---- stays, the newest first ----

abbrev pub stayed : {L : Type 0} → SessionRow → ProcessPast → List (Stay L) → ProcessPast
stayed row t [] = t
stayed row t (x ∷ past) = stay_after row (stayed row t past) x

-- each stay is one, and all before the newest are over
abbrev pub AreStays : {L : Type 0} → SessionRow → ProcessPast → List (Stay L) → Type 0
AreStays row t [] = Unit {0}
AreStays row t (x ∷ past) = IsStay row (stayed row t past) x × AllByRecursion IsOver past × AreStays row t past

abbrev pub steps : {L : Type 0} → List (Stay L) → List (DoorStep L)
steps [] = []
steps (x ∷ past) = steps past ++ steps_at x

abbrev pub answers : {L : Type 0} → List (Stay L) → List (DoorStep L)
answers [] = []
answers (x ∷ past) = answers past ++ answers_at x

abbrev pub moments_in : {L : Type 0} → List (Stay L) → List ℕ
moments_in [] = []
moments_in (x ∷ past) = moments_in past ++ moments_at x

-- how many rounds they have: the door's answers, and the rounds on its links
abbrev pub count : {L : Type 0} → List (Stay L) → ℕ
count [] = 0
count (x ∷ past) = count past + count_at x

abbrev pub newest_stay_cause : {L : Type 0} → List (Stay L) → Option HighWhy
newest_stay_cause [] = None
newest_stay_cause (x ∷ past) = stay_cause x

-- one stay leads from p to q
pub record StaySo {L : Type 0} (p q : HighProcess) (x : Stay L) : Type 0 where
  pub row : row_of q ≡ row_of p
  pub rule : (t : ProcessPast) → StandsFor p t → IsStay (row_of p) t x
  pub past : is_down q ≡ false → (t : ProcessPast) → StandsFor p t → StandsFor q (stay_after (row_of p) t x)

-- .. and so do these
pub record StaysSo {L : Type 0} (p q : HighProcess) (stays : List (Stay L)) : Type 0 where
  pub row : row_of q ≡ row_of p
  pub rule : (t : ProcessPast) → StandsFor p t → AreStays (row_of p) t stays
  pub past : is_down q ≡ false → (t : ProcessPast) → StandsFor p t → StandsFor q (stayed (row_of p) t stays)

-- ---- ends ----

-- a disk that failed ends the worker, and nothing else does
abbrev pub end_by : HighWhy → Option RoundsEnd
end_by (Device faults) = Some (DeviceBroke faults)
end_by _ = None

abbrev pub is_broken : Option RoundsEnd → Bool
is_broken None = false
is_broken (Some Rounds) = false
is_broken (Some (DeviceBroke faults)) = true
is_broken (Some RecordBroke) = true

-- how a stay ended that had at most so many rounds
abbrev pub EndsStayBy : {L : Type 0} → Stay L → ℕ → ℕ → Option RoundsEnd → Type 0
EndsStayBy x most looks None = (looks < most → IsOver x) × (device_in (stay_cause x) ≡ false)
EndsStayBy x most looks (Some (DeviceBroke faults)) = stay_cause x ≡ Some (Device faults)
EndsStayBy x most looks (Some _) = ⊥

pub record EndsStay {L : Type 0} (x : Stay L) (most : ℕ) (s : Stayed) : Type 0 where
  pub looks : s.looks ≡ count_at x
  pub bound : count_at x ≤ most
  pub ends : EndsStayBy x most s.looks s.end

-- how a worker with so many rounds ended: it made them, or its disk failed in the newest stay
abbrev pub EndsStays : {L : Type 0} → List (Stay L) → ℕ → RoundsEnd → Type 0
EndsStays stays rounds Rounds = (count stays ≡ rounds) × (device_in (newest_stay_cause stays) ≡ false)
EndsStays stays rounds (DeviceBroke faults) = (count stays ≤ rounds) × (newest_stay_cause stays ≡ Some (Device faults))
EndsStays stays rounds RecordBroke = ⊥
