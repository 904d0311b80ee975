-- What a low worker does on one connection, from the low process before it to the one after it.
use Rattle.std.specs.Prelude.{◌≡◌, ℕ, ◌<◌, ◌≤◌, Bool, true, false, if◌then◌else◌, not, List, [], ◌∷◌, ◌++◌, length}
use Rattle.std.specs.Prelude.{Option, Some, None, IfSome, is_some}
use Rattle.pump_frame.specs.Counts.{Rose}
use Rattle.pump_frame.specs.Spellings.{spelling}
use Rattle.pump_frame.specs.declared.frame.Frame.{Frame}
use Rattle.pump_frame.specs.Readings.{Reading, Within}
use Rattle.pump_frame.specs.declared.row.SessionRow.{SessionRow}
use Rattle.pump_link.specs.Tells.{Draws}
use Rattle.pump_link.specs.declared.link.Looked.{Looked}
use Rattle.pump_core.specs.History.{Arrival, Opening}
use Rattle.pump_core.specs.History.{Nothing, Came, Bad, Gone}
use Rattle.pump_core.specs.Step.{is_full}
use Rattle.low_process.specs.declared.process.LowProcess.{LowProcess}
use Rattle.low_process.specs.Looks.{row_of, StandsFor}
use Rattle.relay_threads.specs.Heards.{Heard}
use Rattle.relay_threads.specs.Heards as hears
use Rattle.relay_threads.specs.declared.low_served.LowWhy.{LowWhy}
use Rattle.relay_threads.specs.declared.low_served.LowWhy.TheVariants as whys
use Rattle.relay_threads.specs.declared.low_served.LowServed.{LowServed}
use Rattle.relay_threads.specs.Hearings.{Hearing, IsHearing, Leaves, heard_as}
use Rattle.relay_threads.specs.LowRounds.{Round, with_look, made_after, looks_heard, IsRound, GoOn, AreRounds}
use Rattle.relay_threads.specs.LowRounds.{newest_cause, ask_after, asks_of}
use Rattle.relay_threads.specs.RecordLines.{look_text}
use Rattle.relay_threads.specs.Records.{Made, history_made, is_recorded, AreMade}

-- ---- the life of the process ----

-- These looks are the life of the process since its opening: it stands for them, and each of them goes on
-- with the life before it, with the reply that the definition gives it.
pub record Lives (p : LowProcess) (o : Opening) (made : List Made) : Type 0 where
  pub stands : StandsFor p (history_made o made)
  pub are_made : AreMade (row_of p) o made

-- From p to q, whatever looks p has lived: a rule is kept, and q has lived those after them.
pub record Leads (p q : LowProcess) (Keeps : SessionRow → Opening → List Made → Type 0) (after : List Made
    → List Made) : Type 0 where
  pub row : row_of q ≡ row_of p
  pub rule : (o : Opening) (before : List Made) → Lives p o before → Keeps (row_of p) o before
  pub lives : (o : Opening) (before : List Made) → Lives p o before → Lives q o (after before)

-- the rounds keep their rule, and their looks go on with the life of the process
abbrev pub Serves : LowProcess → LowProcess → List Round → Type 0
Serves p q rounds = Leads p q (λ row o before. AreRounds row o before rounds) (λ before. made_after before rounds)

-- ---- how a call ends ----

-- With Looks and Stopped no round left the connection: with Looks they are as many as were asked for, and
-- with Stopped fewer. With any other answer the newest round left it for just that.
abbrev pub EndsBy : List Round → ℕ → LowWhy → Type 0
EndsBy rounds most whys.Looks = (length rounds ≡ most) × GoOn rounds
EndsBy rounds most whys.Stopped = (length rounds < most) × GoOn rounds
EndsBy rounds most why = (length rounds ≤ most) × (newest_cause rounds ≡ Some why)

-- the answer has the rounds that were made, of at most so many
abbrev pub IsServed : List Round → ℕ → LowServed → Type 0
IsServed rounds most served = (served.looks ≡ length rounds) × EndsBy rounds most served.why

-- the newest reply was sent whole; those before it were, or they had left the connection
abbrev pub all_sent : List Round → Bool
all_sent [] = true
all_sent (r ∷ past) = r.is_sent

-- so with the newest lines
abbrev pub all_kept : List Round → Bool
all_kept [] = true
all_kept (r ∷ past) = r.is_kept

-- what the gate was asked: before each round, and once more where it stopped the worker
abbrev pub asked_in : List Round → LowWhy → List (ℕ × ℕ)
asked_in rounds whys.Stopped = asks_of rounds ++ ask_after rounds ∷ []
asked_in rounds _ = asks_of rounds

-- ---- the low disk ----

abbrev pub is_device : LowWhy → Bool
is_device (whys.Device faults) = true
is_device _ = false

abbrev pub is_device_in : Option LowWhy → Bool
is_device_in None = false
is_device_in (Some why) = is_device why

-- a fault of the disk comes with the disk's count, which rose
abbrev pub CountsFault : LowWhy → ℕ → ℕ → Type 0
CountsFault (whys.Device faults) before now = (faults ≡ now) × Rose before now
CountsFault _ before now = Unit {0}

abbrev pub CountsFaultIn : Option LowWhy → ℕ → ℕ → Type 0
CountsFaultIn None before now = Unit {0}
CountsFaultIn (Some why) before now = CountsFault why before now

-- ---- the cause of an answer ----

-- What failed or stopped the worker, as its answer says: a count rose for it. So with the faults of the link, of the
-- tape and of the disk, and with the stops of the gate, each before the call and after it.
pub record IsCaused (why : LowWhy) (link_was link_now tape_was tape_now disk_was disk_now stops_was stops_now : ℕ)
    : Type 0 where
  pub link : why ≡ whys.LinkFailed → Rose link_was link_now
  pub tape : why ≡ whys.RecordFailed → Rose tape_was tape_now
  pub device : CountsFault why disk_was disk_now
  pub stopped : why ≡ whys.Stopped → Rose stops_was stops_now
  -- with any other answer the gate stopped nobody
  pub went : (why ≡ whys.Stopped → ⊥) → stops_now ≡ stops_was

-- ---- the functions of one round ----

abbrev pub heard_option : Option Hearing → Heard
heard_option None = hears.Nothing
heard_option (Some h) = heard_as h.ending

abbrev pub LeavesIf : List ℕ → Option Hearing → Reading → Type 0
LeavesIf held None now = now ≡ Within held
LeavesIf held (Some h) now = Leaves held h.bytes h.ending now

-- a reading where one is wanted, and none where not
abbrev pub HearsIf : Bool → List ℕ → Reading → (List Looked → Type 0) → (List Looked → Type 0) → Heard → Type 0
HearsIf wants held now old new heard = (h : Option Hearing) × (is_some h ≡ wants) × IfSome h (IsHearing held)
    × (heard ≡ heard_option h) × LeavesIf held h now × Draws old new (looks_heard h)

abbrev pub arrival_heard : Heard → Arrival
arrival_heard hears.Nothing = Nothing
arrival_heard (hears.Frame f) = Came f
arrival_heard hears.Bad = Bad
arrival_heard hears.Ended = Gone
arrival_heard hears.Failed = Nothing

abbrev pub is_failed : Heard → Bool
is_failed hears.Failed = true
is_failed _ = false

abbrev pub bytes_of : Option Frame → List ℕ
bytes_of None = []
bytes_of (Some reply) = spelling reply

-- the bytes of the reply to a look, if there is one
abbrev pub bytes_made : Option Made → List ℕ
bytes_made None = []
bytes_made (Some m) = bytes_of m.reply

-- the text of a look, where a record has it behind these looks
abbrev pub text_after : SessionRow → List Made → Made → List ℕ
text_after row before m = if is_recorded before m then look_text row m else []

abbrev pub text_made : SessionRow → List Made → Option Made → List ℕ
text_made row before None = []
text_made row before (Some m) = text_after row before m

-- the newest look found the passage full, where the one before did or not
abbrev pub full_after : Bool → Option Made → Bool
full_after was None = was
full_after was (Some m) = is_full m.look.feedback

abbrev pub why_heard : Heard → Option LowWhy
why_heard hears.Nothing = None
why_heard (hears.Frame f) = None
why_heard hears.Bad = Some whys.Bad
why_heard hears.Ended = Some whys.Gone
why_heard hears.Failed = Some whys.LinkFailed

abbrev pub why_by : Bool → Bool → ℕ → Bool → Heard → Option LowWhy
why_by is_kept is_down faults is_sent heard = if not is_kept then Some whys.RecordFailed
    else if is_down then Some (whys.Device faults)
    else if not is_sent then Some whys.LinkFailed
    else why_heard heard

-- one round, where these bytes are held
abbrev pub Turns : LowProcess → LowProcess → List ℕ → Round → Type 0
Turns p q held r = Leads p q (λ row o before. IsRound row o before held r) (λ before. with_look r.made before)
