-- What the parts of a low pump stand for, and what a part of a line does to them. It serves the private
-- functions and the proofs.
use Rattle.std.specs.Prelude.{◌≡◌, ℕ, ◌<◌, ◌≤◌, Bool, true, false, if◌then◌else◌, List, [], length, Option, Some, None}
use Rattle.disk_model.specs.Plain.{Plain, plain_meaning}
use Rattle.disk_model.specs.declared.name.Role.TheVariants as roles
use Rattle.pump_frame.specs.Rows.{IsLawfulRow}
use Rattle.pump_frame.specs.declared.row.SessionRow.{SessionRow}
use Rattle.pump_core.specs.History.{Arrival}
use Rattle.stable_buffer.specs.Low.{low_disk, low_with_disk}
use Rattle.stable_buffer.specs.Stands.{low_size}
use Rattle.stable_buffer.specs.declared.low.LowStore.{LowStore}
use Rattle.low_process.specs.Looks as low
use Rattle.low_process.specs.Whole.{IsStoreOf}
use Rattle.low_process.specs.declared.process.LowProcess.{LowProcess}
use Rattle.low_process.specs.declared.values.Answer.{Answer}
use Rattle.low_process.specs.declared.values.Answer.TheVariants as answers
use Rattle.low_process.specs.declared.values.Ask.{Ask}
use Rattle.low_process.specs.declared.values.Ask.TheVariants.{Done, Forward, Average}
use Rattle.low_process.specs.declared.values.LowLook.{LowLook}
use Rattle.script_reader.specs.declared.event.Event.{Event}
use Rattle.script_reader.specs.declared.line.ToldFeedback.{ToldFeedback}
use Rattle.script_reader.specs.declared.line.ToldFeedback.TheVariants.{Quiet, Full, Pair}
use Rattle.script_reader.specs.declared.line.Arriving.{Arriving}
use Rattle.script_reader.specs.Steps.{LineComing, Arrives}
use Rattle.script_reader.specs.declared.line.Line.{Line}
use Rattle.script_reader.specs.Alone.{PastAlone, told_of_read, joined_alone, IsOfferedTold, is_apt_alone}
use Rattle.script_reader.specs.Alone.{IsRefusedAlone, StepAlone}
use Rattle.two_worlds.specs.Connections.{waits_of, is_broken_of, reading_of}
use Rattle.two_worlds.specs.declared.applied.Stop.{Stop}
use Rattle.two_worlds.specs.declared.applied.Stop.TheVariants as stops
use Rattle.two_worlds.specs.declared.low_pump.parts.LowPumpParts.{LowPumpParts}

-- the disk under the store
abbrev pub disk_of : LowPumpParts → Plain
disk_of c = low_disk c.store

-- the parts stand for what the low side has been through
pub record PartsStand (c : LowPumpParts) (p : PastAlone) : Type 0 where
  pub row : IsLawfulRow c.row
  pub history : low.StandsFor c.process p.history
  pub waits : waits_of c.connection ≡ p.waits
  pub broken : is_broken_of c.connection ≡ p.is_broken
  pub reading : reading_of c.connection ≡ p.reading
  pub moment : c.moment ≡ p.moment
  pub last : low.last_of c.process ≤ c.moment
  pub of_row : low.row_of c.process ≡ c.row
  pub up : low.is_down c.process ≡ false
  pub store : IsStoreOf plain_meaning c.process c.store
  pub armed : (disk_of c).armed ≡ p.is_armed
  -- the disk has room for all that its format needs
  pub room : low_size c.row ≤ (disk_of c).room

abbrev pub StandsForSome : LowPumpParts → Type 0
StandsForSome c = (p : PastAlone) × PartsStand c p

-- the store with a disk of which the next call fails
abbrev pub armed : LowStore Plain → LowStore Plain
armed store = low_with_disk store (record (low_disk store) { armed = true })

abbrev pub armed_if : Bool → LowStore Plain → LowStore Plain
armed_if fault store = if fault then armed store else store

-- ---- a look ----

-- what an offer is answered
abbrev pub answer_of : ToldFeedback → Answer
answer_of Quiet = answers.Full
answer_of Full = answers.Full
answer_of (Pair count average) = answers.Passed (record { count = count; average = average })

-- a process that asked ends its look, with this answer
pub record Finishes (p q : LowProcess) (answer : Answer) (l : LowLook) : Type 0 where
  pub looks : (m w : ℕ) (a : Arrival) (is_fault : Bool)
      → low.Looks (λ h. low.AsksFor p h m w a is_fault) q (low.row_of p) (low.look_of m w a is_fault l.feedback) l
  pub tells : low.Tells (low.owes p) answer l.feedback
  pub row : low.row_of q ≡ low.row_of p
  pub next : low.next_of q ≡ low.next_of p
  pub last : low.last_of q ≡ low.last_of p
  pub up : low.is_down q ≡ false

-- the process asked this, or is done
abbrev pub HasAsked : LowProcess → Ask → Type 0
HasAsked p (Done l) = Unit {0}
HasAsked p (Forward item) = low.AsksToForward p
HasAsked p Average = low.AsksTheAverage p

-- the rest of a look: it is done, or the process is answered by what is told
abbrev pub AnsweredBy : SessionRow → ToldFeedback → LowProcess → LowProcess → Ask → LowLook → Type 0
AnsweredBy row told p q (Done done) l = (l ≡ done) × (q ≡ p)
AnsweredBy row told p q (Forward item) l = Finishes p q (answer_of told) l
AnsweredBy row told p q Average l = Finishes p q (answers.Average (told_of_read row told)) l

-- ---- how a line ends ----

-- A part of a line of which `Does` says what it leads to, where the disk failed in it or not. Where
-- `Bars` has it, it could not be done.
module _ (Bars : Type 0) (Does : Bool → PastAlone → List Event → Type 0) where
  abbrev pub EndsBy : LowPumpParts → LowPumpParts → List Event → Option Stop → Type 0
  EndsBy c d printed None = (q : PastAlone) × Does false q printed × PartsStand d q
  EndsBy c d printed (Some stops.Line) = Bars × (printed ≡ []) × (d ≡ c)
  EndsBy c d printed (Some (stops.Device roles.Low faults)) =
      ((q : PastAlone) × Does true q printed) × (low.is_down d.process ≡ true) × (faults ≡ (disk_of d).faults)
  EndsBy c d printed (Some (stops.Device roles.High faults)) = ⊥
  EndsBy c d printed (Some (stops.Device roles.Recv faults)) = ⊥
  EndsBy c d printed (Some (stops.Full end size_of_message size)) = ⊥
  EndsBy c d printed (Some (stops.Disk role why)) = ⊥

-- so for every past that the parts stood for
abbrev pub Ends : LowPumpParts → LowPumpParts → (PastAlone → Type 0)
    → (PastAlone → Bool → PastAlone → List Event → Type 0) → List Event → Option Stop → Type 0
Ends c d Bars Does printed stop =
    (p : PastAlone) → PartsStand c p → EndsBy (Bars p) (Does p) c d printed stop

-- so a line ends
abbrev pub EndsLine : LowPumpParts → LowPumpParts → Line → List Event → Option Stop → Type 0
EndsLine c d line printed stop = Ends c d (λ p. IsRefusedAlone c.row p line)
    (λ p is_fault q printed. (is_apt_alone c.row p line ≡ true) × StepAlone c.row p line is_fault q printed) printed
    stop

-- it is always done
abbrev pub NeverBars : PastAlone → Type 0
NeverBars p = ⊥

-- with what comes with a `told` line, more than 64 arrivals would wait
abbrev pub Crowds : SessionRow → Bool → Arriving → PastAlone → Type 0
Crowds row fault a p = (k : LineComing) × Arrives row.id p.reading a k × (64 < length (joined_alone p fault k).waits)

-- the look of a `told` line
abbrev pub IsJoinedTold : SessionRow → ℕ → ℕ → Bool → ToldFeedback → Arriving → PastAlone → Bool → PastAlone
    → List Event → Type 0
IsJoinedTold row m w fault told a p is_fault q printed =
    (k : LineComing) × Arrives row.id p.reading a k
    × IsOfferedTold row (joined_alone p fault k) m w told is_fault q printed
