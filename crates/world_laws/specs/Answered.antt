-- The TAKEN of the last message that the receiver took is among those that were sent.
use Rattle.std.specs.Prelude.{◌≡◌, ℕ, ◌-◌, ◌<◌, ◌≤◌, List, length, slice_get, Some}
use Rattle.pump_frame.specs.declared.row.SessionRow.{SessionRow}
use Rattle.pump_core.specs.declared.event.Event.{Event}
use Rattle.pump_core.specs.History.{History}
use Rattle.pump_core.specs.World.{World}
use Rattle.pump_core.specs.Events.{BeginsRun, Run}
use Rattle.pump_core.specs.Timed.{Step, Point}
use Rattle.pump_core.specs.Runs.{IsRun}
use Rattle.script_reader.specs.declared.line.Line.{Line}
use Rattle.script_reader.specs.declared.event.Event.{Event as Printed}
use Rattle.script_reader.specs.Past.{Past}
use Rattle.script_reader.specs.Openings.{Openings}
use Rattle.script_reader.specs.Scripts.{Running, Whole, ComesTo}

-- a receiver that has messages has answered the last of them
abbrev pub HasAnswered : World → Type 0
HasAnswered w = 0 < length w.received → (k : ℕ) × (slice_get w.returned k ≡ Some (length w.received - 1))

-- so has that of a session, and of all TAKEN that were ever sent, those from before the session are the first
pub record KeepsAnswers (p : Past) : Type 0 where
  pub answered : HasAnswered p.world
  pub before : p.returned_before ≤ length p.world.returned

-- ---- the laws ----

-- from a world that begins, all events lead to worlds whose receiver has answered
abbrev pub EveryWorldHasAnswered : Type 0
EveryWorldHasAnswered = (start end : World) (events : List Event) → BeginsRun start → Run start events end
    → HasAnswered end

-- so has the receiver in the world to which a timed run comes
abbrev pub TimedWorldsHaveAnswered : Type 0
TimedWorldsHaveAnswered = (row : SessionRow) (steps : List Step) (t : Point) (h : History) → IsRun row steps t h
    → HasAnswered t.world

-- whatever a script's session has been through, its receiver has answered
abbrev pub SessionsKeepAnswers : Type 0
SessionsKeepAnswers = (o : Openings) (script : List Line) (s : Running) (printed : List Printed)
    → ComesTo o script (Some (Whole s)) printed → KeepsAnswers s.past
