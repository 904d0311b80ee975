-- What a script's low side alone has been through, as what came to it and the looks that it made.
use Rattle.std.specs.Prelude.{◌≡◌, true, false, List, [], ◌∷◌, ◌++◌, map, reverse, Some, None}
use Rattle.pump_frame.specs.declared.row.SessionRow.{SessionRow}
use Rattle.pump_core.specs.declared.feedback.Feedback.{Feedback}
use Rattle.pump_core.specs.Comings.{Coming, Timed, Comes, Looks, Side, HasSides, comings}
use Rattle.pump_core.specs.Timed.{look_begun}
use Rattle.script_reader.specs.declared.line.Line.{Line}
use Rattle.script_reader.specs.declared.line.Line.TheVariants as lines
use Rattle.script_reader.specs.declared.event.Event.{Event}
use Rattle.script_reader.specs.Steps as script
use Rattle.script_reader.specs.Alone.{PastAlone}
use Rattle.script_reader.specs.Openings.{Openings}
use Rattle.script_reader.specs.Scripts.{RunningAlone, Alone, GoesAlone, LeadTo}
use Rattle.world_laws.specs.Timelines.{arrived, AreLeft}

-- the opening of the low side's one life, and what happened since, the newest first
abbrev pub side_of : PastAlone → List Timed → Side
side_of p events = record { opening = p.history.life.opening; events = events }

-- this came to the low side, and these looks it made: each look that may take something was offered what
-- came first and was not taken, and what waits came on the connection that stands and was not taken
pub record IsTimelineAlone (row : SessionRow) (p : PastAlone) (events : List Timed) : Type 0 where
  pub sides : HasSides row (side_of p events ∷ []) p.history
  pub waits : AreLeft (comings events) sides.1.0 p.waits p.is_broken

-- a `told` line is what comes with it and one look, a `gone` line one look with the news that the
-- connection is lost, each with some feedback
abbrev pub AreEvents : PastAlone → Line → List Timed → Type 0
AreEvents p (lines.Told session m w fault told a) events =
    (c : script.LineComing) × script.Arrives session p.reading a c × (came : List Coming)
    × (c.added ≡ map arrived came)
    × ((f : Feedback) × (events ≡ Looks (record (look_begun m w false false) { feedback = f }) ∷ reverse
    (map (λ k. Comes k) came)))
AreEvents p (lines.Gone session m) events = (f : Feedback)
    × (events ≡ Looks (record (look_begun m 0 true false) { feedback = f }) ∷ [])
AreEvents p _ events = ⊥

-- the low side of the past p, to which this happened, came to the past q by this line: the line's events
-- happened next
abbrev pub GoesOnAlone : SessionRow → PastAlone → Line → List Timed → PastAlone → Type 0
GoesOnAlone row p line events q = (more : List Timed) × IsTimelineAlone row q (more ++ events) × AreEvents p line more

-- a line goes on with whatever happened to its low side
abbrev pub LowLinesAreEvents : Type 0
LowLinesAreEvents = (s : RunningAlone) (line : Line) (q : PastAlone) (printed : List Event) (events : List Timed)
    → GoesAlone s line (Some (Alone (record { row = s.row; past = q }))) printed
    → IsTimelineAlone s.row s.past events → GoesOnAlone s.row s.past line events q

-- what came to a script's low side alone, and the looks that it made
abbrev pub LowScriptsAreTimed : Type 0
LowScriptsAreTimed = (o : Openings) (script : List Line) (s : RunningAlone) (printed : List Event)
    → LeadTo o None script (Some (Alone s)) printed → (events : List Timed) × IsTimelineAlone s.row s.past events
