-- Lines of a whole session each of which can be applied.
use Rattle.std.specs.Prelude.{◌≡◌, ℕ, true, List, [], ◌∷◌}
use Rattle.pump_frame.specs.declared.row.SessionRow.{SessionRow}
use Rattle.script_reader.specs.declared.event.Event.{Event}
use Rattle.script_reader.specs.declared.line.Line.{Line}
use Rattle.script_reader.specs.Past.{Past}
use Rattle.script_reader.specs.Steps.{is_timely, IsCrowded, LineStep, Overfills}

-- from what the session has been through each of these lines, one after another, can be applied, and none
-- overfills the receiver's disk
abbrev pub AllApply : SessionRow → Past → List Line → Type 0
AllApply row p [] = Unit {0}
AllApply row p (line ∷ later) =
    (is_timely row p line ≡ true)
    × (IsCrowded p line → ⊥)
    × ((q : Past) (printed : List Event) (end length size : ℕ) → Overfills row p line q printed end length size → ⊥)
    × ((q : Past) (printed : List Event) → LineStep row p line q printed → AllApply row q later)
