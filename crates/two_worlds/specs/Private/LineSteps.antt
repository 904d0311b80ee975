-- What a line of a script does to the parts of a pump.
use Rattle.std.specs.Prelude.{◌≡◌, ℕ, true, List, [], Result, Ok, Err}
use Rattle.disk_model.specs.Disk.{Meaning}
use Rattle.script_reader.specs.declared.event.Event.{Event}
use Rattle.script_reader.specs.declared.line.Line.{Line as ScriptLine}
use Rattle.script_reader.specs.Past.{Past}
use Rattle.script_reader.specs.Highs.{IsOverfull}
use Rattle.script_reader.specs.Steps.{is_timely, IsCrowded, IsRefusedWhole, LineStep, Overfills}
use Rattle.script_reader.specs.Breaks.{Breaks}
use Rattle.two_worlds.specs.declared.applied.Stop.{Stop}
use Rattle.two_worlds.specs.declared.applied.Stop.TheVariants.{Line, Device, Full, Disk}
use Rattle.two_worlds.specs.declared.pump.parts.Parts.{Parts}
use Rattle.two_worlds.specs.declared.pump.state.PumpState.TheVariants.{Open}
use Rattle.two_worlds.specs.Standing.{Stands}
use Rattle.two_worlds.specs.States.{RefusesAheadIn}
use Rattle.two_worlds.specs.Doing.{DoesFrom}
use Rattle.two_worlds.specs.Timely.{IsCrowdedBy, IsUncrowdedBy, CanApply, CannotApply}
use Rattle.two_worlds.specs.Private.GoingOn.{WorksOn}
use Rattle.two_worlds.specs.Private.Serving.{DisksServe}

-- ---- what a line does ----
-- Each says more of the line than the one before. `Does` says what any part of a line leads to. `LineDoes`
-- says that of a step of this line. `Runs` adds what becomes of it where more than 64 arrivals would wait,
-- and `Attempts` adds the test that comes first. A name that ends in From says it of one past that the parts
-- stood for, and the name without From of each.

-- it does not fit at the receiver, and nothing has changed
abbrev pub IsOverfullSent : Past → Past → List Event → ℕ → ℕ → ℕ → Type 0
IsOverfullSent p q printed end size_of_message size =
    (q ≡ p) × IsOverfull p.world 0 end size_of_message size × (printed ≡ [])

-- the line was carried out, or the device of a disk cut it short, or a message did not fit
abbrev pub LineDoes : {D : Type 0} → Meaning D → Parts D → Parts D → ScriptLine → List Event → List Event → Past
    → Result (Unit {0}) Stop → Type 0
LineDoes m c d line out now p result =
    DoesFrom (λ p q printed. LineStep c.row p line q printed)
    (λ role p q printed. Breaks c.row p line role q printed)
    (λ p q printed end size_of_message size. Overfills c.row p line q printed end size_of_message size)
    m c d out now p result

-- a line for which the test holds: so it did, or more than 64 arrivals would wait and nothing has changed
abbrev pub RunsFrom : {D : Type 0} → Meaning D → Parts D → Parts D → ScriptLine → List Event → List Event → Past
    → Result (Unit {0}) Stop → Type 0
RunsFrom m c d line out now p (Ok done) = LineDoes m c d line out now p (Ok done)
RunsFrom m c d line out now p (Err Line) = (d ≡ c) × (now ≡ out) × IsCrowded p line
RunsFrom m c d line out now p (Err (Device role faults)) = LineDoes m c d line out now p (Err (Device role faults))
RunsFrom m c d line out now p (Err (Full end size_of_message size)) = LineDoes m c d line out now p
    (Err (Full end size_of_message size))
RunsFrom m c d line out now p (Err (Disk role why)) = ⊥

abbrev pub Runs : {D : Type 0} → Meaning D → Parts D → Parts D → ScriptLine → List Event → List Event
    → Result (Unit {0}) Stop → Type 0
Runs m c d line out now result = (p : Past) → Stands m c p → RunsFrom m c d line out now p result

-- any line: it can be applied, and did so; or it can't, and nothing has changed
abbrev pub AttemptsFrom : {D : Type 0} → Meaning D → Parts D → Parts D → ScriptLine → List Event → List Event → Past
    → Result (Unit {0}) Stop → Type 0
AttemptsFrom m c d line out now p (Ok done) = (is_timely c.row p line ≡ true) × LineDoes m c d line out now p (Ok done)
AttemptsFrom m c d line out now p (Err Line) = (d ≡ c) × (now ≡ out) × IsRefusedWhole c.row p line
AttemptsFrom m c d line out now p (Err (Device role faults)) =
    (is_timely c.row p line ≡ true) × LineDoes m c d line out now p (Err (Device role faults))
AttemptsFrom m c d line out now p (Err (Full end size_of_message size)) =
    (is_timely c.row p line ≡ true) × LineDoes m c d line out now p (Err (Full end size_of_message size))
AttemptsFrom m c d line out now p (Err (Disk role why)) = ⊥

abbrev pub Attempts : {D : Type 0} → Meaning D → Parts D → Parts D → ScriptLine → List Event → List Event
    → Result (Unit {0}) Stop → Type 0
Attempts m c d line out now result = (p : Past) → Stands m c p → AttemptsFrom m c d line out now p result

-- ---- what a line does, whatever the disks tell ----

-- a line for which the test holds: the parts go on from what it did; or more than 64 arrivals would wait
-- and nothing has changed
abbrev pub RunsOn : {D : Type 0} → Meaning D → Parts D → Parts D → ScriptLine → List Event → List Event
    → Result (Unit {0}) Stop → Type 0
RunsOn m c d line out now (Ok done) = IsUncrowdedBy c line × WorksOn m d (Ok done)
RunsOn m c d line out now (Err Line) = (d ≡ c) × (now ≡ out) × IsCrowdedBy c line
RunsOn m c d line out now (Err (Device role faults)) = IsUncrowdedBy c line × WorksOn m d (Err (Device role faults))
RunsOn m c d line out now (Err (Full end size_of_message size)) = IsUncrowdedBy c line
    × WorksOn m d (Err (Full end size_of_message size))
RunsOn m c d line out now (Err (Disk role why)) = ⊥

-- where its packet is refused
abbrev pub RefusesAhead : {D : Type 0} → Parts D → Parts D → ScriptLine → List Event → List Event → Type 0
RefusesAhead c d line out now = RefusesAheadIn (Open c) (Open d) line out now

-- what is said of a line for which the test holds
pub record Ran {D : Type 0} (m : Meaning D) (c d : Parts D) (line : ScriptLine) (out now : List Event)
    (result : Result (Unit {0}) Stop) : Type 0 where
  pub runs : Runs m c d line out now result
  pub on : RunsOn m c d line out now result
  pub ahead : RefusesAhead c d line out now
  pub serve : DisksServe m c d result
  pub row : d.row ≡ c.row

-- any line: it can be applied, and the parts go on from what it did; or it can't, and nothing has changed
abbrev pub AttemptsOn : {D : Type 0} → Meaning D → Parts D → Parts D → ScriptLine → List Event → List Event
    → Result (Unit {0}) Stop → Type 0
AttemptsOn m c d line out now (Ok done) = CanApply c line × WorksOn m d (Ok done)
AttemptsOn m c d line out now (Err Line) = (d ≡ c) × (now ≡ out) × CannotApply c line
AttemptsOn m c d line out now (Err (Device role faults)) = CanApply c line × WorksOn m d (Err (Device role faults))
AttemptsOn m c d line out now (Err (Full end size_of_message size)) = CanApply c line
    × WorksOn m d (Err (Full end size_of_message size))
AttemptsOn m c d line out now (Err (Disk role why)) = ⊥

-- what is said of any line, after which the list has what it printed
pub record Tried {D : Type 0} (m : Meaning D) (c d : Parts D) (line : ScriptLine) (now : List Event)
    (result : Result (Unit {0}) Stop) : Type 0 where
  pub attempts : Attempts m c d line [] now result
  pub on : AttemptsOn m c d line [] now result
  pub ahead : RefusesAhead c d line [] now
  pub serve : DisksServe m c d result
  pub row : d.row ≡ c.row
