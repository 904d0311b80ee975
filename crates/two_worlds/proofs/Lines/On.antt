-- A line goes on, whatever the disks tell.
use Rattle.std.proofs.Common.{◌≡◌, ◌<◌, ◌++◌, [], ◌∷◌, length, nat_eq, arith, inr, true, List, Result, Ok, Err}
use Rattle.std.proofs.Math.Logic.{∥∥₁_map}
use Rattle.std.proofs.lemmas.Bool.{eqb-true}
use Rattle.disk_model.specs.Disk.{Meaning}
use Rattle.script_reader.specs.declared.event.Event.{Event}
use Rattle.script_reader.specs.declared.line.Line.{Line as ScriptLine}
use Rattle.script_reader.specs.Past.{Past}
use Rattle.two_worlds.specs.declared.applied.Stop.{Stop}
use Rattle.two_worlds.specs.declared.applied.Stop.TheVariants.{Line, Device, Full, Disk}
use Rattle.two_worlds.specs.declared.pump.parts.Parts.{Parts}
use Rattle.two_worlds.specs.Doing.{PartsLeaveFit}
use Rattle.two_worlds.specs.Private.GoingOn.{WorksOn}
use Rattle.two_worlds.specs.Private.LineSteps.{RunsOn, AttemptsOn}
use Rattle.two_worlds.specs.Timely.{IsUncrowdedBy, is_timely_by}
use Rattle.two_worlds.specs.Standing.{Stands}
use Rattle.two_worlds.specs.Working.{IsAble}

module _ {D : Type 0} (m : Meaning D) (c d : Parts D) (line : ScriptLine) (out now : List Event) where
  -- what comes with it has room
  pub runs_on : (result : Result (Unit {0}) Stop) → IsUncrowdedBy c line → WorksOn m d result → RunsOn m c d line out now result
  runs_on (Ok done) room works = (room, works)
  runs_on (Err Line) room works = absurd works
  runs_on (Err (Device role faults)) room works = (room, works)
  runs_on (Err (Full end k size)) room works = (room, works)
  runs_on (Err (Disk role why)) room works = absurd works

  -- it passed the test
  pub attempts_on : (result : Result (Unit {0}) Stop) → is_timely_by c line ≡ true → RunsOn m c d line out now result → AttemptsOn m c d line out now result
  attempts_on (Ok done) timely runs = ((timely, runs.0), runs.1)
  attempts_on (Err Line) timely runs = (runs.0, runs.1, inr runs.2)
  attempts_on (Err (Device role faults)) timely runs = ((timely, runs.0), runs.1)
  attempts_on (Err (Full end k size)) timely runs = ((timely, runs.0), runs.1)
  attempts_on (Err (Disk role why)) timely runs = absurd runs

-- after a part of a line that went well another may follow
pub able_on : {D : Type 0} (m : Meaning D) (c d : Parts D) (Leads : Past → Past → List Event → Type 0) (out now : List Event) → IsAble m c → WorksOn m d (Ok tt)
    → ((p : Past) → Stands m c p → (q : Past) × (printed : List Event) × Leads p q printed × (now ≡ out ++ printed) × Stands m d q × PartsLeaveFit m c d p q) → IsAble m d
able_on m c d Leads out now able works does = record { works = works; stands = λ told. ∥∥₁_map (able.stands told) (λ s. (let a = does s.0 s.1 in (a.0, a.4))) }

pub none_kept : {X : Type 0} (xs : List X) → 0 < length xs → nat_eq (length xs) 0 ≡ true → ⊥
none_kept [] some e = absurd (omega (arith, some))
none_kept (x ∷ xs) some e = let none = eqb-true (length (x ∷ xs)) 0 e in absurd (omega (arith, none, some))
