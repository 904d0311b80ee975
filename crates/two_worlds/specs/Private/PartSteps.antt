-- A part of a line, as a step from some parts of a pump to others. Only clauses of private functions name this.
use Rattle.std.specs.Prelude.{◌≡◌, ℕ, List, Result}
use Rattle.disk_model.specs.Disk.{Meaning}
use Rattle.disk_model.specs.declared.name.Role.{Role}
use Rattle.script_reader.specs.declared.event.Event.{Event}
use Rattle.script_reader.specs.Past.{Past}
use Rattle.two_worlds.specs.declared.applied.Stop.{Stop}
use Rattle.two_worlds.specs.declared.pump.parts.Parts.{Parts}
use Rattle.two_worlds.specs.Doing.{Does}
use Rattle.two_worlds.specs.Private.GoingOn.{WorksOn}
use Rattle.two_worlds.specs.Private.Serving.{DisksServe}

-- what it did where the parts stood for a past; that they go on from it, whatever the disks tell; the calls of the
-- disks; and that the row stays
pub record PartStep (Leads : Past → Past → List Event → Type 0) (Breaks : Role → Past → Past → List Event → Type 0)
    (Overfills : Past → Past → List Event → ℕ → ℕ → ℕ → Type 0) {D : Type 0} (m : Meaning D) (c d : Parts D)
    (out now : List Event) (result : Result (Unit {0}) Stop) : Type 0 where
  pub does : Does Leads Breaks Overfills m c d out now result
  pub works : WorksOn m d result
  pub serve : DisksServe m c d result
  pub row : d.row ≡ c.row
