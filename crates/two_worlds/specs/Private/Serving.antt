-- The calls of the disks in a part of a line; no public clause cites this.
use Rattle.std.specs.Prelude.{Result}
use Rattle.std.specs.Result.{result_err}
use Rattle.disk_model.specs.Disk.{Meaning}
use Rattle.disk_model.specs.declared.name.Role.TheVariants as roles
use Rattle.two_worlds.specs.declared.applied.Stop.{Stop}
use Rattle.two_worlds.specs.declared.pump.parts.Parts.{Parts}
use Rattle.two_worlds.specs.Rooms.{DisksGo}
use Rattle.two_worlds.specs.Standing.{disk_at}

-- so the disks of the parts go, by what is answered
abbrev pub DisksServe : {D : Type 0} → Meaning D → Parts D → Parts D → Result (Unit {0}) Stop → Type 0
DisksServe m c d result =
    DisksGo m c.row (disk_at roles.Low c) (disk_at roles.High c) (disk_at roles.Recv c) (disk_at roles.Low d)
    (disk_at roles.High d) (disk_at roles.Recv d) (result_err result)
