-- How a low look ends; no public clause cites this.
use Rattle.std.specs.Prelude.{if◌then◌else◌, Result, Ok, Err}
use Rattle.disk_model.specs.Disk.{Meaning}
use Rattle.disk_model.specs.declared.name.Role.TheVariants as roles
use Rattle.stable_buffer.specs.Low.{low_disk}
use Rattle.stable_buffer.specs.declared.low.LowStore.{LowStore}
use Rattle.low_process.specs.Looks.{is_down}
use Rattle.low_process.specs.declared.process.LowProcess.{LowProcess}
use Rattle.two_worlds.specs.declared.applied.Stop.{Stop}
use Rattle.two_worlds.specs.declared.applied.Stop.TheVariants.{Device}

-- Ok, or where the process is down the low disk's fault
abbrev pub stop_of : {D : Type 0} → Meaning D → LowProcess → LowStore D → Result (Unit {0}) Stop
stop_of m process store = if is_down process then Err (Device roles.Low (m.count (low_disk store))) else Ok tt
