-- How often the disks of a chain have failed.
use Rattle.std.specs.Prelude.{◌≤◌}
use Rattle.disk_model.specs.Disk.{Meaning}
use Rattle.disk_model.specs.declared.name.Role.{Role}
use Rattle.two_worlds.specs.declared.pump.Pump.{Pump}
use Rattle.two_worlds.specs.Pumps.{disk_at}
use Rattle.pump_chain.specs.declared.chain.Chain.{Chain}

-- no disk of a pump has failed less often than before
abbrev pub FailsNoLess : {D : Type 0} {g : _} → Meaning D → Pump D g → Pump D g → Type 0
FailsNoLess m s t = (role : Role) → m.count (disk_at role s) ≤ m.count (disk_at role t)

-- .. of both pumps
abbrev pub FailNoLess : {D : Type 0} {g : _} → Meaning D → Chain D g → Chain D g → Type 0
FailNoLess m s t = FailsNoLess m s.first t.first × FailsNoLess m s.second t.second
