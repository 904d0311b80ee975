-- When two names of disks are one.
use Rattle.std.specs.Prelude.{◌==◌, Bool, true, false, ◌&&◌}
use Rattle.disk_model.specs.declared.name.DiskName.{DiskName}
use Rattle.disk_model.specs.declared.name.Role.{Role}
use Rattle.disk_model.specs.declared.name.Role.TheVariants.{Low, High, Recv}

abbrev pub same_role : Role → Role → Bool
same_role Low Low = true
same_role Low High = false
same_role Low Recv = false
same_role High Low = false
same_role High High = true
same_role High Recv = false
same_role Recv Low = false
same_role Recv High = false
same_role Recv Recv = true

-- the two names are one
abbrev pub same_name : DiskName → DiskName → Bool
same_name a b = (a.session == b.session) && same_role a.role b.role
