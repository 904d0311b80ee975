-- What a part of a line leaves of the parts, whatever the disks tell.
use Rattle.std.specs.Prelude.{◌≡◌, true, Result, Ok, Err}
use Rattle.disk_model.specs.Disk.{Meaning}
use Rattle.two_worlds.specs.declared.applied.Stop.{Stop}
use Rattle.two_worlds.specs.declared.applied.Stop.TheVariants.{Line, Device, Full, Disk}
use Rattle.two_worlds.specs.declared.pump.parts.Parts.{Parts}
use Rattle.two_worlds.specs.Standing.{is_down, disk_at}
use Rattle.two_worlds.specs.Working.{Works, IsTooLong}

-- the parts work; or a disk failed, which is counted, and they are down; or they work, and a message was too
-- long for the receiver's disk
abbrev pub WorksOn : {D : Type 0} → Meaning D → Parts D → Result (Unit {0}) Stop → Type 0
WorksOn m d (Ok done) = ∥ Works m d ∥₁
WorksOn m d (Err Line) = ⊥
WorksOn m d (Err (Device role faults)) = (is_down d ≡ true) × (faults ≡ m.count (disk_at role d))
WorksOn m d (Err (Full end size_of_message size)) =
    ∥ Works m d ∥₁ × IsTooLong d end size_of_message size
WorksOn m d (Err (Disk role why)) = ⊥
