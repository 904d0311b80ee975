-- The part of a file, as its disk tells it.
use Rattle.std.specs.Prelude.{◌≡◌, ℕ, length, Option, None, Some}
use Rattle.disk_model.specs.Disk.{Meaning}
use Rattle.pump_frame.specs.Counts.{Rose}

-- the disk's count rose, and is told
abbrev pub IsDevice : {D : Type 0} → Meaning D → D → D → ℕ → Type 0
IsDevice m old new faults = (faults ≡ m.count new) × Rose (m.count old) (m.count new)

-- the part has so many bytes
abbrev pub PartHas : {D : Type 0} → Meaning D → Option D → ℕ → Type 0
PartHas m None count = Unit {0}
PartHas m (Some disk) count = m.tells → length (m.reading disk) ≡ count
