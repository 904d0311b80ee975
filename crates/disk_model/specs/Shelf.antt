-- What a shelf tells of its disks and its files, and how its calls move that.
use Rattle.std.specs.Prelude.{◌≡◌, ℕ, ◌≤◌, nat_le, if◌then◌else◌, List, [], ◌++◌, length, take, drop, Option, None}
use Rattle.std.specs.Prelude.{Some, Result, Err}
use Rattle.pump_frame.specs.Counts.{raised, Rose}
use Rattle.disk_model.specs.declared.name.DiskName.{DiskName}
use Rattle.disk_model.specs.declared.shelf.ShelfFault.{ShelfFault}
use Rattle.disk_model.specs.declared.shelf.ShelfFault.TheVariants.{Failed}

-- Where the disk of a name is: on the shelf, and what it reads; out, and how often it had failed when it was given;
-- or nowhere yet.
pub data Whereabouts : Type 0 where
  OnShelf : (reading : List ℕ) → Whereabouts
  Out : (given : ℕ) → Whereabouts
  Nowhere : Whereabouts

-- What a type of shelf tells. Where `tells` has no proof it tells no reading and no file.
pub record Holdings (S : Type 0) : Type 1 where
  pub tells : Type 0
  pub disk : S → DiskName → Whereabouts
  -- the bytes of the file of a name
  pub file : S → List ℕ → Option (List ℕ)
  -- how many calls of `whole` failed; how many of `disk` did, and how many disks came back with faults
  pub faults : S → ℕ
  pub disk_faults : S → ℕ

-- every other disk is where it was
abbrev pub LeavesOthers : {S : Type 0} → Holdings S → DiskName → S → S → Type 0
LeavesOthers m name old new = (other : DiskName) → (other ≡ name → ⊥) → m.disk new other ≡ m.disk old other

abbrev pub IsOut : Whereabouts → Type 0
IsOut (OnShelf reading) = ⊥
IsOut (Out given) = Unit {0}
IsOut Nowhere = ⊥

-- what the disk reads that is given: a new one is empty, and none is given that is out
abbrev pub reading_given : Whereabouts → Option (List ℕ)
reading_given (OnShelf reading) = Some reading
reading_given (Out given) = None
reading_given Nowhere = Some []

-- the count of the shelf after a disk came back: one more where the disk's own count rose while it was out, or stands
-- at its greatest value
abbrev pub count_when_back : Whereabouts → ℕ → ℕ → ℕ
count_when_back (OnShelf reading) now count = count
count_when_back (Out given) now count = if nat_le (raised given) now then raised count else count
count_when_back Nowhere now count = count

-- the length is that of the file, the buffer begins with as much of the file as fits, and what is beyond stays
abbrev pub ReadsFile : Option (List ℕ) → List ℕ → List ℕ → ℕ → Type 0
ReadsFile None old new n = ⊥
ReadsFile (Some bytes) old new n = (n ≡ length bytes) × (new ≡ take (length old) bytes ++ drop (length bytes) old)

-- the count did not fall, and where the call failed, but not for want of memory, it rose
pub record FailsBy {T : Type 0} (before now : ℕ) (result : Result T ShelfFault) : Type 0 where
  pub later : before ≤ now
  pub failed : result ≡ Err Failed → Rose before now
