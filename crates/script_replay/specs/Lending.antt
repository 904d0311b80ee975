-- Disks that are off the shelf. It serves the private functions and the proofs.
use Rattle.std.specs.Prelude.{◌≡◌, ◌⊎◌, ◌≤◌, ℕ, List, [], Some}
use Rattle.disk_model.specs.declared.name.DiskName.{DiskName}
use Rattle.disk_model.specs.declared.name.Role.{Role}
use Rattle.disk_model.specs.declared.name.Role.TheVariants as roles
use Rattle.disk_model.specs.Shelf.{OnShelf, Out, reading_given}
use Rattle.pump_frame.specs.Counts.{Rose}
use Rattle.pump_frame.specs.declared.row.SessionRow.{SessionRow}
use Rattle.stable_buffer.specs.Format.{new_bytes}
use Rattle.script_replay.specs.Shelves.{Places, disk_name, reading_in}

-- the disk of a role that is there to be taken reads this
abbrev pub ReadAt : Places → ℕ → Role → List ℕ → Type 0
ReadAt places session role reading = reading_given (places (disk_name session role)) ≡ Some reading

-- it is off the shelf, and has failed so often, no less than when it was given
abbrev pub IsOutAt : Places → ℕ → Role → ℕ → Type 0
IsOutAt places session role count = (given : ℕ) × (places (disk_name session role) ≡ Out given) × (given ≤ count)

-- where its count rose since it was given, the shelf's count rises when it comes back
abbrev pub RisesAt : Places → ℕ → Role → ℕ → ℕ → ℕ → Type 0
RisesAt places session role count before now = (given : ℕ) → places (disk_name session role) ≡ Out given
    → Rose given count → Rose before now

-- the three disks of a session are on the shelf, and read this
pub record AreOnShelf (places : Places) (session : ℕ) (low high recv : List ℕ) : Type 0 where
  pub low_on : places (disk_name session roles.Low) ≡ OnShelf low
  pub high_on : places (disk_name session roles.High) ≡ OnShelf high
  pub recv_on : places (disk_name session roles.Recv) ≡ OnShelf recv

-- every disk that was not empty reads as it did, and one that was is so still, or is a new disk of the row
abbrev pub Readies : Places → Places → SessionRow → Type 0
Readies before after row = (name : DiskName) → (reading_in (after name) ≡ reading_in (before name))
    ⊎ ((name.session ≡ row.id) × (reading_in (before name) ≡ [])
    × (reading_in (after name) ≡ new_bytes row name.role 0))
