-- Disks of a session that a command takes off the shelf and puts back.
use Rattle.std.specs.Prelude.{◌≡◌, ◌⊎◌, ℕ, List, Some}
use Rattle.disk_model.specs.Disk.{Meaning}
use Rattle.disk_model.specs.Shelf.{Holdings}
use Rattle.disk_model.specs.declared.name.DiskName.{DiskName}
use Rattle.disk_model.specs.declared.name.Role.{Role}
use Rattle.disk_model.specs.declared.name.Role.TheVariants as roles
use Rattle.pump_frame.specs.Counts.{Rose}
use Rattle.pump_frame.specs.declared.row.SessionRow.{SessionRow}
use Rattle.recovery.specs.Refusals.{refused_receiver}
use Rattle.script_replay.specs.Failing.{CameBackFailed}
use Rattle.script_replay.specs.Shelves.{Places, disk_name}
use Rattle.stable_buffer.specs.Format.{receiver_size}
use Rattle.command_ends.specs.declared.command_end.CommandEnd.{CommandEnd}
use Rattle.command_ends.specs.declared.command_end.CommandEnd.TheVariants.{Memory, Failed, Refused}

-- every disk but the one of this name is where it was
abbrev pub LeavesOtherDisks : Places → Places → DiskName → Type 0
LeavesOtherDisks before after name = (other : DiskName) → (other ≡ name → ⊥) → after other ≡ before other

-- .. but those of these two sessions
abbrev pub LeavesOtherPair : Places → Places → ℕ → ℕ → Type 0
LeavesOtherPair before after one two = (other : DiskName) → (other.session ≡ one → ⊥) → (other.session ≡ two → ⊥)
    → after other ≡ before other

-- .. but the low disk and the high one of this session
abbrev pub LeavesBut : Places → Places → ℕ → Type 0
LeavesBut before after session = (other : DiskName) → (other ≡ disk_name session roles.Low → ⊥)
    → (other ≡ disk_name session roles.High → ⊥) → after other ≡ before other

-- a disk could not be taken off the shelf
abbrev pub StopsAtShelf : CommandEnd → Type 0
StopsAtShelf Memory = Unit {0}
StopsAtShelf (Failed role) = Unit {0}
StopsAtShelf end = ⊥

-- the receiver's disk, which reads this, could not be taken, or not be opened
abbrev pub StopsAtDisk : List ℕ → SessionRow → CommandEnd → Type 0
StopsAtDisk found row Memory = Unit {0}
StopsAtDisk found row (Failed roles.Recv) = Unit {0}
StopsAtDisk found row (Refused roles.Recv why) = refused_receiver row receiver_size found ≡ Some why
StopsAtDisk found row end = ⊥

-- The disk was the first that was asked for, and it was not given, at which the shelf's count rose: all disks were
-- where they were at first
pub record IsNotGivenFirst {S : Type 0} (m : Holdings S) (first : Places) : Type 0 where
  pub asked : S
  pub answered : S
  pub there : m.disk asked ≡ first
  pub still : m.disk answered ≡ m.disk asked
  pub rose : Rose (m.disk_faults asked) (m.disk_faults answered)

-- between these two states of the shelf the receiver's disk failed, which is taken alone, and the shelf's count rose
abbrev pub RecvFailsAt : {S D : Type 0} → Holdings S → Meaning D → S → S → ℕ → Role → Type 0
RecvFailsAt m d old new session role =
    (role ≡ roles.Recv) × Rose (m.disk_faults old) (m.disk_faults new) × (IsNotGivenFirst m (m.disk old)
    ⊎ CameBackFailed m d (m.disk new) session roles.Recv)
