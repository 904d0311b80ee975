-- What is read of the files of a session's disks while others may use them. Each is read by itself, at a moment of
-- its own.
use Rattle.std.specs.Prelude.{◌≡◌, false, ℕ, List, [], ◌∷◌, ◌++◌, take, codes, decimal, Option, Some, None}
use Rattle.disk_model.specs.declared.name.Role.{Role}
use Rattle.disk_model.specs.declared.name.Role.TheVariants.{Low, High, Recv}
use Rattle.disk_model.specs.Plain.{Plain}
use Rattle.pump_frame.specs.Counts.{Rose}
use Rattle.pump_frame.specs.declared.row.SessionRow.{SessionRow}
use Rattle.recovery.specs.Refusals.{or_else, told_of, refused_disk, refused_receiver}
use Rattle.recovery.specs.declared.why.Why.{Why}
use Rattle.script_reader.specs.Transcript.{role_field}
use Rattle.stable_buffer.specs.Format.{receiver_size}
use Rattle.command_ends.specs.declared.command_end.CommandEnd.{CommandEnd}
use Rattle.command_ends.specs.declared.command_end.CommandEnd.TheVariants.{Memory, Failed}

-- the name of the file of a disk
abbrev pub file_name : ℕ → Role → List ℕ
file_name session role = decimal session ++ 46 ∷ role_field role

-- the file of a disk, among files by their names
abbrev pub disk_file : (List ℕ → Option (List ℕ)) → ℕ → Role → Option (List ℕ)
disk_file file session role = file (file_name session role)

-- the file is there, and this is what is read of it: its first 16,777,216 bytes, behind which no message may stand
abbrev pub IsReadOf : Option (List ℕ) → List ℕ → Type 0
IsReadOf file read = (bytes : List ℕ) × (file ≡ Some bytes) × (read ≡ take receiver_size bytes)

-- .. or nothing is, since it could not be read
abbrev pub IsReadOrNot : Type 0 → Option (List ℕ) → Option (List ℕ) → Type 0
IsReadOrNot unread file None = unread
IsReadOrNot unread file (Some read) = IsReadOf file read

-- what is read of the three files, of which the receiver's may be elsewhere; `unread` says that a read failed
pub record AreRead (files : Role → Option (List ℕ)) (unread : Type 0) (low high : List ℕ) (recv : Option (List ℕ)) :
    Type 0 where
  pub low_read : IsReadOf (files Low) low
  pub high_read : IsReadOf (files High) high
  pub recv_read : IsReadOrNot unread (files Recv) recv

-- the first cause for which one of them is refused, each by itself: low's disk, high's, the receiver's
abbrev pub refused_recv : SessionRow → Option (List ℕ) → Option (Role × Why)
refused_recv row None = None
refused_recv row (Some recv) = told_of Recv (refused_receiver row receiver_size recv)

abbrev pub refused_each : SessionRow → List ℕ → List ℕ → Option (List ℕ) → Option (Role × Why)
refused_each row low high recv = or_else (told_of Low (refused_disk row Low low))
    (or_else (told_of High (refused_disk row High high)) (refused_recv row recv))

-- ---- private functions ----

-- the disk in memory has these bytes, and its next call does not fail
pub record Holds (bytes : List ℕ) (disk : Plain) : Type 0 where
  pub same : disk.bytes ≡ bytes
  pub calm : disk.armed ≡ false

-- why the file of this disk was not read: memory was wanting, or the read failed, at which the shelf's count rose
abbrev pub IsUnread : Role → ℕ → ℕ → CommandEnd → Type 0
IsUnread role before now Memory = Unit {0}
IsUnread role before now (Failed other) = (other ≡ role) × Rose before now
IsUnread role before now end = ⊥
