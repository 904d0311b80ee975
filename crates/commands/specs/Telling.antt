-- What telling the state of a session writes, by how it ends.
use Rattle.std.specs.Prelude.{◌≡◌, false, ℕ, ◌-◌, List, [], ◌∷◌, Option, Some, None, codes, decimal}
use Rattle.disk_model.specs.declared.name.Role.{Role}
use Rattle.disk_model.specs.declared.name.Role.TheVariants.{Low, High}
use Rattle.disk_model.specs.Plain.{Plain}
use Rattle.pump_frame.specs.declared.row.SessionRow.{SessionRow}
use Rattle.script_reader.specs.Transcript.{line_with_end}
use Rattle.stable_buffer.specs.Register.{value_of}
use Rattle.command_ends.specs.CommandEnds.{end_line}
use Rattle.recovery.specs.Refusals.{or_else, told_of, refused_disk}
use Rattle.recovery.specs.declared.why.Why.{Why}
use Rattle.recovery.specs.declared.why.Why.TheVariants as whys
use Rattle.commands.specs.ReadDisks.{IsReadOf, AreRead, refused_each, refused_recv}
use Rattle.command_ends.specs.Tables.{HasRow, HasNoRow}
use Rattle.command_ends.specs.declared.command_end.CommandEnd.{CommandEnd}
use Rattle.command_ends.specs.declared.command_end.CommandEnd.TheVariants.{Done, Memory, Unread, NoRow, Failed, Refused}

-- a count, or a dash where there is none
abbrev pub count_field : Option ℕ → List ℕ
count_field None = codes "-"
count_field (Some count) = decimal count

-- how many messages are accepted, removed and received, how many lie in the relay, and how many may
abbrev pub status_line : ℕ → ℕ → ℕ → Option ℕ → ℕ → List ℕ
status_line session accepted removed received capacity =
    line_with_end (codes "status" ∷ decimal session ∷ decimal accepted ∷ decimal removed ∷ count_field
    received ∷ decimal (accepted - removed) ∷ decimal capacity ∷ [])

-- the count that a disk's register holds, where the disk was read
abbrev pub count_in : Option (List ℕ) → Option ℕ
count_in None = None
count_in (Some read) = Some (value_of read).0

-- the line of what was read of the three disks
abbrev pub status_of : SessionRow → ℕ → List ℕ → List ℕ → Option (List ℕ) → List ℕ
status_of row session low high recv = status_line session (value_of low).0 (value_of high).0 (count_in recv)
    row.capacity

-- none of them is refused, and this is their line
abbrev pub IsToldLine : SessionRow → ℕ → List ℕ → List ℕ → List ℕ → Option (List ℕ) → Type 0
IsToldLine row session output low high recv = (refused_each row low high recv ≡ None)
    × (output ≡ status_of row session low high recv)

-- the files were read, and this holds of what was read
abbrev pub ReadTo : (Role → Option (List ℕ)) → Type 0 → (List ℕ → List ℕ → Option (List ℕ) → Type 0) → Type 0
ReadTo files unread Holds = (low high : List ℕ) × (recv : Option (List ℕ)) × AreRead files unread low high recv
    × Holds low high recv

-- low's file was not read, or high's, which is read first
abbrev pub IsUnreadFile : (Role → Option (List ℕ)) → Role → Type 0
IsUnreadFile files High = Unit {0}
IsUnreadFile files Low = (high : List ℕ) × IsReadOf (files High) high
IsUnreadFile files role = ⊥

-- What telling the state of a session is to write, by how it ends. `table` is the table's file, `files` are those of
-- the disks, and `unread` says that a read failed.
abbrev pub TellsStatus : Option (List ℕ) → (Role → Option (List ℕ)) → Type 0 → ℕ → CommandEnd → List ℕ → Type 0
TellsStatus table files unread session Done output = (row : SessionRow) × HasRow table session row
    × ReadTo files unread (IsToldLine row session output)
TellsStatus table files unread session Memory output = output ≡ []
TellsStatus table files unread session Unread output = output ≡ end_line session Unread
TellsStatus table files unread session (NoRow why) output = HasNoRow table session why
    × (output ≡ end_line session (NoRow why))
TellsStatus table files unread session (Failed role) output = (row : SessionRow) × HasRow table session row
    × IsUnreadFile files role × (output ≡ end_line session (Failed role))
TellsStatus table files unread session (Refused role why) output =
    (row : SessionRow) × HasRow table session row
    × ReadTo files unread (λ low high recv. refused_each row low high recv ≡ Some (role, why))
    × (output ≡ end_line session (Refused role why))
TellsStatus table files unread session end output = ⊥

-- ---- private functions ----

-- the cause is of one disk alone (0), of low's disk and high's together (1), or of neither (2)
abbrev pub kind : Why → ℕ
kind (whys.Device faults) = 2
kind (whys.NotABuffer size bytes) = 0
kind (whys.WrongShape field found wanted) = 0
kind (whys.BadRegister first second) = 0
kind (whys.Mismatch removed accepted) = 1
kind (whys.BadSlot number size) = 1
kind (whys.Apart count bound) = 2
kind (whys.Differs number) = 2
kind (whys.NotEmpty size) = 2
kind (whys.Small held capacity) = 2
kind (whys.TooLong number size) = 2

-- low's disk and high's are refused for no cause, and have these counts
pub record HasPumpCounts (row : SessionRow) (low high : List ℕ) (accepted removed : ℕ) : Type 0 where
  pub low_fine : refused_disk row Low low ≡ None
  pub high_fine : refused_disk row High high ≡ None
  pub accepted_is : accepted ≡ (value_of low).0
  pub removed_is : removed ≡ (value_of high).0

-- memory was wanting, or one of them is refused
abbrev pub RefusesPump : SessionRow → List ℕ → List ℕ → CommandEnd → Type 0
RefusesPump row low high Memory = Unit {0}
RefusesPump row low high (Refused role why) = or_else (told_of Low (refused_disk row Low low))
    (told_of High (refused_disk row High high)) ≡ Some (role, why)
RefusesPump row low high end = ⊥

-- the receiver's disk, where it was read, is refused
abbrev pub RefusesRecv : SessionRow → Option (List ℕ) → CommandEnd → Type 0
RefusesRecv row recv (Refused role why) = refused_recv row recv ≡ Some (role, why)
RefusesRecv row recv end = ⊥

-- all three have these counts
pub record HasCounts (row : SessionRow) (low high : List ℕ) (recv : Option (List ℕ)) (accepted removed : ℕ)
    (received : Option ℕ) : Type 0 where
  pub fine : refused_each row low high recv ≡ None
  pub accepted_is : accepted ≡ (value_of low).0
  pub removed_is : removed ≡ (value_of high).0
  pub received_is : received ≡ count_in recv

-- memory was wanting, or one of the three is refused
abbrev pub RefusesEach : SessionRow → List ℕ → List ℕ → Option (List ℕ) → CommandEnd → Type 0
RefusesEach row low high recv Memory = Unit {0}
RefusesEach row low high recv (Refused role why) = refused_each row low high recv ≡ Some (role, why)
RefusesEach row low high recv end = ⊥

-- the bytes of a disk in memory, where there is one
abbrev pub bytes_in : Option Plain → Option (List ℕ)
bytes_in None = None
bytes_in (Some disk) = Some disk.bytes

-- no call of it fails
abbrev pub IsCalm : Option Plain → Type 0
IsCalm None = Unit {0}
IsCalm (Some disk) = disk.armed ≡ false

-- memory was wanting, or low's file or high's was not read, at which the shelf's count rose
abbrev pub StopsReading : (Role → Option (List ℕ)) → CommandEnd → Type 0
StopsReading files Memory = Unit {0}
StopsReading files (Failed role) = IsUnreadFile files role
StopsReading files end = ⊥

-- the counts of a session are not told
abbrev pub StopsTelling : (Role → Option (List ℕ)) → Type 0 → SessionRow → CommandEnd → Type 0
StopsTelling files unread row Memory = Unit {0}
StopsTelling files unread row (Failed role) = IsUnreadFile files role
StopsTelling files unread row (Refused role why) = ReadTo files unread (λ low high recv. refused_each row low high recv
    ≡ Some (role, why))
StopsTelling files unread row end = ⊥

-- the counts are those of what was read of a session's files
abbrev pub AreTold : (Role → Option (List ℕ)) → Type 0 → SessionRow → ℕ → ℕ → Option ℕ → Type 0
AreTold files unread row accepted removed received = ReadTo files unread (λ low high recv. HasCounts row low high recv
    accepted removed received)
