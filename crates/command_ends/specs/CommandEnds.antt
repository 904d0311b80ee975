-- How a command over a session of the table ends, and what it writes then.
use Rattle.std.specs.Prelude.{◌≡◌, ◌⊎◌, ℕ, ◌≤◌, List, [], ◌∷◌, Option, codes, decimal}
use Rattle.std.specs.Io.KnownBytes.{Appends}
use Rattle.disk_model.specs.declared.name.Role.{Role}
use Rattle.pump_frame.specs.Counts.{Rose}
use Rattle.pump_link.specs.Causes.{AppendsPrefix}
use Rattle.recovery.specs.Faults.{why_number, why_values}
use Rattle.script_reader.specs.Transcript.{fault_line, line_with_end}
use Rattle.script_reader.specs.declared.fault.Fault.TheVariants as faults
use Rattle.command_ends.specs.NoRows.{table_line}
use Rattle.command_ends.specs.declared.command_end.CommandEnd.{CommandEnd}
use Rattle.command_ends.specs.declared.command_end.CommandEnd.TheVariants.{Done, Memory, Unread, BadLine, NoRow, Failed}
use Rattle.command_ends.specs.declared.command_end.CommandEnd.TheVariants.{Refused, Unconnected, Ahead, Full, Denied}
use Rattle.command_ends.specs.declared.command_end.CommandEnd.TheVariants.{Unfinished, Unwritten, Wrapped, FileDiffers}
use Rattle.command_ends.specs.declared.command_end.CommandEnd.TheVariants.{TooLong, NotWrapped, PartOfFile, Folder}
use Rattle.command_ends.specs.declared.command_end.CommandEnd.TheVariants.{NameTaken, Marks, Register, Step}

-- ---- the status and the line ----

abbrev pub end_status : CommandEnd → ℕ
end_status Done = 0
end_status Memory = 1
end_status Unread = 3
end_status Unwritten = 4
end_status (BadLine line) = 5
end_status (NoRow why) = 6
end_status (Failed role) = 7
end_status (Refused role why) = 8
end_status Unconnected = 9
end_status (Ahead number count) = 10
end_status (Full end length size) = 10
end_status (Denied code number) = 11
end_status (Unfinished number) = 12
end_status (Wrapped bytes messages) = 0
end_status (FileDiffers number) = 13
end_status TooLong = 14
end_status (NotWrapped number) = 13
end_status PartOfFile = 14
end_status Folder = 7
end_status (NameTaken number) = 7
end_status Marks = 8
end_status Register = 8
end_status (Step start accepted) = 13

-- the line that is written, if there is one; `unwrap` writes none
abbrev pub end_line : ℕ → CommandEnd → List ℕ
end_line session Done = []
end_line session Memory = []
end_line session Unread = fault_line faults.Read
end_line session Unwritten = []
end_line session (BadLine line) = fault_line (faults.Script line)
end_line session (NoRow why) = table_line why
end_line session (Failed role) = fault_line (faults.Device session role)
end_line session (Refused role why) = fault_line (faults.Disk session role (why_number why) (why_values why).0
    (why_values why).1)
end_line session Unconnected = line_with_end (codes "fault" ∷ codes "link" ∷ [])
end_line session (Ahead number count) = line_with_end (codes "fault" ∷ codes "ahead" ∷ decimal session ∷ decimal
    number ∷ decimal count ∷ [])
end_line session (Full end length size) = fault_line (faults.Full session end length size)
end_line session (Denied code number) = line_with_end (codes "fault" ∷ codes "refused" ∷ decimal code ∷ decimal
    number ∷ [])
end_line session (Unfinished number) = line_with_end (codes "fault" ∷ codes "unfinished" ∷ decimal number ∷ [])
end_line session (Wrapped bytes messages) = line_with_end (codes "wrapped" ∷ decimal session ∷ decimal bytes ∷ decimal
    messages ∷ [])
end_line session (FileDiffers number) = line_with_end (codes "fault" ∷ codes "wrapped" ∷ decimal session ∷ decimal
    number ∷ [])
end_line session TooLong = line_with_end (codes "fault" ∷ codes "long" ∷ [])
end_line session (NotWrapped number) = []
end_line session PartOfFile = []
end_line session Folder = line_with_end (codes "fault" ∷ codes "folder" ∷ decimal session ∷ [])
end_line session (NameTaken number) = line_with_end (codes "fault" ∷ codes "name" ∷ decimal session ∷ decimal
    number ∷ [])
end_line session Marks = line_with_end (codes "fault" ∷ codes "marks" ∷ decimal session ∷ [])
end_line session Register = line_with_end (codes "fault" ∷ codes "register" ∷ decimal session ∷ [])
end_line session (Step start accepted) = line_with_end (codes "fault" ∷ codes "step" ∷ decimal session ∷ decimal
    start ∷ decimal accepted ∷ [])

-- ---- which ends a command can have ----

-- one over the disks of a session, or over their files
abbrev pub IsSessionEnd : CommandEnd → Type 0
IsSessionEnd Done = Unit {0}
IsSessionEnd Memory = Unit {0}
IsSessionEnd Unread = Unit {0}
IsSessionEnd Unwritten = Unit {0}
IsSessionEnd (NoRow why) = Unit {0}
IsSessionEnd (Failed role) = Unit {0}
IsSessionEnd (Refused role why) = Unit {0}
IsSessionEnd end = ⊥

-- .. one that writes the receiver's messages as a file
abbrev pub IsUnwrapEnd : CommandEnd → Type 0
IsUnwrapEnd (NotWrapped number) = Unit {0}
IsUnwrapEnd PartOfFile = Unit {0}
IsUnwrapEnd end = IsSessionEnd end

-- .. one that sends a file over the disks
abbrev pub IsWrapEnd : CommandEnd → Type 0
IsWrapEnd Done = ⊥
IsWrapEnd (Wrapped bytes messages) = Unit {0}
IsWrapEnd (FileDiffers number) = Unit {0}
IsWrapEnd TooLong = Unit {0}
IsWrapEnd (BadLine line) = Unit {0}
IsWrapEnd (Full end length size) = Unit {0}
IsWrapEnd end = IsSessionEnd end

-- ---- what a command wrote ----

-- the disk that this end names failed, where `fails` says which did
abbrev pub NamesFailed : (ℕ → Role → Type 0) → ℕ → CommandEnd → Type 0
NamesFailed fails session (Failed role) = fails session role
NamesFailed fails session end = Unit {0}

-- it ends so, and what it is to write then was written; or a prefix of that was
abbrev pub EndsSo : (CommandEnd → List ℕ → Type 0) → Option (List ℕ) → Option (List ℕ) → CommandEnd → Type 0
EndsSo Writes old new Unwritten = (end : CommandEnd) × (output : List ℕ) × Writes end output
    × AppendsPrefix old new output
EndsSo Writes old new end = (output : List ℕ) × Writes end output × Appends old new output

-- .. with this status
abbrev pub EndsWithStatus : (CommandEnd → List ℕ → Type 0) → Option (List ℕ) → Option (List ℕ) → ℕ → Type 0
EndsWithStatus Writes old new status = (end : CommandEnd) × (end_status end ≡ status) × EndsSo Writes old new end

-- these bytes were written and the end is this one, or a prefix of them was and the sink's count rose
abbrev pub ClosesSo : Option (List ℕ) → Option (List ℕ) → ℕ → ℕ → List ℕ → CommandEnd → CommandEnd → Type 0
ClosesSo old new before now bytes end result =
    ((result ≡ end) × Appends old new bytes) ⊎ ((result ≡ Unwritten) × AppendsPrefix old new bytes × Rose before now)

-- the line of this end was written, or a prefix of it
abbrev pub Closes : Option (List ℕ) → Option (List ℕ) → ℕ → CommandEnd → ℕ → Type 0
Closes mid new session end status =
    ((status ≡ end_status end) × Appends mid new (end_line session end))
    ⊎ ((status ≡ 4) × AppendsPrefix mid new (end_line session end))

-- A call came to an end when `mid` was written and the sink had failed so often; then it wrote the end's line.
pub record EndsLive (Comes : CommandEnd → Option (List ℕ) → ℕ → Type 0) (new : Option (List ℕ))
    (now_faults session status : ℕ) : Type 0 where
  pub end : CommandEnd
  pub mid : Option (List ℕ)
  pub mid_faults : ℕ
  pub comes : Comes end mid mid_faults
  pub last : Closes mid new session end status
  pub later : mid_faults ≤ now_faults

-- what is written where the words are no command: with status 2 the fault, with status 4 a prefix of it, and nothing
-- else
abbrev pub TellsWords : Option (List ℕ) → Option (List ℕ) → ℕ → Type 0
TellsWords old new status =
    ((status ≡ 2) × Appends old new (fault_line faults.Words))
    ⊎ ((status ≡ 4) × AppendsPrefix old new (fault_line faults.Words))

-- then the fault is written, or a prefix of it; or nothing, where memory was wanting
abbrev pub RefusesWords : Option (List ℕ) → Option (List ℕ) → ℕ → Type 0
RefusesWords old new status = TellsWords old new status ⊎ ((status ≡ 1) × Appends old new [])
