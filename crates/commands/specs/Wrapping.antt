-- What sending a file over a session leaves and writes, by how it ends. `before` and `after` say where each disk is.
use Rattle.std.specs.Prelude.{◌≡◌, ◌⊎◌, ℕ, ◌<◌, ◌≤◌, Bool, true, false, List, [], length, Option, Some}
use Rattle.disk_model.specs.declared.name.Role.{Role}
use Rattle.pump_frame.specs.declared.payload.Payload.{Payload}
use Rattle.pump_frame.specs.declared.row.SessionRow.{SessionRow}
use Rattle.pump_wrapper.specs.Comparing.{Begins}
use Rattle.pump_wrapper.specs.Cutting.{Gave}
use Rattle.pump_wrapper.specs.Wrapped.{wrapped}
use Rattle.pump_wrapper.specs.WrapEnds.{BeginFile, EndsAt, IsNotOpened}
use Rattle.pump_wrapper.specs.Wraps.{HoldAll}
use Rattle.pump_wrapper.specs.declared.file_sender.WrapEnd.{WrapEnd}
use Rattle.pump_wrapper.specs.declared.file_sender.WrapEnd.TheVariants as answers
use Rattle.recovery.specs.Calls.{is_device}
use Rattle.recovery.specs.declared.why.Why.TheVariants as whys
use Rattle.script_reader.specs.Openings.{Found, accepted_in}
use Rattle.stable_buffer.specs.Format.{new_bytes}
use Rattle.script_replay.specs.Shelves.{Places, OfDisks, HasFound, IsRefusedFor, LeavesOtherSessions, ReadiesSession}
use Rattle.script_replay.specs.Shelves.{ReadsAlike, reading_at}
use Rattle.two_worlds.specs.declared.applied.Stop.{Stop}
use Rattle.two_worlds.specs.declared.applied.Stop.TheVariants as stops
use Rattle.command_ends.specs.CommandEnds.{NamesFailed, end_line}
use Rattle.commands.specs.LentDisks.{StopsAtShelf}
use Rattle.commands.specs.Showing.{end_at}
use Rattle.command_ends.specs.Tables.{HasRow, StopsAtFile}
use Rattle.command_ends.specs.declared.command_end.CommandEnd.{CommandEnd}
use Rattle.command_ends.specs.declared.command_end.CommandEnd.TheVariants.{Memory, Unread, BadLine, NoRow, Failed}
use Rattle.command_ends.specs.declared.no_row.NoRow.TheVariants.{Short}
use Rattle.command_ends.specs.declared.command_end.CommandEnd.TheVariants.{Refused, Full, Wrapped, FileDiffers}
use Rattle.command_ends.specs.declared.command_end.CommandEnd.TheVariants.{TooLong}

-- ---- ends ----

-- how the command ends where the pump's lines were stopped so
abbrev pub end_of_stop : Stop → CommandEnd
end_of_stop stops.Line = BadLine 0
end_of_stop (stops.Device role faults) = Failed role
end_of_stop (stops.Full end size_of_message size) = Full end size_of_message size
end_of_stop (stops.Disk role why) = Refused role why

-- .. where the sending ended so
abbrev pub end_of_wrap : WrapEnd → CommandEnd
end_of_wrap (answers.Done bytes messages) = Wrapped bytes messages
end_of_wrap answers.Memory = Memory
end_of_wrap answers.Read = Unread
end_of_wrap answers.TooLong = TooLong
end_of_wrap (answers.Differs number) = FileDiffers number
end_of_wrap (answers.Refused role why) = end_at role (Some why)
end_of_wrap (answers.Stopped stop) = end_of_stop stop

-- ---- the disks of the session ----

-- they held a session that had accepted these messages, and hold one now: no message is lost, and where one was added
-- all are the first messages of the file. What the answer says of it holds
pub record HoldsOn (after : Places) (row : SessionRow) (left : Option (List ℕ)) (accepted : List Payload)
    (answer : WrapEnd) : Type 0 where
  pub now : Found
  pub found : HasFound after row now
  pub grows : Begins accepted (accepted_in now)
  pub sent : (accepted_in now ≡ accepted) ⊎ BeginFile row left (accepted_in now)
  pub ends : EndsAt row left accepted now answer

-- The formatting of an empty disk failed: nothing of the file was read, of which these bytes were left before and
-- after; and each of the other two disks reads as it did, or was empty and is new.
pub record FailsAtFormat (before after : Places) (row : SessionRow) (left now_left : Option (List ℕ)) (answer : WrapEnd)
    : Type 0 where
  pub role : Role
  pub faults : ℕ
  pub answer_is : answer ≡ answers.Refused role (whys.Device faults)
  pub empty : reading_at before row.id role ≡ []
  pub unread : now_left ≡ left
  pub others : (other : Role) → (other ≡ role → ⊥) → (reading_at after row.id other ≡ reading_at before row.id other)
      ⊎ ((reading_at before row.id other ≡ []) × (reading_at after row.id other ≡ new_bytes row other 0))

-- the whole file is with the receiver, where its bytes are told
abbrev pub HoldsFile : Places → SessionRow → Option (List ℕ) → WrapEnd → Type 0
HoldsFile after row (Some file) (answers.Done bytes messages) =
    (bytes ≡ length file) × (messages ≡ length (wrapped row.message file))
    × OfDisks after row.id (HoldAll row (wrapped row.message file))
HoldsFile after row left answer = Unit {0}

-- they are refused, and each reads as it did, or is new where it was empty
abbrev pub RefusesSession : Places → Places → SessionRow → WrapEnd → Type 0
RefusesSession before after row (answers.Refused role why) =
    is_device why ≡ false → IsRefusedFor before row role why × ReadiesSession before after row
RefusesSession before after row answer = Unit {0}

-- what a sending that ends with this answer leaves
pub record Leaves (before after : Places) (row : SessionRow) (left now_left : Option (List ℕ)) (answer : WrapEnd) : Type
    0 where
  pub others : LeavesOtherSessions before after row.id
  pub opened : IsNotOpened answer ⊎ ((f : Found) × HasFound before row f)
  pub holds : (f : Found) → HasFound before row f → FailsAtFormat before after row left now_left answer
      ⊎ HoldsOn after row left (accepted_in f) answer
  pub file : HoldsFile after row left answer
  pub refused : RefusesSession before after row answer

-- ---- the command ----

-- over the disks of a row
abbrev pub WrapsOn : Places → Places → SessionRow → Option (List ℕ) → Option (List ℕ) → CommandEnd → Type 0
WrapsOn before after row left now_left end =
    (StopsAtShelf end × ReadsAlike before after)
    ⊎ ((answer : WrapEnd) × (end ≡ end_of_wrap answer) × Leaves before after row left now_left answer)

-- the row's messages are too short for a length
abbrev pub WrapsFrom : Places → Places → SessionRow → Option (List ℕ) → Option (List ℕ) → CommandEnd → Type 0
WrapsFrom before after row left now_left end =
    ((row.message < 9) × (end ≡ NoRow (Short row.id)) × (after ≡ before))
    ⊎ ((9 ≤ row.message) × WrapsOn before after row left now_left end)

-- with the row of the session, if the table has one; `file` is the table's, `faults` and `now_faults` count the
-- failed reads of the shelf's files, and `left` and `now_left` are the bytes to send that the source has before and
-- after
abbrev pub Wraps : ℕ → ℕ → Option (List ℕ) → Places → Places → ℕ → Option (List ℕ) → Option (List ℕ) → CommandEnd
    → Type 0
Wraps faults now_faults file before after session left now_left end =
    (StopsAtFile faults now_faults file session end × (after ≡ before))
    ⊎ ((row : SessionRow) × HasRow file session row × WrapsFrom before after row left now_left end)

-- the file is too long
abbrev pub is_long : CommandEnd → Bool
is_long TooLong = true
is_long end = false

-- .. and it is too long just where the source gave 2^48 bytes; the disk that failed is named, where `fails` says which
-- did; and the line of the end is to be written
abbrev pub WrapsAll : ℕ → ℕ → Option (List ℕ) → Places → Places → (ℕ → Role → Type 0) → ℕ → Option (List ℕ)
    → Option (List ℕ) → CommandEnd → List ℕ → Type 0
WrapsAll faults now_faults file before after fails session left now_left end output =
    Wraps faults now_faults file before after session left now_left end × Gave 0 left now_left (is_long end)
    × NamesFailed fails session end × (output ≡ end_line session end)
