-- What printing the messages of a receiver writes, by how it ends.
use Rattle.std.specs.Prelude.{◌≡◌, ℕ, ◌+◌, nat_lt, if◌then◌else◌, false, List, [], ◌∷◌, ◌++◌, drop, Option, Some, None}
use Rattle.std.specs.Prelude.{codes, decimal}
use Rattle.disk_model.specs.Plain.{Plain, plain_meaning}
use Rattle.disk_model.specs.declared.name.Role.TheVariants.{Recv}
use Rattle.high_receiver.specs.Receiving.{IsRecvReady, recv_disk, recv_row}
use Rattle.high_receiver.specs.declared.receiver.Receiver.{Receiver}
use Rattle.pump_frame.specs.declared.row.SessionRow.{SessionRow}
use Rattle.recovery.specs.Refusals.{refused_receiver}
use Rattle.script_reader.specs.HexFields.{hex_field}
use Rattle.script_reader.specs.Transcript.{line_with_end}
use Rattle.stable_buffer.specs.Format.{receiver_size}
use Rattle.stable_buffer.specs.Log.{RecvStands}
use Rattle.command_ends.specs.CommandEnds.{end_line}
use Rattle.commands.specs.ReadDisks.{IsReadOf}
use Rattle.command_ends.specs.Tables.{HasRow, HasNoRow}
use Rattle.command_ends.specs.declared.command_end.CommandEnd.{CommandEnd}
use Rattle.command_ends.specs.declared.command_end.CommandEnd.TheVariants.{Done, Memory, Unread, NoRow, Failed, Refused}

-- the line of a message: its session, its number and its bytes
abbrev pub message_line : ℕ → ℕ → List ℕ → List ℕ
message_line session number message = line_with_end (codes "message" ∷ decimal session ∷ decimal number ∷ hex_field
    message ∷ [])

-- the lines of these messages, with the numbers from this one on
abbrev pub message_lines : ℕ → ℕ → List (List ℕ) → List ℕ
message_lines session number [] = []
message_lines session number (message ∷ messages) = message_line session number message ++ message_lines session
    (number + 1) messages

-- what was read of the file is a receiver's disk of the row, which stands for these messages
pub record HasLog (row : SessionRow) (file : Option (List ℕ)) (messages : List (List ℕ)) : Type 0 where
  pub read : List ℕ
  pub read_is : IsReadOf file read
  pub fine : refused_receiver row receiver_size read ≡ None
  pub stands : RecvStands row messages read

-- what was read is refused for this cause
abbrev pub RefusesLog : SessionRow → List ℕ → CommandEnd → Type 0
RefusesLog row read (Refused Recv why) = refused_receiver row receiver_size read ≡ Some why
RefusesLog row read end = ⊥

-- What printing the messages of a session from a number on is to write, by how it ends. `table` is the table's file,
-- `file` the receiver's.
abbrev pub PrintsMessages : Option (List ℕ) → Option (List ℕ) → ℕ → ℕ → CommandEnd → List ℕ → Type 0
PrintsMessages table file session from Done output =
    (row : SessionRow) × HasRow table session row × (messages : List (List ℕ)) × HasLog row file messages
    × (output ≡ message_lines session from (drop from messages))
PrintsMessages table file session from Memory output = output ≡ []
PrintsMessages table file session from Unread output = output ≡ end_line session Unread
PrintsMessages table file session from (NoRow why) output = HasNoRow table session why
    × (output ≡ end_line session (NoRow why))
PrintsMessages table file session from (Failed Recv) output = (row : SessionRow) × HasRow table session row
    × (output ≡ end_line session (Failed Recv))
PrintsMessages table file session from (Refused role why) output =
    (row : SessionRow) × HasRow table session row × ((read : List ℕ) × IsReadOf file read
    × RefusesLog row read (Refused role why)) × (output ≡ end_line session (Refused role why))
PrintsMessages table file session from end output = ⊥

-- ---- private functions ----

-- the line of a message that is to be printed
abbrev pub line_from : ℕ → ℕ → ℕ → List ℕ → List ℕ
line_from from session number message = if nat_lt number from then [] else message_line session number message

-- a receiver is open over a disk in memory, no call of which fails
pub record OpensLog (receiver : Receiver Plain) : Type 0 where
  pub ready : IsRecvReady plain_meaning receiver
  pub calm : (recv_disk receiver).armed ≡ false
  pub fine : refused_receiver (recv_row receiver) receiver_size (recv_disk receiver).bytes ≡ None

-- a receiver is not opened: memory was wanting, or its file was not read or is refused
abbrev pub StopsLog : SessionRow → Option (List ℕ) → CommandEnd → Type 0
StopsLog row file Memory = Unit {0}
StopsLog row file (Failed Recv) = Unit {0}
StopsLog row file (Refused role why) = (read : List ℕ) × IsReadOf file read × RefusesLog row read (Refused role why)
StopsLog row file end = ⊥
