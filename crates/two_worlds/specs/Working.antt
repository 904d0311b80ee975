-- What the parts of a pump are between two lines of a script, whatever their disks tell.
use Rattle.std.specs.Prelude.{◌≡◌, ℕ, ◌+◌, ◌^◌, ◌<◌, ◌≤◌, List, length, slice_get, Option, Some, None}
use Rattle.std.specs.List.{All}
use Rattle.disk_model.specs.Disk.{Meaning}
use Rattle.pump_frame.specs.Rows.{IsLawfulRow}
use Rattle.pump_frame.specs.declared.row.SessionRow.{SessionRow}
use Rattle.pump_frame.specs.declared.frame.Item.{Item}
use Rattle.pump_core.specs.History.{History}
use Rattle.pump_core.specs.Sendings.{expected}
use Rattle.high_receiver.specs.Receiving.{recv_count, recv_end, recv_size}
use Rattle.passage.specs.Plain.{held_in}
use Rattle.low_process.specs.Looks as low
use Rattle.high_process.specs.States as high
use Rattle.high_process.specs.Past.{ProcessPast}
use Rattle.script_reader.specs.Highs.{place}
use Rattle.script_reader.specs.declared.line.Line.{Line as ScriptLine}
use Rattle.script_reader.specs.declared.line.Line.TheVariants as lines
use Rattle.two_worlds.specs.declared.pump.parts.Parts.{Parts}
use Rattle.two_worlds.specs.Standing.{LowIsReady, HighIsReady, RecvIsReady, EndsAreReady, KeepsPackets, StandsForSome}

-- the item's message is no longer than the row's messages
abbrev pub IsShort : SessionRow → Item → Type 0
IsShort row item = length item.payload ≤ row.message

abbrev pub IsShortHand : SessionRow → Option Item → Type 0
IsShortHand row None = Unit {0}
IsShortHand row (Some item) = IsShort row item

-- .. and its number is a message's
abbrev pub IsPacket : SessionRow → Item → Type 0
IsPacket row item = IsShort row item × (item.number < 2 ^ 48)

-- no message on its way to the receiver is longer than the row's messages
pub record CarriesShort {D : Type 0} (c : Parts D) : Type 0 where
  pub low_hand : IsShortHand c.row (low.hand_of c.low)
  pub held : All (IsShort c.row) (held_in c.ends)
  pub high_hand : IsShortHand c.row (high.hand_of c.high)
  pub sent : All (IsPacket c.row) c.sent.items

-- the processes are up and have their stores, the receiver is open, the ends of the passage fit them, and
-- no message on its way is too long. What each has been through is its own, and need not be one session's
pub record Works {D : Type 0} (m : Meaning D) (c : Parts D) : Type 0 where
  pub row : IsLawfulRow c.row
  pub history : History
  pub past : ProcessPast
  pub times : List ℕ
  pub low_ready : LowIsReady m c history
  pub high_ready : HighIsReady m c past
  pub recv_ready : RecvIsReady m c
  pub ends : EndsAreReady c times
  pub packets : KeepsPackets c
  pub short : CarriesShort c

-- a message of this length would end past the size of the receiver's disk, whose records end here
abbrev pub IsTooLong : {D : Type 0} → Parts D → ℕ → ℕ → ℕ → Type 0
IsTooLong c end size_of_message size =
    (end ≡ recv_end c.receiver) × (size ≡ recv_size c.receiver) × (size < end + 2 + size_of_message)

-- the packet of this line is refused: a DATA that is ahead of the receiver, or a TAKEN of a message that was not sent
abbrev pub IsAheadBy : {D : Type 0} → Parts D → ScriptLine → Type 0
IsAheadBy c (lines.Carry session back) =
    (packet : Item) × (slice_get c.sent.items (place c.sent.items back) ≡ Some packet)
    × (recv_count c.receiver < packet.number)
IsAheadBy c (lines.Return session m back) =
    (number : ℕ) × (slice_get c.returned.items (place c.returned.items back) ≡ Some number)
    × (expected (high.removed_of c.high) (high.hand_of c.high) ≤ number)
IsAheadBy c line = ⊥

-- the parts can be given a line: they work, and where their disks tell what they hold they stand for what
-- a session has been through
pub record IsAble {D : Type 0} (m : Meaning D) (c : Parts D) : Type 0 where
  pub works : ∥ Works m c ∥₁
  pub stands : m.tells → ∥ StandsForSome m c ∥₁
