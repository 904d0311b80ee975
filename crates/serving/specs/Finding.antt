-- What a session finds at its opening.
use Rattle.std.specs.Prelude.{◌≡◌, ℕ, ◌+◌, ◌≤◌, ◌==◌, List, length, Option, is_some}
use Rattle.std.specs.List.{All}
use Rattle.disk_model.specs.Disk.{Meaning}
use Rattle.pump_frame.specs.declared.frame.Item.{Item}
use Rattle.pump_frame.specs.declared.row.SessionRow.{SessionRow}
use Rattle.pump_core.specs.History.{Opening}
use Rattle.stable_buffer.specs.Stands.{LowStands, HighStands}
use Rattle.low_process.specs.Looks.{opening_of}
use Rattle.high_process.specs.Past.{ProcessPast, fresh}
use Rattle.recovery.specs.Deals.{InHands, numbered, passing}

-- how many messages are stored, how many of them are removed, the ones that are not, and what is in the hands
pub record AtOpening : Type 0 where
  pub count : ℕ
  pub removed : ℕ
  pub messages : List (List ℕ)
  pub high_hand : Option Item
  pub low_hand : Option Item

-- the two disks stand for this, and the messages are dealt out: the first to the high hand, and where all slots are
-- taken, and only there, the last to the low hand
pub record FindsBoth {S : Type 0} (m : Meaning S) (row : SessionRow) (o : AtOpening) (low high : S) : Type 0 where
  pub low_stands : m.tells → LowStands row o.count o.removed o.messages (m.reading low)
  pub high_stands : m.tells → HighStands row o.removed (m.reading high)
  pub count : o.removed + length o.messages ≡ o.count
  pub places : o.count ≤ o.removed + row.capacity
  pub short : All (λ message. length message ≤ row.message) o.messages
  pub held : is_some o.low_hand ≡ (o.count == o.removed + row.capacity)
  pub hands : InHands row.capacity (numbered o.removed o.messages) o.high_hand o.low_hand

-- how each process begins
abbrev pub low_opening : AtOpening → Opening
low_opening o = opening_of o.count o.low_hand

abbrev pub high_opening : AtOpening → ProcessPast
high_opening o = fresh o.removed o.high_hand

-- the messages between the hands, which are in the passage then
abbrev pub between_hands : SessionRow → AtOpening → List Item
between_hands row o = passing row.capacity (numbered o.removed o.messages)
