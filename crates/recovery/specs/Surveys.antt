-- What a survey of the disks that are to be moved gives. Only clauses of private functions name these.
use Rattle.std.specs.Prelude.{◌≡◌, ℕ, ◌+◌, ◌^◌, ◌≤◌, false, List, length}
use Rattle.pump_frame.specs.declared.row.SessionRow.{SessionRow}
use Rattle.disk_model.specs.Disk.{Meaning}
use Rattle.stable_buffer.specs.Register.{value_of}
use Rattle.stable_buffer.specs.Low.{IsLowReady, low_count, low_row, low_disk}
use Rattle.stable_buffer.specs.High.{high_count, high_disk}
use Rattle.stable_buffer.specs.Stands.{LowStands, HighStands}
use Rattle.stable_buffer.specs.Log.{RecvStands}
use Rattle.stable_buffer.specs.declared.low.LowStore.{LowStore}
use Rattle.high_receiver.specs.Receiving.{recv_disk, recv_row, recv_count, recv_end}
use Rattle.high_receiver.specs.declared.receiver.Receiver.{Receiver}
use Rattle.recovery.specs.Agreement.{SlotsAgree}
use Rattle.recovery.specs.Deals.{InSlots}
use Rattle.recovery.specs.Moves.{AreFound, IsKept}
use Rattle.recovery.specs.declared.pump.Pair.{Pair}
use Rattle.recovery.specs.declared.survey.Counts.{Counts}
use Rattle.recovery.specs.declared.trio.Trio.{Trio}

-- messages from number b to before E stand in their slots
abbrev pub SlotsTell : SessionRow → ℕ → ℕ → List ℕ → Type 0
SlotsTell row b E disk = (messages : List (List ℕ)) × (b + length messages ≡ E) × InSlots row b messages disk

-- two stores whose messages were read, over the two disks as they were
pub record AreRead {D : Type 0} (m : Meaning D) (session : SessionRow) (low high : D) (pair : Pair D) : Type 0 where
  pub ready : IsLowReady m pair.low
  pub row : low_row pair.low ≡ session
  pub between : (high_count pair.high ≤ low_count pair.low)
      × (low_count pair.low ≤ high_count pair.high + session.capacity)
  pub low_stands : m.tells → (live : List (List ℕ))
      × LowStands session (low_count pair.low) (high_count pair.high) live (m.reading low)
  pub high_stands : m.tells → HighStands session (high_count pair.high) (m.reading high)
  pub low_kept : IsKept m low (low_disk pair.low) false
  pub high_kept : IsKept m high (high_disk pair.high) false

-- the counts of two stores whose disks agree
pub record FitsSurvey {D : Type 0} (m : Meaning D) (removed : ℕ) (low : LowStore D) (receiver : Receiver D)
    (counts : Counts) : Type 0 where
  pub accepted : counts.accepted ≡ low_count low
  pub removed_is : counts.removed ≡ removed
  pub received : counts.received ≡ recv_count receiver
  pub end : counts.end ≡ recv_end receiver
  pub order : (removed ≤ recv_count receiver) × (recv_count receiver ≤ low_count low)
  pub agree : m.tells → (messages : List (List ℕ))
      → RecvStands (recv_row receiver) messages (m.reading (recv_disk receiver))
      → SlotsAgree (low_row low) removed (recv_count receiver) messages (m.reading (low_disk low))

-- Three disks stand for these counts, and nothing is refused of them.
pub record IsSurveyed {D : Type 0} (m : Meaning D) (row : SessionRow) (size : ℕ) (counts : Counts) (disks : Trio D) :
    Type 0 where
  pub found : m.tells → (live received : List (List ℕ)) × (length received ≡ counts.received)
      × ((value_of (m.reading disks.recv)).1 ≡ counts.end)
      × AreFound row size counts.accepted counts.removed live received (m.reading disks.low) (m.reading disks.high)
      (m.reading disks.recv)
  pub count : counts.accepted ≤ 2 ^ 48
  pub held : (counts.removed ≤ counts.accepted) × (counts.accepted ≤ counts.removed + row.capacity)
  pub order : (counts.removed ≤ counts.received) × (counts.received ≤ counts.accepted)
  pub from : 80 ≤ counts.end
  pub room : counts.end ≤ size
