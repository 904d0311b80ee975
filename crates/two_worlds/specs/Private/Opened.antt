-- Parts that have just been opened. Only clauses of private functions name this.
use Rattle.std.specs.Prelude.{◌≡◌, ◌+◌, ◌≤◌, false, List, length}
use Rattle.std.specs.List.{All}
use Rattle.disk_model.specs.Disk.{Meaning}
use Rattle.pump_frame.specs.Rows.{IsLawfulRow}
use Rattle.pump_frame.specs.declared.payload.Payload.{Payload}
use Rattle.stable_buffer.specs.Low.{IsLowReady, low_disk, low_count, low_row}
use Rattle.stable_buffer.specs.High.{IsHighReady, high_count}
use Rattle.stable_buffer.specs.Stands.{LowStands}
use Rattle.high_receiver.specs.Receiving.{IsRecvReady, recv_row, recv_size}
use Rattle.pump_core.specs.History.{History, Opening}
use Rattle.pump_core.specs.Passage.{new_low, new_high, shape_of_row}
use Rattle.passage.specs.Plain.{shape_of, StandsFor as EndsStand}
use Rattle.low_process.specs.Looks as low
use Rattle.high_process.specs.States as high
use Rattle.high_process.specs.Past as high_past
use Rattle.high_process.specs.Looks.{StandsFor as HighStandsFor}
use Rattle.recovery.specs.Deals.{numbered, passing, InHands}
use Rattle.script_reader.specs.Highs.{receiver_size}
use Rattle.two_worlds.specs.declared.pump.parts.Parts.{Parts}
use Rattle.two_worlds.specs.Connections.{unused}
use Rattle.two_worlds.specs.Standing.{KeepsPackets}

-- The parts have just been opened, and this is what was found. An opening of the low side leads to this
-- history
pub record AreOpened {D : Type 0} (m : Meaning D) (c : Parts D) (lives : Opening → History) : Type 0 where
  pub row : IsLawfulRow c.row
  pub connection : c.connection ≡ unused
  -- the stores and the receiver
  pub low_ready : IsLowReady m c.low_store
  pub store_row : low_row c.low_store ≡ c.row
  pub high_ready : IsHighReady m c.high_store
  pub recv_ready : IsRecvReady m c.receiver
  pub recv_row_is : recv_row c.receiver ≡ c.row
  pub recv_size_is : recv_size c.receiver ≡ receiver_size
  -- the messages of the low disk
  pub messages : List Payload
  pub stands : m.tells → LowStands c.row (low_count c.low_store) (high_count c.high_store) messages
      (m.reading (low_disk c.low_store))
  pub count : high_count c.high_store + length messages ≡ low_count c.low_store
  pub places : low_count c.low_store ≤ high_count c.high_store + c.row.capacity
  pub short : All (λ message. length message ≤ c.row.message) messages
  pub hands : InHands c.row.capacity (numbered (high_count c.high_store) messages) (high.hand_of c.high)
      (low.hand_of c.low)
  pub ends : EndsStand c.ends (record new_low {
    forwarded = passing c.row.capacity (numbered (high_count c.high_store)
        messages);
  }) new_high
  pub shape : shape_of c.ends ≡ shape_of_row c.row
  -- the processes
  pub history : low.StandsFor c.low (lives (low.opening_of (low_count c.low_store) (low.hand_of c.low)))
  pub low_between : low.IsBetweenLooks c.low
  pub low_row_is : low.row_of c.low ≡ c.row
  pub next : low.next_of c.low ≡ low_count c.low_store
  pub low_last : low.last_of c.low ≡ 0
  pub low_up : low.is_down c.low ≡ false
  pub past : HighStandsFor c.high (high_past.fresh (high_count c.high_store) (high.hand_of c.high))
  pub high_between : high.IsBetweenLooks c.high
  pub high_row : high.row_of c.high ≡ c.row
  pub removed : high.removed_of c.high ≡ high_count c.high_store
  pub published : high.published_of c.high ≡ 0
  pub high_last : high.last_of c.high ≡ 0
  pub high_up : high.is_down c.high ≡ false
  pub packets : KeepsPackets c
