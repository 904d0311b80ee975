-- What a comparison of low's disk with the receiver's tells, and what it leaves of the two stores.
use Rattle.std.specs.Prelude.{◌≡◌, ◌⊎◌, ℕ, List, [], Bool, true, false, not, slice_index_or}
use Rattle.disk_model.specs.Disk.{Meaning, Moves, Same}
use Rattle.stable_buffer.specs.Low.{IsLowReady, low_disk, low_row, low_count, low_is_open}
use Rattle.stable_buffer.specs.Stands.{InSlot}
use Rattle.stable_buffer.specs.Log.{RecvStands}
use Rattle.stable_buffer.specs.declared.low.LowStore.{LowStore}
use Rattle.high_receiver.specs.Receiving.{IsRecvReady, recv_disk, recv_row, recv_size, recv_count, recv_end}
use Rattle.high_receiver.specs.Receiving.{recv_is_open}
use Rattle.high_receiver.specs.declared.receiver.Receiver.{Receiver}
use Rattle.recovery.specs.Calls.{Calls, CallsReceiver, is_device}
use Rattle.recovery.specs.declared.why.Why.{Why}
use Rattle.recovery.specs.declared.why.Why.TheVariants.{Device}

-- what reading leaves of low's store: its counts, its row and its bytes; it is ready as long as it is open
pub record LeavesLow {D : Type 0} (m : Meaning D) (old new : LowStore D) : Type 0 where
  pub ready : low_is_open new ≡ true → IsLowReady m new
  pub count : low_count new ≡ low_count old
  pub row : low_row new ≡ low_row old
  pub moves : Moves m Same (low_disk old) (low_disk new)

-- .. and of the receiver
pub record LeavesReceiver {D : Type 0} (m : Meaning D) (old new : Receiver D) : Type 0 where
  pub ready : recv_is_open new ≡ true → IsRecvReady m new
  pub count : recv_count new ≡ recv_count old
  pub end : recv_end new ≡ recv_end old
  pub row : recv_row new ≡ recv_row old
  pub size : recv_size new ≡ recv_size old
  pub moves : Moves m Same (recv_disk old) (recv_disk new)

-- An error, told of the two stores as they are left: a device's is that of the one that is no longer open, and any
-- other leaves both open.
pub record TellsShut {D : Type 0} (m : Meaning D) (low : LowStore D) (receiver : Receiver D) (why : Why) : Type 0 where
  pub low_faults : is_device why ≡ true → low_is_open low ≡ false → why ≡ Device (m.count (low_disk low))
  pub receiver_faults : is_device why ≡ true → recv_is_open receiver ≡ false
      → why ≡ Device (m.count (recv_disk receiver))
  pub shut : is_device why ≡ true → (low_is_open low ≡ false) ⊎ (recv_is_open receiver ≡ false)
  pub one : low_is_open low ≡ false → recv_is_open receiver ≡ true
  pub both : is_device why ≡ false → (low_is_open low ≡ true) × (recv_is_open receiver ≡ true)

-- which disk was called where the messages from this number on are compared, and whether that failed
pub record CallsBoth {D : Type 0} (m : Meaning D) (n : ℕ) (low new_low : LowStore D) (receiver new_receiver
    : Receiver D) : Type 0 where
  pub low_called : Calls m (low_disk low) (low_disk new_low) (not (low_is_open new_low))
  pub receiver_called : CallsReceiver m (low_row low) n (low_disk low) receiver new_receiver

-- whether message n is the same on both disks
pub record TellsSame {D : Type 0} (m : Meaning D) (low : LowStore D) (n : ℕ) (receiver : Receiver D) (is_same : Bool)
    : Type 0 where
  pub same : is_same ≡ true → m.tells → (messages : List (List ℕ))
      → RecvStands (recv_row receiver) messages (m.reading (recv_disk receiver))
      → InSlot (low_row low) n (slice_index_or messages n []) (m.reading (low_disk low))
  pub other : is_same ≡ false → m.tells → (messages : List (List ℕ))
      → RecvStands (recv_row receiver) messages (m.reading (recv_disk receiver))
      → InSlot (low_row low) n (slice_index_or messages n []) (m.reading (low_disk low)) → ⊥
