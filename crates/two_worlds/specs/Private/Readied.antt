-- The disks of a pump before and after its openings. Only clauses of private functions name this.
use Rattle.std.specs.Prelude.{◌≡◌, ◌+◌, ◌≤◌, ℕ, Bool, true, false, List, length, Result, Ok, Err}
use Rattle.std.specs.List.{All}
use Rattle.disk_model.specs.Disk.{Meaning}
use Rattle.disk_model.specs.declared.name.Role.{Role}
use Rattle.disk_model.specs.declared.name.Role.TheVariants as roles
use Rattle.pump_frame.specs.declared.row.SessionRow.{SessionRow}
use Rattle.stable_buffer.specs.declared.device.Device.{Device}
use Rattle.stable_buffer.specs.Format.{receiver_size}
use Rattle.stable_buffer.specs.Log.{RecvStands}
use Rattle.stable_buffer.specs.Low.{IsLowReady, low_count, low_row, low_disk}
use Rattle.stable_buffer.specs.High.{IsHighReady, high_count, high_disk}
use Rattle.stable_buffer.specs.Stands.{LowStands, HighStands}
use Rattle.high_receiver.specs.Receiving.{IsRecvReady, StandsForSome, recv_disk, recv_count, recv_row, recv_size}
use Rattle.high_receiver.specs.declared.receiver.Receiver.{Receiver}
use Rattle.pump_core.specs.Passage.{new_low, new_high, shape_of_row}
use Rattle.passage.specs.declared.plain.PlainEnds.{PlainEnds}
use Rattle.passage.specs.Plain.{shape_of, StandsFor as EndsStand}
use Rattle.recovery.specs.Agreement.{SlotsAgree}
use Rattle.recovery.specs.Deals.{numbered, passing, InHands, HandsFit}
use Rattle.recovery.specs.declared.pump.Opened.{Opened}
use Rattle.two_worlds.specs.Openings.{disk_back, failed_at}
use Rattle.two_worlds.specs.declared.not_open.NotOpen.{NotOpen}

-- the disk that is handed on
abbrev pub readied_disk : {D : Type 0} → Result D (D × Device) → D
readied_disk (Ok disk) = disk
readied_disk (Err failed) = failed.0

-- the stores of a pump are open over disks with these readings, and its messages are in the hands and
-- the passage
pub record PumpOpens {D : Type 0} (m : Meaning D) (row : SessionRow) (low high : List ℕ) (o : Opened D)
    (ends : PlainEnds) : Type 0 where
  pub ready_low : IsLowReady m o.low
  pub ready_high : IsHighReady m o.high
  pub row_is : low_row o.low ≡ row
  pub counts : (low_count o.low ≡ o.next) × (high_count o.high ≡ o.removed)
  pub messages : List (List ℕ)
  pub stands : m.tells → LowStands row o.next o.removed messages low
  pub removed : m.tells → HighStands row o.removed high
  pub count : o.removed + length messages ≡ o.next
  pub places : o.next ≤ o.removed + row.capacity
  pub short : All (λ message. length message ≤ row.message) messages
  pub hands : InHands row.capacity (numbered o.removed messages) o.high_hand o.low_hand
  pub fit : HandsFit row.capacity o.removed o.next o.high_hand o.low_hand
  pub ends_stand : EndsStand ends (record new_low { forwarded = passing row.capacity (numbered o.removed messages) })
      new_high
  pub shape : shape_of ends ≡ shape_of_row row

-- the receiver is open over a disk with this reading, and its messages are those of low's disk
pub record ReceiverOpens {D : Type 0} (m : Meaning D) (row : SessionRow) (low recv : List ℕ) (removed next : ℕ)
    (r : Receiver D) : Type 0 where
  pub ready : IsRecvReady m r
  pub row_is : recv_row r ≡ row
  pub size : recv_size r ≡ receiver_size
  pub stands : m.tells → StandsForSome row recv
  pub between : (removed ≤ recv_count r) × (recv_count r ≤ next)
  pub agrees : m.tells → (messages : List (List ℕ)) → RecvStands row messages recv
      → SlotsAgree row removed (recv_count r) messages low

-- the disk of a role under what is open
abbrev pub opened_disk : {D : Type 0} → Role → Opened D × Receiver D → D
opened_disk roles.Low s = low_disk s.0.low
opened_disk roles.High s = high_disk s.0.high
opened_disk roles.Recv s = recv_disk s.1

-- .. or that comes back
abbrev pub disk_after : {D : Type 0} → Role → Result (Opened D × Receiver D) (NotOpen D) → D
disk_after role (Ok s) = opened_disk role s
disk_after role (Err e) = disk_back role e

-- a call of this role's disk failed
abbrev pub fails_at : {D : Type 0} → Role → Result (Opened D × Receiver D) (NotOpen D) → Bool
fails_at role (Ok s) = false
fails_at role (Err e) = failed_at role e

-- whose disk a comparison blames: low's where its store is open no longer
abbrev pub role_blamed : Bool → Role
role_blamed true = roles.Recv
role_blamed false = roles.Low
