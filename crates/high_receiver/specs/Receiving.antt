-- An open receiver, and what it does with a message.
use Rattle.std.specs.Prelude.{◌≡◌, ◌⊎◌, ℕ, ◌+◌, ◌^◌, ◌≤◌, Bool, true, false, nat_lt, if◌then◌else◌, List, length, take}
use Rattle.std.specs.Prelude.{sum_by, Option, None, Some, Result, Ok, Err, IsOk, OnOk, OnErr, IfErr}
use Rattle.pump_frame.specs.Rows.{IsLawfulRow}
use Rattle.pump_frame.specs.declared.row.SessionRow.{SessionRow}
use Rattle.disk_model.specs.Disk.{Meaning, Moves, Same, Settled, Leaves, Answers}
use Rattle.stable_buffer.specs.Register.{IsReady}
use Rattle.stable_buffer.specs.Log.{RecvStands}
use Rattle.high_receiver.specs.Steps.{MayTake, TakesMessage, StandsOrTakes}
use Rattle.high_receiver.specs.declared.receiver.Receiver.{Receiver}
use Rattle.high_receiver.specs.declared.values.Taken.{Taken}
use Rattle.high_receiver.specs.declared.values.Taken.TheVariants.{Took, Repeat}
use Rattle.high_receiver.specs.declared.values.TakeFault.{TakeFault}
use Rattle.high_receiver.specs.declared.values.TakeFault.TheVariants.{Device, Ahead, LogFull}

-- the disk under a receiver
abbrev pub recv_disk : {D : Type 0} → Receiver D → D
recv_disk receiver = receiver.register.disk

-- how many messages are taken
abbrev pub recv_count : {D : Type 0} → Receiver D → ℕ
recv_count receiver = receiver.register.first

-- where their records end
abbrev pub recv_end : {D : Type 0} → Receiver D → ℕ
recv_end receiver = receiver.register.second

-- the row that the receiver was made for
abbrev pub recv_row : {D : Type 0} → Receiver D → SessionRow
recv_row receiver = receiver.row

-- how many bytes its disk may fill
abbrev pub recv_size : {D : Type 0} → Receiver D → ℕ
recv_size receiver = receiver.size

-- the receiver, with its row made coarse
abbrev pub recv_made_coarse : {D : Type 0} → Receiver D → Receiver D
recv_made_coarse receiver = record receiver { row = record receiver.row { coarse = true } }

-- no call of the receiver has failed
abbrev pub recv_is_open : {D : Type 0} → Receiver D → Bool
recv_is_open receiver = receiver.is_open

-- a disk stands for some messages
abbrev pub StandsForSome : SessionRow → List ℕ → Type 0
StandsForSome row disk = (messages : List (List ℕ)) × RecvStands row messages disk

-- the receiver is open and knows its count and end, and a crash leaves what a read gives
pub record IsRecvReady {D : Type 0} (m : Meaning D) (receiver : Receiver D) : Type 0 where
  pub is_open : receiver.is_open ≡ true
  pub ready : IsReady m receiver.register
  pub lawful : IsLawfulRow receiver.row
  pub short : receiver.row.message ≤ 1024
  pub count : receiver.register.first ≤ 2 ^ 48
  pub from : 80 ≤ receiver.register.second
  pub within : receiver.register.second ≤ receiver.size
  pub settled : Settled m receiver.register.disk
  pub stands : m.tells → StandsForSome receiver.row (m.reading receiver.register.disk)

-- where record n of these messages stands: each is two bytes longer than its message
abbrev pub record_at : List (List ℕ) → ℕ → ℕ
record_at messages n = 80 + sum_by (λ message. 2 + length message) (take n messages)

-- an offset is that of record n, as the disk stands for its messages, and is not past the end
pub record IsRecordAt {D : Type 0} (m : Meaning D) (receiver : Receiver D) (n at : ℕ) : Type 0 where
  pub within : at ≤ receiver.register.second
  pub place : m.tells → (messages : List (List ℕ)) → RecvStands receiver.row messages (m.reading receiver.register.disk)
      → at ≡ record_at messages n

-- what reading leaves of a receiver: its count, its end, its row, its size and its bytes
pub record KeepsLog {D : Type 0} (m : Meaning D) (old new : Receiver D) : Type 0 where
  pub count : recv_count new ≡ recv_count old
  pub end : recv_end new ≡ recv_end old
  pub row : recv_row new ≡ recv_row old
  pub size : recv_size new ≡ recv_size old
  pub moves : Moves m Same (recv_disk old) (recv_disk new)

-- A payload is as it was, or after a good call holds no more than a message may.
abbrev pub MayFill : {T E : Type 0} → ℕ → List ℕ → List ℕ → Result T E → Type 0
MayFill most old new result = (new ≡ old) ⊎ (IsOk result × (length new ≤ most))

-- What is answered to a message of this number and length where nothing is to be stored: it is a repeat, or ahead, or
-- ends past the size.
abbrev pub answer_at_once : ℕ → ℕ → ℕ → ℕ → ℕ → Option (Result Taken TakeFault)
answer_at_once count end size number length =
    if nat_lt number count then Some (Ok Repeat)
    else if nat_lt count number then Some (Err (Ahead number count))
    else if nat_lt size (end + 2 + length) then Some (Err (LogFull end length size))
    else None

-- the answer is that the disk failed
abbrev pub is_device : Result Taken TakeFault → Bool
is_device (Ok taken) = false
is_device (Err (Device faults)) = true
is_device (Err (Ahead number count)) = false
is_device (Err (LogFull end length size)) = false

-- the message stands behind the others, and the register has turned to it
pub record HasWritten {D : Type 0} (m : Meaning D) (message : List ℕ) (old new : Receiver D) : Type 0 where
  pub ready : IsReady m new.register
  pub settled : Settled m (recv_disk new)
  pub count : recv_count new ≡ recv_count old + 1
  pub end : recv_end new ≡ recv_end old + 2 + length message
  pub taken : m.tells → TakesMessage (recv_row old) message (m.reading (recv_disk old)) (m.reading (recv_disk new))

-- A message is stored, or its device fails. A crash at any moment leaves the messages from before, with this one or
-- without.
pub record Stores {D : Type 0} (m : Meaning D) (message : List ℕ) (old new : Receiver D)
    (result : Result Taken TakeFault) : Type 0 where
  pub took : OnOk result (result ≡ Ok Took)
  pub ready : OnOk result (IsRecvReady m new)
  pub count : OnOk result (recv_count new ≡ recv_count old + 1)
  pub end : OnOk result (recv_end new ≡ recv_end old + 2 + length message)
  pub moves : Moves m (MayTake (recv_row old) message) (recv_disk old) (recv_disk new)
  pub during : (messages : List (List ℕ)) → RecvStands (recv_row old) messages (m.reading (recv_disk old))
      → Leaves m (recv_disk old) (recv_disk new) (StandsOrTakes (recv_row old) messages message)
  pub taken : OnOk result (m.tells
      → TakesMessage (recv_row old) message (m.reading (recv_disk old)) (m.reading (recv_disk new)))
  pub closed : OnErr result (recv_is_open new ≡ false)
  pub answers : Answers m (recv_end old + 2 + length message ≤ m.room (recv_disk old)) (recv_disk old) (recv_disk new)
      result
  pub device : IfErr result (λ e. e ≡ Device (m.count (recv_disk new)))
