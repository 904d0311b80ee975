-- What a look does with the store.
use Rattle.std.specs.Prelude.{◌≡◌, ℕ, ◌+◌, ◌≤◌, Bool, true, false, List, Option, Some, None, Result, Ok, Err}
use Rattle.pump_frame.specs.declared.row.SessionRow.{SessionRow}
use Rattle.disk_model.specs.Disk.{Meaning, Moves, Answers}
use Rattle.stable_buffer.specs.Low.{IsLowReady, low_disk, low_count, low_row, low_is_open}
use Rattle.stable_buffer.specs.Stands.{slot_end, MayGain, Gains}
use Rattle.stable_buffer.specs.declared.low.LowStore.{LowStore}
use Rattle.pump_core.specs.History.{Arrival}
use Rattle.pump_core.specs.History.{Nothing, Came, Bad, Gone}
use Rattle.pump_core.specs.Exchanges.{is_next}
use Rattle.low_process.specs.declared.values.Phase.{Phase}
use Rattle.low_process.specs.declared.values.Phase.TheVariants.{Idle}
use Rattle.low_process.specs.declared.process.LowProcess.{LowProcess}

abbrev pub wants_idle : SessionRow → ℕ → Bool → Arrival → Bool
wants_idle row next greeted (Came f) = is_next row next greeted f
wants_idle row next greeted _ = false

abbrev pub wants_in : SessionRow → ℕ → Bool → Phase → Arrival → Bool
wants_in row next greeted Idle a = wants_idle row next greeted a
wants_in row next greeted _ a = false

-- a look with this arrival begins to store: it may take it, and it is a fit frame with the next
-- message
abbrev pub wants : LowProcess → Arrival → Bool
wants p a = wants_in p.row p.next p.greeted p.phase a

-- the message of an arrival that is to be stored
abbrev pub message_of : Bool → Arrival → Option (List ℕ)
message_of true (Came f) = Some f.payload
message_of true Nothing = None
message_of true Bad = None
message_of true Gone = None
message_of false a = None

-- the message that a look with this arrival begins to store
abbrev pub message_in : LowProcess → Arrival → Option (List ℕ)
message_in p a = message_of (wants p a) a

-- a call that failed, or did not
abbrev pub outcome : Bool → Result (Unit {0}) (Unit {0})
outcome true = Err tt
outcome false = Ok tt

-- the message is stored, or the device failed: a crash at any moment leaves the messages from
-- before, with this one or without; a store that failed is no longer open
pub record Storing {D : Type 0} (m : Meaning D) (message : List ℕ) (old new : LowStore D) (is_fault : Bool)
    : Type 0 where
  pub moves : Moves m (MayGain (low_row old) message) (low_disk old) (low_disk new)
  pub gained : is_fault ≡ false → m.tells
      → Gains (low_row old) message (m.reading (low_disk old)) (m.reading (low_disk new))
  pub ready : is_fault ≡ false → IsLowReady m new
  pub count : is_fault ≡ false → low_count new ≡ low_count old + 1
  pub row : low_row new ≡ low_row old
  pub closed : is_fault ≡ true → low_is_open new ≡ false
  pub answers : Answers m (slot_end (low_row old) (low_count old) message ≤ m.room (low_disk old))
      (low_disk old) (low_disk new) (outcome is_fault)

-- what becomes of the store in a look that stores this message, or none; then it makes no device
-- call
abbrev pub StoreStep : {D : Type 0} → Meaning D → Option (List ℕ) → LowStore D → LowStore D → Bool
    → Type 0
StoreStep m None old new is_fault = (is_fault ≡ false) × (new ≡ old)
StoreStep m (Some message) old new is_fault = Storing m message old new is_fault

-- the number of the next message after such a look: one more where the message was stored
abbrev pub counted : Option (List ℕ) → Bool → ℕ → ℕ
counted None is_fault next = next
counted (Some message) true next = next
counted (Some message) false next = next + 1
