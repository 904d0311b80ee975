-- An open store of low's messages.
use Rattle.std.specs.Prelude.{◌≡◌, ℕ, ◌^◌, ◌<◌, ◌≤◌, Bool, true, List, length}
use Rattle.pump_frame.specs.Rows.{IsLawfulRow, greatest_capacity}
use Rattle.pump_frame.specs.declared.row.SessionRow.{SessionRow}
use Rattle.disk_model.specs.Disk.{Meaning, Moves, Same, Settled}
use Rattle.stable_buffer.specs.Numbers.{length_at, message_at}
use Rattle.stable_buffer.specs.Register.{IsReady, with_disk}
use Rattle.stable_buffer.specs.Stands.{slot_of, InSlot, LowStands}
use Rattle.stable_buffer.specs.declared.low.LowStore.{LowStore}

-- the ranges that a lawful row's two numbers have
pub record HasRanges (row : SessionRow) : Type 0 where
  pub some : 1 ≤ row.capacity
  pub few : row.capacity ≤ greatest_capacity
  pub short : row.message ≤ 1024

-- a disk stands for a count and some messages
abbrev pub StandsForCount : SessionRow → ℕ → List ℕ → Type 0
StandsForCount row E disk = (b : ℕ) × (messages : List (List ℕ)) × LowStands row E b messages disk

-- the store is open and knows its count, and a crash leaves what a read gives
pub record IsLowReady {D : Type 0} (m : Meaning D) (store : LowStore D) : Type 0 where
  pub ready : IsReady m store.register
  pub count : store.register.first ≤ 2 ^ 48
  pub second : store.register.second ≡ 0
  pub lawful : IsLawfulRow store.row
  pub ranges : HasRanges store.row
  pub settled : Settled m store.register.disk
  pub stands : m.tells → StandsForCount store.row store.register.first (m.reading store.register.disk)

-- the disk under a store
abbrev pub low_disk : {D : Type 0} → LowStore D → D
low_disk store = store.register.disk

-- the store with another disk under it
abbrev pub low_with_disk : {D : Type 0} → LowStore D → D → LowStore D
low_with_disk store disk = record store { register = with_disk store.register disk }

-- how many messages are accepted
abbrev pub low_count : {D : Type 0} → LowStore D → ℕ
low_count store = store.register.first

-- the row that the store was made for
abbrev pub low_row : {D : Type 0} → LowStore D → SessionRow
low_row store = store.row

-- no call of the store has failed
abbrev pub low_is_open : {D : Type 0} → LowStore D → Bool
low_is_open store = store.register.is_open

-- the store, with its row made coarse
abbrev pub low_made_coarse : {D : Type 0} → LowStore D → LowStore D
low_made_coarse store = record store { row = record store.row { coarse = true } }

-- a message may be stored: the store is ready, the message is not too long, and a number is left for it
pub record MayStore {D : Type 0} (m : Meaning D) (store : LowStore D) (message : List ℕ) : Type 0 where
  pub ready : IsLowReady m store
  pub fits : length message ≤ (low_row store).message
  pub below : low_count store < 2 ^ 48

-- what reading leaves of a store: its count, its row and its bytes
pub record KeepsMessages {D : Type 0} (m : Meaning D) (old new : LowStore D) : Type 0 where
  pub count : low_count new ≡ low_count old
  pub row : low_row new ≡ low_row old
  pub moves : Moves m Same (low_disk old) (low_disk new)

-- The slot of message n was read, and this length stands in it. Then `new` is the message, as long as that; where the
-- length is above the row's it is `old`.
pub record HasRead {D : Type 0} (m : Meaning D) (store : LowStore D) (n size : ℕ) (old new : List ℕ) : Type 0 where
  pub small : size < 2 ^ 16
  -- the length and the message are those of the disk
  pub is : m.tells → size ≡ length_at (m.reading (low_disk store)) (slot_of (low_row store) n)
  pub message : size ≤ (low_row store).message → m.tells
      → new ≡ message_at (m.reading (low_disk store)) (slot_of (low_row store) n)
  pub stands : size ≤ (low_row store).message → m.tells → InSlot (low_row store) n new (m.reading (low_disk store))
  -- over any disk
  pub fits : size ≤ (low_row store).message → length new ≡ size
  pub left : (low_row store).message < size → new ≡ old
