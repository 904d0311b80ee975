-- An open store of the count of messages that high has removed.
use Rattle.std.specs.Prelude.{◌≡◌, ℕ, ◌^◌, ◌≤◌, Bool, List}
use Rattle.pump_frame.specs.declared.row.SessionRow.{SessionRow}
use Rattle.disk_model.specs.Disk.{Meaning, Settled}
use Rattle.stable_buffer.specs.Register.{IsReady, staging_end}
use Rattle.stable_buffer.specs.Stands.{HighStands}
use Rattle.stable_buffer.specs.declared.high.HighStore.{HighStore}

-- a disk stands for a count, with some row
abbrev pub StandsForRemoved : ℕ → List ℕ → Type 0
StandsForRemoved B disk = (row : SessionRow) × HighStands row B disk

-- the store is open and knows its count, and a crash leaves what a read gives
pub record IsHighReady {D : Type 0} (m : Meaning D) (store : HighStore D) : Type 0 where
  pub ready : IsReady m store.register
  pub count : store.register.first ≤ 2 ^ 48
  pub second : store.register.second ≡ 0
  pub settled : Settled m store.register.disk
  pub stands : m.tells → StandsForRemoved store.register.first (m.reading store.register.disk)

-- the disk under a store
abbrev pub high_disk : {D : Type 0} → HighStore D → D
high_disk store = store.register.disk

-- how many messages are removed
abbrev pub high_count : {D : Type 0} → HighStore D → ℕ
high_count store = store.register.first

-- no call of the store has failed
abbrev pub high_is_open : {D : Type 0} → HighStore D → Bool
high_is_open store = store.register.is_open

-- how far the writes of a removal reach
abbrev pub removal_end : {D : Type 0} → HighStore D → ℕ
removal_end store = staging_end store.register
