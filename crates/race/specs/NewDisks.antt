-- What the disks of a race are before its first look.
use Rattle.std.specs.Prelude.{◌≡◌, ◌≤◌, false}
use Rattle.disk_model.specs.Plain.{Plain, plain_meaning}
use Rattle.stable_buffer.specs.Stands.{HighStands, low_size}
use Rattle.stable_buffer.specs.Low.{IsLowReady, low_count, low_row, low_disk}
use Rattle.stable_buffer.specs.High.{IsHighReady, high_count, high_disk}
use Rattle.stable_buffer.specs.declared.low.LowStore.{LowStore}
use Rattle.stable_buffer.specs.declared.high.HighStore.{HighStore}
use Rattle.script_reader.specs.Generated.{generated_row}

-- a store of the messages, which has none
pub record IsNewLow (store : LowStore Plain) : Type 0 where
  pub ready : IsLowReady plain_meaning store
  pub count : low_count store ≡ 0
  pub row : low_row store ≡ generated_row
  pub calm : (low_disk store).armed ≡ false
  pub room : low_size generated_row ≤ (low_disk store).room

-- a store of how many messages are removed, which says that none is
pub record IsNewHigh (store : HighStore Plain) : Type 0 where
  pub ready : IsHighReady plain_meaning store
  pub count : high_count store ≡ 0
  pub stands : HighStands generated_row 0 (high_disk store).bytes
  pub calm : (high_disk store).armed ≡ false
  pub room : 80 ≤ (high_disk store).room
