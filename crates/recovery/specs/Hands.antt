-- What reading messages of low's disk leaves. Only clauses of functions inside the crate name this.
use Rattle.std.specs.Prelude.{◌≡◌, true, Result, OnOk, IfErr}
use Rattle.disk_model.specs.Disk.{Meaning, Moves, Same}
use Rattle.stable_buffer.specs.Low.{IsLowReady, low_disk, low_row, low_count}
use Rattle.stable_buffer.specs.declared.low.LowStore.{LowStore}
use Rattle.recovery.specs.Calls.{Calls, failed, is_device}
use Rattle.recovery.specs.declared.why.Why.{Why}
use Rattle.recovery.specs.declared.why.Why.TheVariants.{Device}

-- Low's store keeps its count, its row and its bytes. It is ready after an `Ok`, and a device's error counts its
-- failures as they are then.
pub record ReadsLow {D T : Type 0} (m : Meaning D) (old new : LowStore D) (result : Result T Why) : Type 0 where
  pub device : IfErr result (λ why. is_device why ≡ true → why ≡ Device (m.count (low_disk new)))
  pub calls : Calls m (low_disk old) (low_disk new) (failed result)
  pub ready : OnOk result (IsLowReady m new)
  pub count : low_count new ≡ low_count old
  pub row : low_row new ≡ low_row old
  pub moves : Moves m Same (low_disk old) (low_disk new)
