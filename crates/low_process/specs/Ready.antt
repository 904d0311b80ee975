-- What is kept from look to look, so that the next one may be made: the condition of a loop of looks.
use Rattle.disk_model.specs.Disk.{Meaning}
use Rattle.stable_buffer.specs.declared.low.LowStore.{LowStore}
use Rattle.pump_core.specs.Passage.{Low, High}
use Rattle.low_process.specs.declared.process.LowProcess.{LowProcess}
use Rattle.low_process.specs.Looks.{IsBetweenLooks}
use Rattle.low_process.specs.Ends.{StandsFitting}
use Rattle.low_process.specs.Whole.{HasStore}

-- the process, its store and its end are in step
pub record Ready {D : Type 0} (m : Meaning D) (p : LowProcess) (store : LowStore D)
    (stands : Low → High → Type 0) : Type 0 where
  pub between : IsBetweenLooks p
  pub of : HasStore m p store
  pub l : Low
  pub h : High
  pub fitting : StandsFitting stands p l h
