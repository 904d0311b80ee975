-- What a caller keeps from look to look, so that the next one may be made.
use Rattle.std.specs.Prelude.{◌≡◌, false}
use Rattle.disk_model.specs.Disk.{Meaning}
use Rattle.stable_buffer.specs.High.{IsHighReady, high_count}
use Rattle.stable_buffer.specs.declared.high.HighStore.{HighStore}
use Rattle.pump_core.specs.Passage.{Low, High}
use Rattle.high_process.specs.declared.process.HighProcess.{HighProcess}
use Rattle.high_process.specs.Past.{ProcessPast}
use Rattle.high_process.specs.States.{removed_of, is_down, IsBetweenLooks}
use Rattle.high_process.specs.Ends.{StandsFitting}
use Rattle.high_process.specs.Looks.{StandsFor}

-- the process, its store and its end are in step
pub record Ready {D : Type 0} (m : Meaning D) (p : HighProcess) (store : HighStore D) (stands : Low → High
    → Type 0) : Type 0 where
  pub between : IsBetweenLooks p
  pub up : is_down p ≡ false
  pub ready : IsHighReady m store
  pub count : high_count store ≡ removed_of p
  pub t : ProcessPast
  pub past : StandsFor p t
  pub l : Low
  pub h : High
  pub fitting : StandsFitting stands p l h
