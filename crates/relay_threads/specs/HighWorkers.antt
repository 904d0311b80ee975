-- What a high worker needs before a look, a round or a stay, and what it keeps in one.
use Rattle.std.specs.Prelude.{◌≡◌, ℕ, ◌≤◌, false}
use Rattle.disk_model.specs.Disk.{Meaning}
use Rattle.stable_buffer.specs.High.{high_disk}
use Rattle.pump_core.specs.Passage.{Low, High, Shape}
use Rattle.high_process.specs.Ready.{Ready}
use Rattle.high_process.specs.States.{last_of, is_down}
use Rattle.relay_threads.specs.declared.high_worker.HighWorker.{HighWorker}

module _ {K D H : Type 0} (floor : K → ℕ) (m : Meaning D) (stands : H → Low → High → Type 0) where
  -- its process, its store and its end are in step, and no reading of its clock to come is below the last moment
  pub record CanGoOn (v : HighWorker K D H) : Type 0 where
    pub ready : Ready m v.process.now v.store.now (stands v.ends.now)
    pub order : last_of v.process.now ≤ floor v.clock.now

  -- It has all that was lent to it, and its end is one of the same passage. It can go on unless its process is down,
  -- and the count of its disk did not fall.
  pub record GoesOn {Place : Type 0} (shape : H → Shape) (place : H → Place) (v w : HighWorker K D H) : Type 0 where
    pub clock : w.clock.ghost_name ≡ v.clock.ghost_name
    pub process : w.process.ghost_name ≡ v.process.ghost_name
    pub store : w.store.ghost_name ≡ v.store.ghost_name
    pub ends : w.ends.ghost_name ≡ v.ends.ghost_name
    pub shape_is : shape w.ends.now ≡ shape v.ends.now
    pub place_is : place w.ends.now ≡ place v.ends.now
    pub ready : is_down w.process.now ≡ false → Ready m w.process.now w.store.now (stands w.ends.now)
    pub order : last_of w.process.now ≤ floor w.clock.now
    pub counts : m.count (high_disk v.store.now) ≤ m.count (high_disk w.store.now)
