-- What the low worker of a session needs before a round, and what it keeps. It serves the clauses of the
-- worker's own methods alone, and need not be believed.
use Rattle.std.specs.Prelude.{◌≡◌, ℕ, ◌≤◌, false}
use Rattle.disk_model.specs.Disk.{Meaning}
use Rattle.pump_core.specs.Passage.{Low, High, Shape}
use Rattle.stable_buffer.specs.Low.{low_disk}
use Rattle.low_process.specs.Looks.{last_of, is_down}
use Rattle.low_process.specs.Ready.{Ready}
use Rattle.relay_threads.specs.declared.low_worker.LowWorker.{LowWorker}

module _ {K W D L O : Type 0} (floor : K → ℕ) (m : Meaning D) (stands : L → Low → High → Type 0) where
  -- so it is between two rounds, also where the process is down: process, store and end are in step, and the
  -- clock reads no moment below the process's last one
  pub record Rests (v : LowWorker K W D L O) : Type 0 where
    pub ready : Ready m v.process.now v.store.now (stands v.ends.now)
    pub order : last_of v.process.now ≤ floor v.clock.now

  -- what a round needs
  pub record CanGoOn (v : LowWorker K W D L O) : Type 0 where
    pub rests : Rests v
    pub up : is_down v.process.now ≡ false

  -- the worker has all that it borrowed, at the same end of the same passage, and rests
  pub record KeepsWorker {P : Type 0} (shape : L → Shape) (place : L → P) (v w : LowWorker K W D L O) : Type 0 where
    pub clock : w.clock.ghost_name ≡ v.clock.ghost_name
    pub words : w.words.ghost_name ≡ v.words.ghost_name
    pub process : w.process.ghost_name ≡ v.process.ghost_name
    pub store : w.store.ghost_name ≡ v.store.ghost_name
    pub ends : w.ends.ghost_name ≡ v.ends.ghost_name
    pub tape : w.tape.ghost_name ≡ v.tape.ghost_name
    pub shape_is : shape w.ends.now ≡ shape v.ends.now
    pub place_is : place w.ends.now ≡ place v.ends.now
    pub counts : m.count (low_disk v.store.now) ≤ m.count (low_disk w.store.now)
    pub rests : Rests w
