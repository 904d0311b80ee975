-- Records from an offset on. Only clauses of private functions name these.
use Rattle.std.specs.Prelude.{◌≡◌, ℕ, ◌-◌, ◌<◌, ◌≤◌, false, List, length, take, drop, Result, OnOk, OnErr}
use Rattle.pump_frame.specs.Counts.{Rose}
use Rattle.disk_model.specs.Disk.{Meaning}
use Rattle.stable_buffer.specs.Log.{Records}

-- records of these messages stand from an offset to an end
abbrev pub RecordsFrom : ℕ → List (List ℕ) → ℕ → ℕ → List ℕ → Type 0
RecordsFrom most messages at end disk = (at ≤ end) × (end ≤ length disk)
    × Records most messages (take (end - at) (drop at disk))

-- a disk has records of these messages up to an end, n of them at least
abbrev pub HasSome : ℕ → List (List ℕ) → ℕ → ℕ → List ℕ → Type 0
HasSome most messages n end disk = (n ≤ length messages) × RecordsFrom most messages 80 end disk

-- .. and more than n
abbrev pub HasMore : ℕ → List (List ℕ) → ℕ → ℕ → List ℕ → Type 0
HasMore most messages n end disk = (n < length messages) × RecordsFrom most messages 80 end disk

-- calls of a disk, maybe none, up to the first that fails: a good end leaves armed what was armed
pub record Walks {D T E : Type 0} (m : Meaning D) (old new : D) (result : Result T E) : Type 0 where
  pub counts : m.count old ≤ m.count new
  pub rose : OnErr result (Rose (m.count old) (m.count new))
  pub room : m.tells_plan → m.room new ≡ m.room old
  pub armed : OnOk result (m.tells_plan → m.armed new ≡ m.armed old)
  pub disarmed : OnErr result (m.tells_plan → m.armed new ≡ false)
