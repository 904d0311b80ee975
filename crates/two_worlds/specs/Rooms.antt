-- The calls of a pump's disks, and when they fail, by what they tell of their plan.
use Rattle.std.specs.Prelude.{◌≡◌, ◌≤◌, ◌⊎◌, ℕ, Bool, true, false, Option, None, Some}
use Rattle.disk_model.specs.Disk.{Meaning, Answers}
use Rattle.disk_model.specs.declared.name.Role.{Role}
use Rattle.disk_model.specs.declared.name.Role.TheVariants as roles
use Rattle.pump_frame.specs.declared.row.SessionRow.{SessionRow}
use Rattle.stable_buffer.specs.Stands.{low_size}
use Rattle.low_process.specs.Storing.{outcome}
use Rattle.script_reader.specs.Highs.{receiver_size}
use Rattle.two_worlds.specs.declared.applied.Stop.{Stop}
use Rattle.two_worlds.specs.declared.applied.Stop.TheVariants.{Line, Device, Full, Disk}
use Rattle.world_laws.specs.Disks.{RemovesBehind}

-- the disk is not armed, and may grow to this size
pub record IsFree {D : Type 0} (m : Meaning D) (size : ℕ) (disk : D) : Type 0 where
  pub unarmed : m.armed disk ≡ false
  pub room : size ≤ m.room disk

-- each disk has room for all that its format needs, and is not armed
pub record HasRoom {D : Type 0} (m : Meaning D) (row : SessionRow) (low high recv : D) : Type 0 where
  pub low_free : IsFree m (low_size row) low
  pub high_free : IsFree m 80 high
  pub recv_free : IsFree m receiver_size recv

abbrev pub is_role : Role → Role → Bool
is_role roles.Low roles.Low = true
is_role roles.High roles.High = true
is_role roles.Recv roles.Recv = true
is_role _ _ = false

-- the disk of this role failed
abbrev pub stops_at : Role → Option Stop → Bool
stops_at role None = false
stops_at role (Some Line) = false
stops_at role (Some (Device other faults)) = is_role role other
stops_at role (Some (Full end length size)) = false
stops_at role (Some (Disk other why)) = false

-- no call of the disk was made; or calls were made of which one failed or none, and they fit where its
-- room is not smaller than this
abbrev pub Serves : {D : Type 0} → Meaning D → ℕ → D → D → Bool → Type 0
Serves m least old new is_fault =
    ((new ≡ old) × (is_fault ≡ false)) ⊎ Answers m (least ≤ m.room old) old new (outcome is_fault)

-- of each disk no call was made, or calls of which one failed or none, and they fit where it has room
-- for all that its format needs; and no crash leaves more removed than taken
pub record DisksGo {D : Type 0} (m : Meaning D) (row : SessionRow) (low high recv low' high' recv' : D)
    (stop : Option Stop) : Type 0 where
  pub low_goes : Serves m (low_size row) low low' (stops_at roles.Low stop)
  pub high_goes : Serves m 80 high high' (stops_at roles.High stop)
  pub recv_goes : Serves m receiver_size recv recv' (stops_at roles.Recv stop)
  pub behind : RemovesBehind m high high' recv'
