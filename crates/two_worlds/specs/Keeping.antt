-- What a pump always keeps.
use Rattle.std.specs.Prelude.{◌≡◌, false}
use Rattle.disk_model.specs.Disk.{Meaning}
use Rattle.pump_frame.specs.Rows.{IsLawfulRow}
use Rattle.two_worlds.specs.declared.pump.state.PumpState.{PumpState}
use Rattle.world_laws.specs.Disks.{Hold}
use Rattle.two_worlds.specs.States.{disks_in, is_down_in, IsOpenWith}
use Rattle.two_worlds.specs.Working.{IsAble}

-- the row is lawful, disks that tell what they hold hold a lawful world, and until the pump is down its
-- parts can be given a line
pub record Keeps {D : Type 0} (m : Meaning D) (s : PumpState D) : Type 0 where
  pub row : IsLawfulRow (disks_in s).row
  pub hold : m.tells → ∥ Hold m (disks_in s).row (disks_in s).low (disks_in s).high (disks_in s).recv ∥₁
  pub able : is_down_in s ≡ false → IsOpenWith (IsAble m) s
