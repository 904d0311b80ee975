-- What a pump is after one of its messages was read.
use Rattle.std.specs.Prelude.{◌≡◌, Bool, true, false}
use Rattle.disk_model.specs.Disk.{Meaning, Moves, Same}
use Rattle.disk_model.specs.declared.name.Role.{Role}
use Rattle.script_reader.specs.Past.{Past}
use Rattle.two_worlds.specs.declared.pump.Pump.{Pump}
use Rattle.two_worlds.specs.declared.pump.state.PumpState.{PumpState}
use Rattle.two_worlds.specs.Doing.{Fails}
use Rattle.two_worlds.specs.Rooms.{Serves, is_role}
use Rattle.two_worlds.specs.Standing.{bare_disk}
use Rattle.two_worlds.specs.States.{disks_in, counts_in, is_down_in, kept_moment_in, StandsIn}

-- the disk of this role was read between s and t, and no other: no byte of it was changed
pub record ReadsAlone {D : Type 0} (m : Meaning D) (role : Role) (s t : PumpState D) (is_fault : Bool) : Type 0 where
  pub same : Moves m Same (bare_disk role (disks_in s)) (bare_disk role (disks_in t))
  pub serves : Serves m 0 (bare_disk role (disks_in s)) (bare_disk role (disks_in t)) is_fault
  pub others : (other : Role) → is_role role other ≡ false → bare_disk other (disks_in t) ≡ bare_disk other (disks_in s)
  pub row : (disks_in t).row ≡ (disks_in s).row
  pub down : is_down_in t ≡ is_fault

-- .. and t is as s: it stands for what s stood for
pub record ReadsIn {D : Type 0} (m : Meaning D) (role : Role) (s t : PumpState D) : Type 0 where
  pub alone : ReadsAlone m role s t false
  pub moment : kept_moment_in t ≡ kept_moment_in s
  pub counts : counts_in t ≡ counts_in s
  pub stands : (p : Past) → StandsIn m s p → StandsIn m t p

-- .. or the disk failed: t is down, and its disks fit the world for which s stood
pub record FailsToRead {D : Type 0} (m : Meaning D) (role : Role) (s t : PumpState D) : Type 0 where
  pub alone : ReadsAlone m role s t true
  pub fails : (p : Past) → StandsIn m s p → Fails m (disks_in t) p role (m.count (bare_disk role (disks_in t)))

-- ---- pumps ----

abbrev pub ReadsOn : {D : Type 0} {g : _} → Meaning D → Role → Pump D g → Pump D g → Type 0
ReadsOn m role s t = ReadsIn m role s.state t.state

abbrev pub FailsReading : {D : Type 0} {g : _} → Meaning D → Role → Pump D g → Pump D g → Type 0
FailsReading m role s t = FailsToRead m role s.state t.state
