-- Which disk of a session failed: the shelf did not give the one that was asked for, or the one came back whose count
-- had risen. `m` is what the shelf tells, `d` what its disks do.
use Rattle.std.specs.Prelude.{◌≡◌, ◌⊎◌, ℕ, Bool, true, false}
use Rattle.disk_model.specs.Disk.{Meaning}
use Rattle.disk_model.specs.Shelf.{Holdings, OnShelf, Out, IsOut}
use Rattle.disk_model.specs.declared.name.Role.{Role}
use Rattle.disk_model.specs.declared.name.Role.TheVariants as roles
use Rattle.pump_frame.specs.Counts.{Rose}
use Rattle.script_replay.specs.Shelves.{Places, disk_name}

-- of the disks of a session the low one is taken first, then the high one, and the receiver's last
abbrev pub is_earlier : Role → Role → Bool
is_earlier roles.Low roles.Low = false
is_earlier roles.Low roles.High = true
is_earlier roles.Low roles.Recv = true
is_earlier roles.High roles.Low = false
is_earlier roles.High roles.High = false
is_earlier roles.High roles.Recv = true
is_earlier roles.Recv role = false

-- This disk was asked for and not given, at which the shelf's count rose: those of its session that are taken before
-- it were out then, and it and the others were where they were at first
pub record IsNotGiven {S : Type 0} (m : Holdings S) (first : Places) (session : ℕ) (role : Role) : Type 0 where
  pub asked : S
  pub answered : S
  pub still : m.disk answered ≡ m.disk asked
  pub rose : Rose (m.disk_faults asked) (m.disk_faults answered)
  pub taken : (other : Role) → is_earlier other role ≡ true → IsOut (m.disk asked (disk_name session other))
  pub there : (other : Role) → is_earlier other role ≡ false → m.disk asked (disk_name session other)
      ≡ first (disk_name session other)

-- This disk was off the shelf, and came back with a count that had risen since it was given: what it reads is read
-- there
pub record CameBackFailed {S D : Type 0} (m : Holdings S) (d : Meaning D) (last : Places) (session : ℕ) (role : Role) :
    Type 0 where
  pub lent : S
  pub given : ℕ
  pub disk : D
  pub out : m.disk lent (disk_name session role) ≡ Out given
  pub rose : Rose given (d.count disk)
  pub back : m.tells → last (disk_name session role) ≡ OnShelf (d.reading disk)

abbrev pub FailsBetween : {S D : Type 0} → Holdings S → Meaning D → Places → Places → ℕ → Role → Type 0
FailsBetween m d first last session role = IsNotGiven m first session role ⊎ CameBackFailed m d last session role

-- between these two states of the shelf the disk failed, and the shelf's count rose
abbrev pub FailsAt : {S D : Type 0} → Holdings S → Meaning D → S → S → ℕ → Role → Type 0
FailsAt m d old new session role = Rose (m.disk_faults old) (m.disk_faults new)
    × FailsBetween m d (m.disk old) (m.disk new) session role
