-- What a part of a line does to the parts of a pump, by what it answers.
use Rattle.std.specs.Prelude.{◌≡◌, ◌⊎◌, ℕ, ◌≤◌, true, List, ◌++◌, Result, Ok, Err}
use Rattle.disk_model.specs.Disk.{Meaning}
use Rattle.disk_model.specs.declared.name.Role.{Role}
use Rattle.pump_core.specs.Lawful.{IsLawful}
use Rattle.pump_frame.specs.declared.row.SessionRow.{SessionRow}
use Rattle.script_reader.specs.declared.event.Event.{Event}
use Rattle.script_reader.specs.Past.{Past}
use Rattle.two_worlds.specs.declared.applied.Stop.{Stop}
use Rattle.two_worlds.specs.declared.applied.Stop.TheVariants.{Line, Device, Full, Disk}
use Rattle.two_worlds.specs.declared.pump.parts.Parts.{Parts}
use Rattle.world_laws.specs.Disks.{LowFits, HighFits, RecvFits, DisksFit, FitsRow}
use Rattle.two_worlds.specs.declared.pump.state.BareDisks.{BareDisks}
use Rattle.two_worlds.specs.Standing.{Stands, bare_of, bare_disk, is_down, disk_at}

-- the disk of this role failed: the disks fit the world, in which the call is unfinished
pub record Fails {D : Type 0} (m : Meaning D) (d : BareDisks D) (q : Past) (role : Role) (faults : ℕ) : Type 0 where
  pub counted : faults ≡ m.count (bare_disk role d)
  pub lawful : IsLawful q.world
  pub fits : FitsRow d.row q.world
  pub disks : DisksFit m d.row d.low d.high d.recv q.world

-- from old to new no moment is lost, and whatever a crash at any moment from an earlier one on leaves, it could leave
-- before, or has P
pub record LeavesOn {D : Type 0} (m : Meaning D) (old new : D) (P : List ℕ → Type 0) : Type 0 where
  pub later : m.moment old ≤ m.moment new
  pub each : m.tells_images → (t : ℕ) (c : List ℕ) → t ≤ m.moment old → m.since new t c → m.since old t c ⊎ P c

-- a low disk fits the world at q, and from p to q no message was removed
abbrev pub LowFitsAfter : SessionRow → Past → Past → List ℕ → Type 0
LowFitsAfter row p q disk = (q.world.removed ≡ p.world.removed) × LowFits row q.world disk

-- whatever a crash at any moment leaves of each disk, it could leave before c, or fits the world at c or the one at
-- d; the low disk fits the one at d only where no message was removed on the way
pub record LeavesFit {D : Type 0} (m : Meaning D) (c d : BareDisks D) (p q : Past) : Type 0 where
  pub low : LeavesOn m c.low d.low (λ disk. LowFits c.row p.world disk ⊎ LowFitsAfter c.row p q disk)
  pub high : LeavesOn m c.high d.high (λ disk. HighFits c.row p.world disk ⊎ HighFits c.row q.world disk)
  pub recv : LeavesOn m c.recv d.recv (λ disk. RecvFits c.row p.world disk ⊎ RecvFits c.row q.world disk)

-- ---- a part of a line ----

-- a disk of the parts failed, and they are down
abbrev pub PartsFail : {D : Type 0} → Meaning D → Parts D → Past → Role → ℕ → Type 0
PartsFail m d q role faults = (is_down d ≡ true) × Fails m (bare_of d) q role faults

abbrev pub PartsLeaveFit : {D : Type 0} → Meaning D → Parts D → Parts D → Past → Past → Type 0
PartsLeaveFit m c d p q = LeavesFit m (bare_of c) (bare_of d) p q

-- Whatever it stood for before, after an Ok it stands for what `Leads` leads to; where a disk failed, for
-- what `Breaks` breaks off at; where a message did not fit, for what `Overfills` leads to. What each
-- prints was added to what was printed, and every image on the way fits. It opens no disk.
module _ (Leads : Past → Past → List Event → Type 0) (Breaks : Role → Past → Past → List Event → Type 0)
    (Overfills : Past → Past → List Event → ℕ → ℕ → ℕ → Type 0) where
  abbrev pub DoesFrom : {D : Type 0} → Meaning D → Parts D → Parts D → List Event → List Event → Past
      → Result (Unit {0}) Stop → Type 0
  DoesFrom m c d out now p (Ok done) =
      (q : Past) × (printed : List Event) × Leads p q printed × (now ≡ out ++ printed) × Stands m d q
      × PartsLeaveFit m c d p q
  DoesFrom m c d out now p (Err Line) = ⊥
  DoesFrom m c d out now p (Err (Device role faults)) =
      (q : Past) × (printed : List Event) × Breaks role p q printed × (now ≡ out ++ printed)
      × PartsFail m d q role faults × PartsLeaveFit m c d p q
  DoesFrom m c d out now p (Err (Full end size_of_message size)) =
      (q : Past) × (printed : List Event) × Overfills p q printed end size_of_message size × (now ≡ out ++ printed)
      × Stands m d q × PartsLeaveFit m c d p q
  DoesFrom m c d out now p (Err (Disk role why)) = ⊥

  abbrev pub Does : {D : Type 0} → Meaning D → Parts D → Parts D → List Event → List Event → Result (Unit {0}) Stop
      → Type 0
  Does m c d out now result = (p : Past) → Stands m c p → DoesFrom m c d out now p result

-- no disk fails in it, and each message fits
abbrev pub NeverBreaks : Role → Past → Past → List Event → Type 0
NeverBreaks role p q printed = ⊥

abbrev pub NeverOverfills : Past → Past → List Event → ℕ → ℕ → ℕ → Type 0
NeverOverfills p q printed end size_of_message size = ⊥

-- the disk of this role is as it was. With this from each part of a line before its last one, what is
-- said of the disks holds of the parts together
abbrev pub LeavesAlone : {D : Type 0} → Role → Parts D → Parts D → Type 0
LeavesAlone role c d = disk_at role d ≡ disk_at role c
