-- The receiver of a pump is opened again and attaches: what becomes of the pump, by what is answered.
use Rattle.std.specs.Prelude.{◌≡◌, ℕ, true, false, List, [], Result, Ok, Err}
use Rattle.std.specs.Result.{result_err}
use Rattle.disk_model.specs.Disk.{Meaning}
use Rattle.disk_model.specs.declared.name.Role.TheVariants as roles
use Rattle.recovery.specs.Calls.{is_device}
use Rattle.script_reader.specs.declared.event.Event.{Event}
use Rattle.script_reader.specs.Past.{Past}
use Rattle.two_worlds.specs.declared.applied.Stop.{Stop}
use Rattle.two_worlds.specs.declared.applied.Stop.TheVariants.{Line, Device, Full, Disk}
use Rattle.two_worlds.specs.declared.pump.parts.Parts.{Parts}
use Rattle.two_worlds.specs.declared.pump.state.BareDisks.{BareDisks}
use Rattle.two_worlds.specs.declared.pump.state.PumpState.{PumpState}
use Rattle.two_worlds.specs.declared.pump.state.PumpState.TheVariants.{Open, Shut}
use Rattle.two_worlds.specs.Doing.{NeverOverfills, Fails, LeavesFit, LeavesAlone}
use Rattle.two_worlds.specs.Private.HighLooks.{Attaches, BreaksAttaching}
use Rattle.two_worlds.specs.Private.PartSteps.{PartStep}
use Rattle.two_worlds.specs.Rooms.{DisksGo}
use Rattle.two_worlds.specs.Standing.{bare_of, bare_disk}
use Rattle.two_worlds.specs.States.{disks_in, is_down_in, IsOpenWith, StandsIn}
use Rattle.two_worlds.specs.Working.{Works}

-- Over disks that tell what they hold, and stood for the past p: the pump stands for p still; or the
-- receiver's disk failed, and nothing has happened.
abbrev pub ReopensFrom : {D : Type 0} → Meaning D → BareDisks D → PumpState D → Past → Result (Unit {0}) Stop → Type 0
ReopensFrom m old t p (Ok done) = StandsIn m t p × LeavesFit m old (disks_in t) p p
ReopensFrom m old t p (Err (Device role faults)) =
    (role ≡ roles.Recv) × (is_down_in t ≡ true) × Fails m (disks_in t) p role faults × LeavesFit m old (disks_in t) p p
ReopensFrom m old t p (Err Line) = ⊥
ReopensFrom m old t p (Err (Full end size_of_message size)) = ⊥
ReopensFrom m old t p (Err (Disk role why)) = ⊥

-- whatever the disks tell: the pump works; or it is shut, since a call of the receiver's disk failed or that
-- disk is refused
abbrev pub ReopensOn : {D : Type 0} → Meaning D → PumpState D → Result (Unit {0}) Stop → Type 0
ReopensOn m t (Ok done) = IsOpenWith (λ d. ∥ Works m d ∥₁) t
ReopensOn m t (Err Line) = ⊥
ReopensOn m t (Err (Device role faults)) = (role ≡ roles.Recv) × (is_down_in t ≡ true)
    × (faults ≡ m.count (bare_disk role (disks_in t)))
ReopensOn m t (Err (Full end size_of_message size)) = ⊥
ReopensOn m t (Err (Disk role why)) = (role ≡ roles.Recv) × (is_down_in t ≡ true) × (is_device why ≡ false)

-- so the disks go
abbrev pub DisksReopen : {D : Type 0} → Meaning D → BareDisks D → BareDisks D → Result (Unit {0}) Stop → Type 0
DisksReopen m old new result =
    (new.row ≡ old.row) × DisksGo m old.row old.low old.high old.recv new.low new.high new.recv (result_err result)

-- all but the receiver and its disk is as it was
abbrev pub IsRestOf : {D : Type 0} → Parts D → PumpState D → Type 0
IsRestOf c (Open d) = d ≡ record c { receiver = d.receiver }
IsRestOf c (Shut d) = d ≡ record (bare_of c) { recv = d.recv }

-- the receiver of these parts was opened again, which led to this
pub record Reopens {D : Type 0} (m : Meaning D) (c : Parts D) (t : PumpState D) (result : Result (Unit {0}) Stop) : Type
    0 where
  pub from : m.tells → (p : Past) → StandsIn m (Open c) p → ReopensFrom m (bare_of c) t p result
  pub on : ReopensOn m t result
  pub serve : DisksReopen m (bare_of c) (disks_in t) result
  pub rest : IsRestOf c t

-- the receiver of these parts attached at this moment, which printed this and led to these
pub record Reattaches {D : Type 0} (m : Meaning D) (c d : Parts D) (moment : ℕ) (printed : List Event)
    (result : Result (Unit {0}) Stop) : Type 0 where
  pub step : PartStep (Attaches c.row moment) (BreaksAttaching c.row moment) NeverOverfills m c d [] printed result
  pub low : LeavesAlone roles.Low c d
  pub recv : LeavesAlone roles.Recv c d
