-- Both processes of a pump are opened again: what becomes of it, by what is answered.
use Rattle.std.specs.Prelude.{◌≡◌, ◌⊎◌, ℕ, Bool, ◌&&◌, ◌==◌, nat_le, if◌then◌else◌, true, false, [], ◌∷◌, Result, Ok}
use Rattle.std.specs.Prelude.{Err}
use Rattle.disk_model.specs.Disk.{Meaning}
use Rattle.disk_model.specs.declared.name.Role.{Role}
use Rattle.disk_model.specs.declared.name.Role.TheVariants as roles
use Rattle.recovery.specs.Calls.{is_device}
use Rattle.recovery.specs.declared.why.Why.{Why}
use Rattle.recovery.specs.Faults.{why_values}
use Rattle.script_reader.specs.declared.event.EventHead.{EventHead}
use Rattle.script_reader.specs.EventHeads.{event_of}
use Rattle.script_reader.specs.Past.{Past}
use Rattle.script_reader.specs.Restarts.{IsRestart}
use Rattle.std.specs.Result.{result_err}
use Rattle.two_worlds.specs.declared.applied.Stop.{Stop}
use Rattle.two_worlds.specs.declared.applied.Stop.TheVariants.{Line, Device, Full, Disk}
use Rattle.two_worlds.specs.declared.pump.state.BareDisks.{BareDisks}
use Rattle.two_worlds.specs.declared.pump.state.PumpState.{PumpState}
use Rattle.two_worlds.specs.declared.pump.state.PumpState.TheVariants.{Open, Shut}
use Rattle.two_worlds.specs.Doing.{Fails, LeavesFit}
use Rattle.two_worlds.specs.Rooms.{DisksGo}
use Rattle.two_worlds.specs.Standing.{bare_disk}
use Rattle.two_worlds.specs.States.{disks_in, is_down_in, IsOpenWith, StandsIn}
use Rattle.two_worlds.specs.Working.{Works}

-- the session and the moment fit an open pump
abbrev pub is_due_in : {D : Type 0} → PumpState D → ℕ → ℕ → Bool
is_due_in (Open c) session moment = session == c.row.id && nat_le c.moment moment
is_due_in (Shut d) session moment = false

-- the reason to stop where this disk is refused
abbrev pub stop_for : Role → Why → Stop
stop_for role why = if is_device why then Device role (why_values why).0 else Disk role why

-- Over disks that tell what they hold, and stood for the past p: both processes begin again and this is
-- told; or the disk of one of them failed, and nothing has happened.
abbrev pub RestartsFrom : {D : Type 0} → Meaning D → BareDisks D → PumpState D → ℕ → Past → Result EventHead Stop
    → Type 0
RestartsFrom m old t moment p (Ok event) =
    (q : Past) × IsRestart old.row p moment q (event_of event ∷ []) × StandsIn m t q × LeavesFit m old (disks_in t) p q
RestartsFrom m old t moment p (Err (Device role faults)) =
    ((role ≡ roles.Low) ⊎ (role ≡ roles.High))
    × (is_down_in t ≡ true) × Fails m (disks_in t) p role faults × LeavesFit m old (disks_in t) p p
RestartsFrom m old t moment p (Err Line) = ⊥
RestartsFrom m old t moment p (Err (Full end size_of_message size)) = ⊥
RestartsFrom m old t moment p (Err (Disk role why)) = ⊥

-- whatever the disks tell: the pump works; or it is shut, since the call of a disk failed or one is refused
abbrev pub RestartsOn : {D : Type 0} → Meaning D → PumpState D → Result EventHead Stop → Type 0
RestartsOn m t (Ok event) = IsOpenWith (λ d. ∥ Works m d ∥₁) t
RestartsOn m t (Err (Device role faults)) = (is_down_in t ≡ true) × (faults ≡ m.count (bare_disk role (disks_in t)))
RestartsOn m t (Err (Disk role why)) = (is_down_in t ≡ true) × (is_device why ≡ false)
RestartsOn m t (Err Line) = ⊥
RestartsOn m t (Err (Full end size_of_message size)) = ⊥

-- so the disks go
abbrev pub DisksRestart : {D : Type 0} → Meaning D → BareDisks D → BareDisks D → Result EventHead Stop → Type 0
DisksRestart m old new result =
    (new.row ≡ old.row) × DisksGo m old.row old.low old.high old.recv new.low new.high new.recv (result_err result)
