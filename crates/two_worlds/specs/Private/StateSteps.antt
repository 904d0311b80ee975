-- What a line of a script does to the state of a pump.
use Rattle.std.specs.Prelude.{◌≡◌, true, false, List, [], Option, Some, None}
use Rattle.disk_model.specs.Disk.{Meaning}
use Rattle.recovery.specs.Calls.{is_device}
use Rattle.script_reader.specs.declared.event.Event.{Event}
use Rattle.script_reader.specs.declared.line.Line.{Line as ScriptLine}
use Rattle.script_reader.specs.Past.{Past}
use Rattle.script_reader.specs.Steps.{is_timely, LineStep, IsRefusedWhole, Overfills}
use Rattle.script_reader.specs.Breaks.{Breaks}
use Rattle.two_worlds.specs.declared.applied.Stop.{Stop}
use Rattle.two_worlds.specs.declared.applied.Stop.TheVariants.{Line, Device, Full, Disk}
use Rattle.script_reader.specs.declared.line.Line.TheVariants.{Restart, ReceiverRestart}
use Rattle.two_worlds.specs.declared.pump.state.PumpState.{PumpState}
use Rattle.two_worlds.specs.declared.pump.state.Reopening.{Reopening}
use Rattle.two_worlds.specs.declared.pump.state.Reopening.TheVariants.{Relay, Receiver, Nothing}
use Rattle.two_worlds.specs.Doing.{Fails, LeavesFit}
use Rattle.two_worlds.specs.Standing.{bare_disk}
use Rattle.two_worlds.specs.States.{disks_in, is_down_in, IsOpenWith, StandsIn, RefusesAheadIn}
use Rattle.two_worlds.specs.Rooms.{DisksGo}
use Rattle.two_worlds.specs.Timely.{CanApply, CannotApply, opens_again}
use Rattle.two_worlds.specs.Working.{Works, IsTooLong}

-- so a line is applied to a pump whose disks tell what they hold, and which stood for the past p
abbrev pub StateApplies : {D : Type 0} → Meaning D → PumpState D → PumpState D → ScriptLine → Past → List Event
    → Option Stop → Type 0
StateApplies m s t line p printed None =
    (is_timely (disks_in s).row p line ≡ true)
    × ((q : Past) × LineStep (disks_in s).row p line q printed × StandsIn m t q
    × LeavesFit m (disks_in s) (disks_in t) p q)
StateApplies m s t line p printed (Some Line) = IsRefusedWhole (disks_in s).row p line × (printed ≡ []) × (t ≡ s)
StateApplies m s t line p printed (Some (Device role faults)) =
    (is_timely (disks_in s).row p line ≡ true)
    × ((q : Past) × Breaks (disks_in s).row p line role q printed
    × ((is_down_in t ≡ true) × Fails m (disks_in t) q role faults)
    × LeavesFit m (disks_in s) (disks_in t) p q)
StateApplies m s t line p printed (Some (Full end size_of_message size)) =
    (is_timely (disks_in s).row p line ≡ true)
    × ((q : Past) × Overfills (disks_in s).row p line q printed end size_of_message size × StandsIn m t q
    × LeavesFit m (disks_in s) (disks_in t) p q)
StateApplies m s t line p printed (Some (Disk role why)) = ⊥

-- .. and so, whatever the disks tell
abbrev pub StateAppliesOn : {D : Type 0} → Meaning D → PumpState D → PumpState D → ScriptLine → List Event → Option Stop
    → Type 0
StateAppliesOn m s t line printed None = IsOpenWith (λ c. CanApply c line) s × IsOpenWith (λ d. ∥ Works m d ∥₁) t
StateAppliesOn m s t line printed (Some Line) = IsOpenWith (λ c. CannotApply c line) s × (printed ≡ []) × (t ≡ s)
StateAppliesOn m s t line printed (Some (Device role faults)) =
    IsOpenWith (λ c. CanApply c line) s × (is_down_in t ≡ true) × (faults ≡ m.count (bare_disk role (disks_in t)))
StateAppliesOn m s t line printed (Some (Full end size_of_message size)) =
    IsOpenWith (λ c. CanApply c line) s × IsOpenWith (λ d. ∥ Works m d ∥₁ × IsTooLong d end size_of_message size) t
StateAppliesOn m s t line printed (Some (Disk role why)) =
    IsOpenWith (λ c. CanApply c line) s × (opens_again line ≡ true) × (is_down_in t ≡ true) × (is_device why ≡ false)

-- what is said of any line
pub record StateTried {D : Type 0} (m : Meaning D) (s t : PumpState D) (line : ScriptLine) (printed : List Event)
    (stop : Option Stop) : Type 0 where
  pub applies : m.tells → (p : Past) → StandsIn m s p → StateApplies m s t line p printed stop
  pub on : StateAppliesOn m s t line printed stop
  pub ahead : RefusesAheadIn s t line [] printed
  pub serve : DisksGo m (disks_in s).row (disks_in s).low (disks_in s).high (disks_in s).recv (disks_in t).low
      (disks_in t).high (disks_in t).recv stop
  pub row : (disks_in t).row ≡ (disks_in s).row

-- what the line opens again
abbrev pub IsReopened : ScriptLine → Reopening → Type 0
IsReopened line (Relay session m) = line ≡ Restart session m
IsReopened line (Receiver session m) = line ≡ ReceiverRestart session m
IsReopened line Nothing = opens_again line ≡ false
