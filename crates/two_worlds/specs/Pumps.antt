-- What a pump stands for, and what a line of a script does to it.
use Rattle.std.specs.Prelude.{◌≡◌, ◌⊎◌, ℕ, Bool, true, false, List, [], Option, Some, None}
use Rattle.disk_model.specs.Disk.{Meaning}
use Rattle.disk_model.specs.declared.name.Role.{Role}
use Rattle.pump_frame.specs.declared.row.SessionRow.{SessionRow}
use Rattle.recovery.specs.Calls.{is_device}
use Rattle.script_reader.specs.declared.event.Event.{Event}
use Rattle.script_reader.specs.declared.line.Line.{Line as ScriptLine}
use Rattle.script_reader.specs.Past.{Past}
use Rattle.script_reader.specs.Steps.{is_timely, LineStep, IsRefusedWhole, Overfills}
use Rattle.script_reader.specs.Breaks.{Breaks}
use Rattle.two_worlds.specs.declared.applied.Stop.{Stop}
use Rattle.two_worlds.specs.declared.applied.Stop.TheVariants.{Line, Device, Full, Disk}
use Rattle.two_worlds.specs.declared.pump.Pump.{Pump}
use Rattle.two_worlds.specs.declared.pump.state.BareDisks.{BareDisks}
use Rattle.two_worlds.specs.Standing.{bare_disk}
use Rattle.two_worlds.specs.States.{disks_in, counts_in, is_down_in, kept_moment_in, IsOpenWith, StandsIn}
use Rattle.two_worlds.specs.States.{RefusesAheadIn}
use Rattle.two_worlds.specs.Doing.{Fails, LeavesFit}
use Rattle.world_laws.specs.Timelines.{IsTimeline, RunGoesOn}
use Rattle.two_worlds.specs.Timely as timely
use Rattle.two_worlds.specs.Working as working
use Rattle.pump_core.specs.Timed.{Step as TimedStep, Point}

-- its three disks
abbrev pub disks_of : {D : Type 0} {g : _} → Pump D g → BareDisks D
disks_of s = disks_in s.state

-- the row that the pump was made for
abbrev pub row_of : {D : Type 0} {g : _} → Pump D g → SessionRow
row_of s = (disks_of s).row

-- the pump stands for what the session has been through
abbrev pub StandsFor : {D : Type 0} {g : _} → Meaning D → Pump D g → Past → Type 0
StandsFor m s p = StandsIn m s.state p

-- a call of one of its disks failed, or the pump is shut
abbrev pub is_down : {D : Type 0} {g : _} → Pump D g → Bool
is_down s = is_down_in s.state

-- the moment of the last line that had one, whatever the disks tell
abbrev pub kept_moment : {D : Type 0} {g : _} → Pump D g → ℕ
kept_moment s = kept_moment_in s.state

-- how many messages were accepted, removed, and taken by the receiver, whatever the disks tell
abbrev pub counts_of : {D : Type 0} {g : _} → Pump D g → ℕ × ℕ × ℕ
counts_of s = counts_in s.state

-- the disk of a role
abbrev pub disk_at : {D : Type 0} {g : _} → Role → Pump D g → D
disk_at role s = bare_disk role (disks_of s)

-- the disk of this role failed: the pump is down, and its disks fit the world, in which the call is
-- unfinished
abbrev pub FailsAt : {D : Type 0} {g : _} → Meaning D → Pump D g → Past → Role → ℕ → Type 0
FailsAt m t q role faults = (is_down t ≡ true) × Fails m (disks_of t) q role faults

-- the pump stands for this, or came to this when one of its disks failed
abbrev pub StandsOrFails : {D : Type 0} {g : _} → Meaning D → Pump D g → Past → Type 0
StandsOrFails m s p = StandsFor m s p ⊎ ((role : Role) × (faults : ℕ) × FailsAt m s p role faults)

-- whatever timed run came to the past p goes on to q by the line
abbrev pub GoesOnTimed : SessionRow → Past → ScriptLine → Past → Type 0
GoesOnTimed row p line q = (steps : List TimedStep) (point : Point) → IsTimeline row p steps point
    → RunGoesOn row p line steps q

-- A line was given to s, which stood for p, and left it as t. It can be applied, and leads to what t
-- stands for and prints this, and any timed run of the session goes on to the same; or it can't be, and
-- nothing is printed or changed; or it is cut short by the device of a disk; or its message does not fit at
-- the receiver, and t stands for what it led to before. A crash at any moment of the line leaves of each
-- disk what fits the world before it or the one that it led to. No disk is refused.
abbrev pub Applies : {D : Type 0} {g : _} → Meaning D → Pump D g → Pump D g → ScriptLine → Past → List Event
    → Option Stop → Type 0
Applies m s t line p printed None =
    (is_timely (row_of s) p line ≡ true)
    × ((q : Past) × LineStep (row_of s) p line q printed × StandsFor m t q
    × LeavesFit m (disks_of s) (disks_of t) p q × GoesOnTimed (row_of s) p line q)
Applies m s t line p printed (Some Line) = IsRefusedWhole (row_of s) p line × (printed ≡ []) × (t ≡ s)
Applies m s t line p printed (Some (Device role faults)) =
    (is_timely (row_of s) p line ≡ true)
    × ((q : Past) × Breaks (row_of s) p line role q printed × FailsAt m t q role faults
    × LeavesFit m (disks_of s) (disks_of t) p q)
Applies m s t line p printed (Some (Full end length size)) =
    (is_timely (row_of s) p line ≡ true)
    × ((q : Past) × Overfills (row_of s) p line q printed end length size × StandsFor m t q
    × LeavesFit m (disks_of s) (disks_of t) p q)
Applies m s t line p printed (Some (Disk role why)) = ⊥

-- the line can be applied, by what the pump keeps of the lines before; or it can't be
abbrev pub CanApply : {D : Type 0} {g : _} → Pump D g → ScriptLine → Type 0
CanApply s line = IsOpenWith (λ c. timely.CanApply c line) s.state

abbrev pub CannotApply : {D : Type 0} {g : _} → Pump D g → ScriptLine → Type 0
CannotApply s line = IsOpenWith (λ c. timely.CannotApply c line) s.state

-- where the packet of this line is refused, by what the pump keeps, nothing is printed, and no disk is changed
abbrev pub RefusesAhead : {D : Type 0} {g : _} → Pump D g → Pump D g → ScriptLine → List Event → Type 0
RefusesAhead s t line printed = RefusesAheadIn s.state t.state line [] printed

-- a message of this length would end past the size of the receiver's disk, whose records end here
abbrev pub IsTooLong : {D : Type 0} {g : _} → Pump D g → ℕ → ℕ → ℕ → Type 0
IsTooLong s end length size = IsOpenWith (λ c. working.IsTooLong c end length size) s.state

-- A line was given to s and left it as t, whatever the disks tell. It can be applied; or it can't be, and
-- nothing is printed or changed; or the device of a disk failed; or its message is too long for the
-- receiver's disk; or it opens a disk again that is refused.
abbrev pub AppliesOn : {D : Type 0} {g : _} → Meaning D → Pump D g → Pump D g → ScriptLine → List Event → Option Stop
    → Type 0
AppliesOn m s t line printed None = CanApply s line
AppliesOn m s t line printed (Some Line) = CannotApply s line × (printed ≡ []) × (t ≡ s)
AppliesOn m s t line printed (Some (Device role faults)) = CanApply s line × (is_down t ≡ true)
    × (faults ≡ m.count (disk_at role t))
AppliesOn m s t line printed (Some (Full end length size)) = CanApply s line × IsTooLong t end length size
AppliesOn m s t line printed (Some (Disk role why)) = CanApply s line × (timely.opens_again line ≡ true)
    × (is_down t ≡ true) × (is_device why ≡ false)
