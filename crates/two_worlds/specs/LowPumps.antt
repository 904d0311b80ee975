-- A low side alone on a disk in memory: the words of its contracts.
use Rattle.std.specs.Prelude.{◌≡◌, ℕ, Bool, true, false, List, [], Option, Some, None}
use Rattle.disk_model.specs.declared.name.Role.TheVariants as roles
use Rattle.pump_frame.specs.declared.row.SessionRow.{SessionRow}
use Rattle.low_process.specs.Looks.{is_down}
use Rattle.script_reader.specs.declared.event.Event.{Event}
use Rattle.script_reader.specs.declared.line.Line.{Line}
use Rattle.script_reader.specs.Alone.{PastAlone, is_apt_alone, StepAlone, IsRefusedAlone}
use Rattle.two_worlds.specs.LowPumpParts.{PartsStand, disk_of}
use Rattle.two_worlds.specs.declared.applied.Stop.{Stop}
use Rattle.two_worlds.specs.declared.applied.Stop.TheVariants as stops
use Rattle.two_worlds.specs.declared.low_pump.LowPump.{LowPump}

-- the row that the pump was made for
abbrev pub low_row_of : LowPump → SessionRow
low_row_of pump = pump.parts.row

-- the pump stands for this past
abbrev pub LowStandsFor : LowPump → PastAlone → Type 0
LowStandsFor pump p = PartsStand pump.parts p

-- a call of the pump's disk failed
abbrev pub low_is_down : LowPump → Bool
low_is_down pump = is_down pump.parts.process

-- how often a call of the pump's disk failed
abbrev pub low_faults_of : LowPump → ℕ
low_faults_of pump = (disk_of pump.parts).faults

-- A line was given to `old`, which stood for p, and left it as `new`: the line can be applied, and leads
-- to what `new` stands for and prints this; or it can't be, and nothing is printed or changed; or it can
-- be, and the disk failed in it.
abbrev pub AppliesAlone : LowPump → LowPump → Line → PastAlone → List Event → Option Stop → Type 0
AppliesAlone old new line p printed None =
    (is_apt_alone (low_row_of old) p line ≡ true)
    × ((q : PastAlone) × StepAlone (low_row_of old) p line false q printed × LowStandsFor new q)
AppliesAlone old new line p printed (Some stops.Line) =
    IsRefusedAlone (low_row_of old) p line × (printed ≡ []) × (new ≡ old)
AppliesAlone old new line p printed (Some (stops.Device roles.Low faults)) =
    (is_apt_alone (low_row_of old) p line ≡ true)
    × ((q : PastAlone) × StepAlone (low_row_of old) p line true q printed)
    × (low_is_down new ≡ true) × (faults ≡ low_faults_of new)
AppliesAlone old new line p printed (Some (stops.Device roles.High faults)) = ⊥
AppliesAlone old new line p printed (Some (stops.Device roles.Recv faults)) = ⊥
AppliesAlone old new line p printed (Some (stops.Full end size_of_message size)) = ⊥
AppliesAlone old new line p printed (Some (stops.Disk role why)) = ⊥

-- a disk stopped the line: a call of it failed, or it was refused
abbrev pub stops_at_disk : Option Stop → Bool
stops_at_disk (Some (stops.Device role faults)) = true
stops_at_disk (Some (stops.Disk role why)) = true
stops_at_disk (Some stops.Line) = false
stops_at_disk (Some (stops.Full end size_of_message size)) = false
stops_at_disk None = false
