-- Why a script of two pumps in a row stops.
use Rattle.std.specs.Prelude.{◌≡◌, ◌⊎◌, ℕ, ◌-◌, ◌^◌, List, Option, None, Some, IfSome}
use Rattle.std.specs.Io.KnownBytes.{IsAtEnd}
use Rattle.disk_model.specs.declared.name.Role.{Role}
use Rattle.disk_model.specs.declared.name.Role.TheVariants as roles
use Rattle.pump_chain.specs.Chained.{Chained, share}
use Rattle.pump_chain.specs.Standing.{ChainBreaks, ChainOverfills}
use Rattle.pump_chain.specs.declared.not_chained.ChainWhy.{ChainWhy}
use Rattle.pump_chain.specs.declared.not_chained.ChainWhy.TheVariants as reasons
use Rattle.pump_frame.specs.Counts.{Rose}
use Rattle.script_reader.specs.declared.event.Event.{Event}
use Rattle.script_reader.specs.declared.fault.Fault.{Fault}
use Rattle.script_reader.specs.declared.fault.Fault.TheVariants as faults
use Rattle.script_reader.specs.declared.line.Line.{Line}
use Rattle.script_reader.specs.declared.line.Line.TheVariants as lines
use Rattle.script_reader.specs.Faults.{IsFaultyBy}
use Rattle.script_reader.specs.Lines.{IsSome}
use Rattle.script_reader.specs.Sessions.{session_in}
use Rattle.script_replay.specs.Replays.{fault_after, IsNear, IsWithinLine}
use Rattle.script_replay.specs.Runners.{fault_of}
use Rattle.chain_replay.specs.Scripts.{Begun, Refuses, LacksPump}

-- ---- what is no line of a script ----

-- after so many lines: the next one is outside the grammar or can't be applied, or would have the number 2^32; or
-- there is none, and fewer than two pumps have begun
abbrev pub IsFaultyAt : ℕ → Option (List ℕ) → Begun → Type 0
IsFaultyAt number rest begun = IsFaultyBy (Refuses begun) rest
    ⊎ (((number ≡ 2 ^ 32 - 1) × IfSome rest IsSome)
    ⊎ (IsAtEnd rest × LacksPump begun))

-- it is not read on, with this fault: a read failed, and every whole line that was taken was replayed; or it is faulty
-- there, and at most 4,096 bytes were taken from the faulty line on
abbrev pub IsHalted : (rest left : Option (List ℕ)) → (number was now : ℕ) → Begun → Fault → Type 0
IsHalted rest left number was now begun faults.Read = Rose was now × IsWithinLine rest left
IsHalted rest left number was now begun (faults.Script line) =
    IsFaultyAt number rest begun × IsNear rest left × (faults.Script line ≡ fault_after number)
IsHalted rest left number was now begun fault = ⊥

-- ---- a line of the chain ----

-- the session that a line names, or the first one where it names none
abbrev pub session_or : ℕ → Line → ℕ
session_or first line = session_given first (session_in line)
  where
    session_given : ℕ → Option ℕ → ℕ
    session_given first None = first
    session_given first (Some session) = session

-- the session whose disk of this role fails in a line: at a `step` the receiver's disk is the first session's, from
-- which the message is read that is to be sent on
abbrev pub broken_in : ℕ → Line → Role → ℕ
broken_in first (lines.Step session m w) roles.Recv = first
broken_in first line role = session_or first line

-- the line can be applied, and stops the chain with this fault, after it has led to d and printed this: a disk fails in
-- it, or its message does not fit at a receiver
abbrev pub ChainStops : ℕ → Chained → Line → Chained → List Event → Fault → Type 0
ChainStops first c line d printed (faults.Device session role) = ChainBreaks c (share c line) role d printed
    × (session ≡ broken_in first line role)
ChainStops first c line d printed (faults.Full session end length size) = ChainOverfills c (share c line) d printed end
    length size × (session ≡ session_or first line)
ChainStops first c line d printed fault = ⊥

-- the disk that a fault names failed, where `fails` says which did
abbrev pub NamesWhatFailed : (ℕ → Role → Type 0) → Fault → Type 0
NamesWhatFailed fails (faults.Device session role) = fails session role
NamesWhatFailed fails fault = Unit {0}

-- ---- two pumps that make no chain ----

-- the fault of this cause: two pumps that are not linked are the second one's low disk's; none where memory was wanting
abbrev pub chain_fault : ℕ → ChainWhy → Option Fault
chain_fault second reasons.Memory = None
chain_fault second (reasons.Pump session role why) = Some (fault_of session role why)
chain_fault second (reasons.Link count bound) = Some (faults.Disk second roles.Low 12 count bound)
chain_fault second (reasons.Unlike number) = Some (faults.Disk second roles.Low 13 number 0)
