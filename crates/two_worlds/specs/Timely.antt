-- Which lines can be applied to the parts of a pump, by what they keep.
use Rattle.std.specs.Prelude.{◌≡◌, ◌⊎◌, ◌+◌, ◌^◌, ◌<◌, ◌≤◌, Bool, true, false, ◌&&◌, ◌||◌, not, ◌==◌, nat_lt, nat_le}
use Rattle.std.specs.Prelude.{length, is_some}
use Rattle.high_process.specs.States as high
use Rattle.passage.specs.Plain.{held_in}
use Rattle.script_reader.specs.declared.line.Line.{Line as ScriptLine}
use Rattle.script_reader.specs.declared.line.Line.TheVariants as lines
use Rattle.script_reader.specs.Steps.{LineComing, Arrives}
use Rattle.two_worlds.specs.Connections.{waits_of, reading_of, joined}
use Rattle.two_worlds.specs.declared.pump.parts.Parts.{Parts}

-- a high look without a TAKEN leaves a message in the high hand
abbrev pub goes_on_by : {D : Type 0} → Parts D → Bool
goes_on_by c = is_some (high.hand_of c.high) || nat_lt 0 (length (held_in c.ends))

-- as `is_timely`, by what the parts keep
abbrev pub is_timely_by : {D : Type 0} → Parts D → ScriptLine → Bool
is_timely_by c lines.Skip = false
is_timely_by c (lines.Session other) = false
is_timely_by c (lines.LowSession other next held) = false
is_timely_by c (lines.Coarse session) = false
is_timely_by c (lines.Told session m w fault told a) = false
is_timely_by c (lines.Step session m w) = false
is_timely_by c (lines.Look session m w a) = session == c.row.id && nat_le c.moment m
is_timely_by c (lines.Gone session m) = session == c.row.id && nat_le c.moment m
is_timely_by c (lines.High session m) = session == c.row.id && nat_le c.moment m
is_timely_by c (lines.Restart session m) = session == c.row.id && nat_le c.moment m
is_timely_by c (lines.ReceiverRestart session m) = session == c.row.id && nat_le c.moment m
is_timely_by c (lines.Carry session back) = session == c.row.id && nat_lt back (length c.sent.items)
is_timely_by c (lines.Return session m back) =
    session == c.row.id && (nat_le c.moment m && nat_lt back (length c.returned.items))
is_timely_by c (lines.Done session m t) =
    session == c.row.id && (nat_le c.moment m && (not (goes_on_by c) || nat_le (m + t) (2 ^ 62)))

-- the line opens disks again
abbrev pub opens_again : ScriptLine → Bool
opens_again lines.Skip = false
opens_again (lines.Session other) = false
opens_again (lines.LowSession other next held) = false
opens_again (lines.Coarse session) = false
opens_again (lines.Told session m w fault told a) = false
opens_again (lines.Step session m w) = false
opens_again (lines.Look session m w a) = false
opens_again (lines.Gone session m) = false
opens_again (lines.High session m) = false
opens_again (lines.Carry session back) = false
opens_again (lines.Return session m back) = false
opens_again (lines.Done session m t) = false
opens_again (lines.Restart session m) = true
opens_again (lines.ReceiverRestart session m) = true

-- as `IsCrowded`: with what comes with the line, more than 64 arrivals would wait
abbrev pub IsCrowdedBy : {D : Type 0} → Parts D → ScriptLine → Type 0
IsCrowdedBy c (lines.Look session m w a) =
    (k : LineComing) × Arrives session (reading_of c.connection) a k × (64 < length (waits_of (joined c.connection k)))
IsCrowdedBy c line = ⊥

-- .. or at most 64 wait
abbrev pub IsUncrowdedBy : {D : Type 0} → Parts D → ScriptLine → Type 0
IsUncrowdedBy c (lines.Look session m w a) =
    (k : LineComing) × Arrives session (reading_of c.connection) a k × (length (waits_of (joined c.connection k)) ≤ 64)
IsUncrowdedBy c line = Unit {0}

-- the line can be applied
abbrev pub CanApply : {D : Type 0} → Parts D → ScriptLine → Type 0
CanApply c line = (is_timely_by c line ≡ true) × IsUncrowdedBy c line

-- it can't be
abbrev pub CannotApply : {D : Type 0} → Parts D → ScriptLine → Type 0
CannotApply c line = (is_timely_by c line ≡ false) ⊎ IsCrowdedBy c line
