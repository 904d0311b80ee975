-- A line's head and the bytes that come with it are a line.
use Rattle.std.specs.Prelude.{ℕ, ◌≤◌, List, [], length}
use Rattle.script_reader.specs.declared.line.Line.{Line}
use Rattle.script_reader.specs.declared.line.Line.TheVariants as line
use Rattle.script_reader.specs.declared.line.Arriving.{Arriving}
use Rattle.script_reader.specs.declared.line.Arriving.TheVariants as arriving
use Rattle.script_reader.specs.declared.head.ArrivingHead.{ArrivingHead}
use Rattle.script_reader.specs.declared.head.ArrivingHead.TheVariants.{Nothing, Hello, Data, Raw}
use Rattle.script_reader.specs.declared.lines.Lined.{Lined}
use Rattle.script_reader.specs.declared.lines.Lined.TheVariants as lined
use Rattle.script_reader.specs.declared.head.LinedHead.{LinedHead}
use Rattle.script_reader.specs.declared.head.LinedHead.TheVariants as heads
use Rattle.script_reader.specs.declared.head.Act.{Act}
use Rattle.script_reader.specs.declared.head.Act.TheVariants.{Look, Told, Step, Gone, High, Return, Done, Restart}
use Rattle.script_reader.specs.declared.head.Act.TheVariants.{ReceiverRestart}
use Rattle.script_reader.specs.declared.head.LineHead.{LineHead}
use Rattle.script_reader.specs.declared.head.LineHead.TheVariants.{Skip, Session, LowSession, Coarse, Carry, At}

abbrev pub arriving_with : List ℕ → ArrivingHead → Arriving
arriving_with bytes Nothing = arriving.Nothing
arriving_with bytes (Hello low high) = arriving.Hello low high
arriving_with bytes (Data number) = arriving.Data number bytes
arriving_with bytes Raw = arriving.Raw (record { items = bytes })

-- the line of a session and a moment
abbrev pub act_with : List ℕ → ℕ → ℕ → Act → Line
act_with bytes session moment (Look word arrival) = line.Look session moment word (arriving_with bytes arrival)
act_with bytes session moment (Told word fault feedback arrival) = line.Told session moment word fault feedback
    (arriving_with bytes arrival)
act_with bytes session moment (Step word) = line.Step session moment word
act_with bytes session moment Gone = line.Gone session moment
act_with bytes session moment High = line.High session moment
act_with bytes session moment (Return back) = line.Return session moment back
act_with bytes session moment (Done time) = line.Done session moment time
act_with bytes session moment Restart = line.Restart session moment
act_with bytes session moment ReceiverRestart = line.ReceiverRestart session moment

abbrev pub line_with : List ℕ → LineHead → Line
line_with bytes Skip = line.Skip
line_with bytes (Session row) = line.Session row
line_with bytes (LowSession row next held) = line.LowSession row next held
line_with bytes (Coarse session) = line.Coarse session
line_with bytes (Carry session back) = line.Carry session back
line_with bytes (At session moment act) = act_with bytes session moment act

-- a payload has at most 1024 bytes, and raw bytes are at most 1042
abbrev pub CanHold : ArrivingHead → List ℕ → Type 0
CanHold Nothing bytes = Unit {0}
CanHold (Hello low high) bytes = Unit {0}
CanHold (Data number) bytes = length bytes ≤ 1024
CanHold Raw bytes = length bytes ≤ 1042

abbrev pub CanHoldAct : Act → List ℕ → Type 0
CanHoldAct (Look word arrival) bytes = CanHold arrival bytes
CanHoldAct (Told word fault feedback arrival) bytes = CanHold arrival bytes
CanHoldAct _ bytes = Unit {0}

abbrev pub CanHoldLine : LineHead → List ℕ → Type 0
CanHoldLine (At session moment act) bytes = CanHoldAct act bytes
CanHoldLine _ bytes = Unit {0}

abbrev pub lined_with : List ℕ → LinedHead → Lined
lined_with bytes (heads.Line line) = lined.Line (line_with bytes line)
lined_with bytes heads.Bad = lined.Bad
lined_with bytes heads.End = lined.End
lined_with bytes heads.Failed = lined.Failed

abbrev pub CanHoldNext : LinedHead → List ℕ → Type 0
CanHoldNext (heads.Line line) bytes = CanHoldLine line bytes
CanHoldNext heads.Bad bytes = Unit {0}
CanHoldNext heads.End bytes = Unit {0}
CanHoldNext heads.Failed bytes = Unit {0}

-- the bytes that come with a line
abbrev pub bytes_in : Arriving → List ℕ
bytes_in arriving.Nothing = []
bytes_in (arriving.Hello low high) = []
bytes_in (arriving.Data number payload) = payload
bytes_in (arriving.Raw bytes) = bytes.items

abbrev pub bytes_of : Line → List ℕ
bytes_of (line.Look session moment word arrival) = bytes_in arrival
bytes_of (line.Told session moment word fault feedback arrival) = bytes_in arrival
bytes_of _ = []
