-- The lines that a reader gives: their numbers are in the ranges of the grammar.
use Rattle.std.specs.Prelude.{◌≡◌, ◌^◌, ◌<◌, ◌≤◌, false, length}
use Rattle.pump_frame.specs.declared.row.SessionRow.{SessionRow}
use Rattle.script_reader.specs.declared.line.Line.{Line}
use Rattle.script_reader.specs.declared.line.Line.TheVariants.{Skip, Session, LowSession, Coarse, Look, Told, Step}
use Rattle.script_reader.specs.declared.line.Line.TheVariants.{Gone, High, Carry, Return, Done, Restart}
use Rattle.script_reader.specs.declared.line.Line.TheVariants.{ReceiverRestart}
use Rattle.script_reader.specs.declared.line.ToldFeedback.{ToldFeedback}
use Rattle.script_reader.specs.declared.line.ToldFeedback.TheVariants.{Quiet, Full, Pair}
use Rattle.script_reader.specs.Grammar.{IsCount}
use Rattle.script_reader.specs.declared.line.Arriving.{Arriving}
use Rattle.script_reader.specs.declared.line.Arriving.TheVariants.{Nothing, Hello, Data, Raw}

-- the number of a DATA is below 2^48, and at least one byte comes
abbrev pub IsLawfulArriving : Arriving → Type 0
IsLawfulArriving Nothing = Unit {0}
IsLawfulArriving (Hello low high) = Unit {0}
IsLawfulArriving (Data number payload) = number < 2 ^ 48
IsLawfulArriving (Raw bytes) = 0 < length bytes.items

-- an average is at most 10^9
abbrev pub IsLawfulFeedback : ToldFeedback → Type 0
IsLawfulFeedback Quiet = Unit {0}
IsLawfulFeedback Full = Unit {0}
IsLawfulFeedback (Pair count average) = average ≤ 10 ^ 9

-- a row as a line tells it: without ports, and not coarse
abbrev pub IsTold : SessionRow → Type 0
IsTold row = (row.low_port ≡ 0) × (row.high_port ≡ 0) × (row.coarse ≡ false)

-- moments are at most 2^62, times at most 10^9, and a row is told as a line tells it
abbrev pub IsLawfulLine : Line → Type 0
IsLawfulLine Skip = Unit {0}
IsLawfulLine (Session row) = IsTold row
IsLawfulLine (LowSession row next held) = IsTold row × IsCount next held
IsLawfulLine (Coarse session) = Unit {0}
IsLawfulLine (Look session moment word arrival) = (moment ≤ 2 ^ 62) × IsLawfulArriving arrival
IsLawfulLine (Told session moment word fault feedback arrival) =
    (moment ≤ 2 ^ 62) × IsLawfulFeedback feedback × IsLawfulArriving arrival
IsLawfulLine (Gone session moment) = moment ≤ 2 ^ 62
IsLawfulLine (High session moment) = moment ≤ 2 ^ 62
IsLawfulLine (Carry session back) = Unit {0}
IsLawfulLine (Return session moment back) = moment ≤ 2 ^ 62
IsLawfulLine (Done session moment time) = (moment ≤ 2 ^ 62) × (time ≤ 10 ^ 9)
IsLawfulLine (Restart session moment) = moment ≤ 2 ^ 62
IsLawfulLine (ReceiverRestart session moment) = moment ≤ 2 ^ 62
IsLawfulLine (Step session moment word) = moment ≤ 2 ^ 62
