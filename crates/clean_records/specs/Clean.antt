-- Bytes that are a clean record.
use Rattle.std.specs.Prelude.{ℕ, ◌^◌, ◌<◌, List}
use Rattle.pump_audit.specs.Records.{Record}
use Rattle.pump_audit.specs.Texts.{line_ends}
use Rattle.pump_audit.specs.Verdicts.{IsClean}

abbrev pub IsCleanRecord : List ℕ → Type 0
IsCleanRecord bytes = (r : Record) × IsClean bytes r

-- no record has more lines: the line that would have the number 2^32 is none
abbrev pub HasFewLines : List ℕ → Type 0
HasFewLines bytes = line_ends bytes < 2 ^ 32
