-- What the fault line has of a session that has no row.
use Rattle.std.specs.Prelude.{ℕ, List, [], ◌∷◌, codes, decimal}
use Rattle.script_reader.specs.Transcript.{line_with_end}
use Rattle.session_table.specs.Faults.{fault_number, fault_row}
use Rattle.command_ends.specs.declared.no_row.NoRow.{NoRow}
use Rattle.command_ends.specs.declared.no_row.NoRow.TheVariants.{Refused, TooLong, Absent, Short, Same}

-- a number for the cause
abbrev pub no_row_number : NoRow → ℕ
no_row_number (Refused fault) = fault_number fault
no_row_number TooLong = 10
no_row_number (Absent session) = 11
no_row_number (Short session) = 12
no_row_number (Same session) = 13

-- the row of the table that it is about, or else the session; 0 where it is about neither
abbrev pub no_row_row : NoRow → ℕ
no_row_row (Refused fault) = fault_row fault
no_row_row TooLong = 0
no_row_row (Absent session) = session
no_row_row (Short session) = session
no_row_row (Same session) = session

-- the fault of a table that gives no row
abbrev pub table_line : NoRow → List ℕ
table_line why = line_with_end (codes "fault" ∷ codes "table" ∷ decimal (no_row_number why) ∷ decimal (no_row_row
    why) ∷ [])
