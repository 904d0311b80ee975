-- The row of a session in the file of a table.
use Rattle.std.specs.Prelude.{◌≡◌, ⊤, ℕ, nat_le, ◌==◌, if◌then◌else◌, List, length, find, Option, Some, None, Result}
use Rattle.std.specs.Prelude.{Ok, Err}
use Rattle.pump_frame.specs.Counts.{Rose}
use Rattle.pump_frame.specs.declared.row.SessionRow.{SessionRow}
use Rattle.session_table.specs.declared.fault.TableFault.{TableFault}
use Rattle.session_table.specs.declared.fault.TableFault.TheVariants as faults
use Rattle.session_table.specs.Documents.{table_of}
use Rattle.command_ends.specs.declared.command_end.CommandEnd.{CommandEnd}
use Rattle.command_ends.specs.declared.command_end.CommandEnd.TheVariants.{Memory, Unread, NoRow}
use Rattle.command_ends.specs.declared.no_row.NoRow.{NoRow as NoRowCause}
use Rattle.command_ends.specs.declared.no_row.NoRow.TheVariants.{Refused, TooLong, Absent}

-- the row, or the cause where no row has this session
abbrev pub row_or_absent : ℕ → Option SessionRow → Result SessionRow CommandEnd
row_or_absent session None = Err (NoRow (Absent session))
row_or_absent session (Some row) = Ok row

-- .. or where the table is refused
abbrev pub row_among : ℕ → Result (List SessionRow) TableFault → Result SessionRow CommandEnd
row_among session (Ok rows) = row_or_absent session (find (λ row. row.id == session) rows)
row_among session (Err fault) = Err (NoRow (Refused fault))

-- .. or where the file has more than 65,536 bytes
abbrev pub row_in : List ℕ → ℕ → Result SessionRow CommandEnd
row_in bytes session = if nat_le (length bytes) 65536 then row_among session (table_of bytes) else Err (NoRow TooLong)

-- the answer is what the bytes give, unless memory was wanting or they could not be read
abbrev pub IsRowIn : Result SessionRow CommandEnd → Result SessionRow CommandEnd → Type 0
IsRowIn (Err Memory) given = ⊤
IsRowIn (Err Unread) given = ⊤
IsRowIn answer given = given ≡ answer

-- .. what the file gives, which is there
abbrev pub IsRowOf : Option (List ℕ) → ℕ → Result SessionRow CommandEnd → Type 0
IsRowOf file session (Err Memory) = ⊤
IsRowOf file session (Err Unread) = ⊤
IsRowOf file session answer = (bytes : List ℕ) × (file ≡ Some bytes) × (row_in bytes session ≡ answer)

-- the file gives this row for the session, or no row for this cause
abbrev pub HasRow : Option (List ℕ) → ℕ → SessionRow → Type 0
HasRow file session row = (bytes : List ℕ) × (file ≡ Some bytes) × (row_in bytes session ≡ Ok row)

abbrev pub HasNoRow : Option (List ℕ) → ℕ → NoRowCause → Type 0
HasNoRow file session why = (bytes : List ℕ) × (file ≡ Some bytes) × (row_in bytes session ≡ Err (NoRow why))

-- why a table gives no row; one is not refused for want of memory
abbrev pub IsTableEnd : CommandEnd → Type 0
IsTableEnd Memory = Unit {0}
IsTableEnd Unread = Unit {0}
IsTableEnd (NoRow (Refused faults.Memory)) = ⊥
IsTableEnd (NoRow why) = Unit {0}
IsTableEnd end = ⊥

-- the table gives no row for the session, or could not be read
abbrev pub StopsAtTable : Option (List ℕ) → ℕ → CommandEnd → Type 0
StopsAtTable file session Memory = Unit {0}
StopsAtTable file session Unread = Unit {0}
StopsAtTable file session (NoRow why) = HasNoRow file session why
StopsAtTable file session end = ⊥

-- .. where only a read that failed counts as one; the counts are those of the shelf's files
abbrev pub StopsAtFile : ℕ → ℕ → Option (List ℕ) → ℕ → CommandEnd → Type 0
StopsAtFile faults now_faults file session end = StopsAtTable file session end × (end ≡ Unread → Rose faults now_faults)
