-- The rows of a document, or the first thing that is wrong with it. The order in which things are
-- looked at is the order of the refusals.
use Rattle.std.specs.Prelude.{ℕ, ◌+◌, suc, min, nat_lt, not, ◌&&◌, is_some, Bool, true, if◌then◌else◌, List, [], ◌∷◌}
use Rattle.std.specs.Prelude.{◌++◌, length, Option, None, Some, Result, Ok, Err}
use Rattle.std.specs.Str.{is_utf8}
use Rattle.pump_frame.specs.declared.row.SessionRow.{SessionRow}
use Rattle.pump_frame.specs.declared.row.RowKey.TheVariants.{Session}
use Rattle.session_table.specs.declared.fault.TableFault.{TableFault}
use Rattle.session_table.specs.declared.fault.TableFault.TheVariants.{NotToml, UnknownKey, OutOfRange, TooMany}
use Rattle.session_table.specs.Keys.{key_name, has_other}
use Rattle.session_table.specs.Values.{◌>>=◌, required}
use Rattle.session_table.specs.Rows.{row_of, placed}
use Rattle.toml.specs.Data.{Items, no_items, item, Members, get_member, as_array, as_table}
use Rattle.toml.specs.Parse.{parse_document}

-- `session` is no array of tables
abbrev pub no_tables : TableFault
no_tables = OutOfRange 0 Session None

-- an entry, as the row behind the earlier ones
abbrev pub row_in : List SessionRow → Option Members → Result SessionRow TableFault
row_in earlier None = Err no_tables
row_in earlier (Some members) = row_of (length earlier + 1) members >>= placed (length earlier + 1) earlier

-- the earlier rows, and behind them those of the entries that are left
abbrev pub rows_from : List SessionRow → Items → Result (List SessionRow) TableFault
rows_from earlier no_items = Ok earlier
rows_from earlier (item value rest) = row_in earlier (as_table value) >>= λ row. rows_from (earlier ++ row ∷ []) rest

-- each entry is a table
abbrev pub are_tables : Items → Bool
are_tables no_items = true
are_tables (item value rest) = is_some (as_table value) && are_tables rest

-- the number of entries
abbrev pub entry_count : Items → ℕ
entry_count no_items = 0
entry_count (item value rest) = suc (entry_count rest)

-- The rows of an array: its entries are tables, at most 16, and then come row by row. A refusal has
-- their number in 32 bits.
abbrev pub rows_in : Items → Result (List SessionRow) TableFault
rows_in entries =
    if not (are_tables entries) then Err no_tables
    else if nat_lt 16 (entry_count entries) then Err (TooMany (min (entry_count entries) 4294967295))
    else rows_from [] entries

abbrev pub rows_at : Option Items → Result (List SessionRow) TableFault
rows_at None = Err no_tables
rows_at (Some entries) = rows_in entries

-- the rows of a document: it has no other key than `session`, and has this one
unfoldable pub rows_of : Members → Result (List SessionRow) TableFault
rows_of members =
    if has_other (Session ∷ []) members then Err (UnknownKey 0)
    else required 0 Session (get_member (key_name Session) members) >>= λ value. rows_at (as_array value)

abbrev pub known : Option Members → Result Members TableFault
known None = Err NotToml
known (Some members) = Ok members

-- The document of these bytes: they are UTF-8 and in TOML's grammar.
unfoldable pub document : List ℕ → Result Members TableFault
document bytes = known (if is_utf8 bytes then parse_document bytes else None)

-- the table of these bytes
abbrev pub table_of : List ℕ → Result (List SessionRow) TableFault
table_of bytes = document bytes >>= rows_of
