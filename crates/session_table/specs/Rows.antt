-- A row of a document: by itself, and beside the rows before it.
use Rattle.std.specs.Prelude.{ℕ, pos, is_some, ◌||◌, ◌==◌, Bool, false, if◌then◌else◌, List, Some, Result, Ok, Err}
use Rattle.std.specs.List.{list_any}
use Rattle.pump_frame.specs.Rows.{least_capacity, first_bad}
use Rattle.pump_frame.specs.declared.row.SessionRow.{SessionRow}
use Rattle.pump_frame.specs.declared.row.RowKey.{RowKey}
use Rattle.pump_frame.specs.declared.row.RowKey.TheVariants.{Id, Low, High, Capacity, Message, Window, Start, Longest}
use Rattle.pump_frame.specs.declared.row.RowKey.TheVariants.{Resend, LowPort, HighPort, Coarse}
use Rattle.session_table.specs.declared.fault.TableFault.{TableFault}
use Rattle.session_table.specs.declared.fault.TableFault.TheVariants.{UnknownKey, OutOfRange, TwiceId, TwicePort}
use Rattle.session_table.specs.Keys.{row_keys, has_other}
use Rattle.session_table.specs.Values.{◌>>=◌, whole_at, name_at, truth_at}
use Rattle.toml.specs.Data.{Members}

-- A row of these three. Its numbers are some that are in their ranges; the document's own replace
-- them one by one.
abbrev pub begun : ℕ → List ℕ → List ℕ → SessionRow
begun id low high = record {
  id = id;
  low = low;
  high = high;
  capacity = least_capacity;
  message = 1;
  window = 1;
  start = 0;
  longest = 0;
  resend = 1;
  low_port = 1;
  high_port = 1;
  coarse = false;
}

-- the row with this number at this key
abbrev pub with_number : SessionRow → RowKey → ℕ → SessionRow
with_number row Capacity number = record row { capacity = number }
with_number row Message number = record row { message = number }
with_number row Window number = record row { window = number }
with_number row Start number = record row { start = number }
with_number row Longest number = record row { longest = number }
with_number row Resend number = record row { resend = number }
with_number row _ number = row

-- The row with the document's number at this key. The number is out of range where the row is then
-- no longer lawful.
abbrev pub filled : ℕ → Members → RowKey → SessionRow → Result SessionRow TableFault
filled place members key row =
    whole_at place key 0 4294967295 members >>= λ number.
    if is_some (first_bad (with_number row key number)) then Err (OutOfRange place key (Some (pos number)))
    else Ok (with_number row key number)

-- the row with the document's six numbers that have a range of their own
unfoldable pub numbered : ℕ → Members → SessionRow → Result SessionRow TableFault
numbered place members row =
    filled place members Capacity row
    >>= filled place members Message
    >>= filled place members Window
    >>= filled place members Start
    >>= filled place members Longest
    >>= filled place members Resend

-- a row of the document's id and names
unfoldable pub named : ℕ → Members → Result SessionRow TableFault
named place members = do
  id ← whole_at place Id 0 4294967295 members
  low ← name_at place Low members
  high ← name_at place High members
  Ok (begun id low high)

-- the row with the document's ports, and whether it is coarse
unfoldable pub ported : ℕ → Members → SessionRow → Result SessionRow TableFault
ported place members row = do
  low_port ← whole_at place LowPort 1 65535 members
  high_port ← whole_at place HighPort 1 65535 members
  coarse ← truth_at place Coarse members
  Ok (record row { low_port = low_port; high_port = high_port; coarse = coarse })

-- a row by itself: no other key, then each key in its order, of which the last may be left out
unfoldable pub row_of : ℕ → Members → Result SessionRow TableFault
row_of place members =
    if has_other row_keys members then Err (UnknownKey place)
    else named place members >>= numbered place members >>= ported place members

-- an earlier row has this id, or this port
abbrev pub has_id : List SessionRow → ℕ → Bool
has_id earlier id = list_any (λ row. row.id == id) earlier

abbrev pub has_port : List SessionRow → ℕ → Bool
has_port earlier port = list_any (λ row. row.low_port == port || row.high_port == port) earlier

-- a row beside those before it: its id and its two ports are its own
unfoldable pub placed : ℕ → List SessionRow → SessionRow → Result SessionRow TableFault
placed place earlier row =
    if has_id earlier row.id then Err (TwiceId place row.id)
    else if has_port earlier row.low_port then Err (TwicePort place row.low_port)
    else if has_port earlier row.high_port || row.high_port == row.low_port then Err (TwicePort place row.high_port)
    else Ok row
