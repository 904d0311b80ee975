-- Reading a line field by field, as the code does it. Of what is public only the clauses of `Fields` name it;
-- proofs/LineLaws.antt ties it to the grammar.
use Rattle.std.specs.Prelude.{◌≡◌, ℕ, ◌+◌, ◌^◌, ◌/◌, ◌≤◌, ◌==◌, slice_index, ◌&&◌, nat_lt, nat_le, Bool, true, false}
use Rattle.std.specs.Prelude.{if◌then◌else◌, List, [], ◌∷◌, length, take, drop, position, codes, decimal, Option, None}
use Rattle.std.specs.Prelude.{Some, Result, Ok, Err}
use Rattle.std.specs.List.{slice_split, list_all}
use Rattle.std.specs.Str.{bytes_eq}
use Rattle.std.specs.Str.Parse.{digits_value}
use Rattle.std.specs.Int.{from_be_bytes, w32}
use Rattle.hex.specs.Hex.{decode_sized}
use Rattle.arrayvec.specs.ArrayVec.{ArrayVec}
use Rattle.hex.specs.declared.FromHexError.{FromHexError}
use Rattle.pump_frame.specs.Names.{is_name_byte}
use Rattle.pump_frame.specs.declared.row.SessionRow.{SessionRow}
use Rattle.script_reader.specs.Fields.{is_space}
use Rattle.script_reader.specs.declared.line.Line.{Line}
use Rattle.script_reader.specs.declared.line.Line.TheVariants.{Skip, Session, LowSession, Coarse, Look, Told, Step}
use Rattle.script_reader.specs.declared.line.Line.TheVariants.{Gone, High, Carry, Return, Done, Restart}
use Rattle.script_reader.specs.declared.line.Line.TheVariants.{ReceiverRestart}
use Rattle.script_reader.specs.declared.line.ToldFeedback.{ToldFeedback}
use Rattle.script_reader.specs.declared.line.ToldFeedback.TheVariants.{Quiet, Full, Pair}
use Rattle.script_reader.specs.declared.line.Arriving.{Arriving}
use Rattle.script_reader.specs.declared.line.Arriving.TheVariants.{Nothing, Hello, Data, Raw}

infixl 10 ◌>>=◌
abbrev pub ◌>>=◌ : {A B : Type 0} → Option A → (A → Option B) → Option B
(Some x) >>= f = f x
None >>= f = None

abbrev pub with_rest : {A : Type 0} → Option A → List (List ℕ) → Option (A × List (List ℕ))
with_rest None rest = None
with_rest (Some x) rest = Some (x, rest)

-- the first field that is left, read by `read`, and the fields after it
abbrev pub field_at : {A : Type 0} → (List ℕ → Option A) → List (List ℕ) → Option (A × List (List ℕ))
field_at read [] = None
field_at read (field ∷ fields) = with_rest (read field) fields

-- What a reader of one field answered, and the fields that it left, are what reading gives.
abbrev pub Reads : {A : Type 0} → Option A → List (List ℕ) → Option (A × List (List ℕ)) → Type 0
Reads None left read = read ≡ None
Reads (Some x) left read = read ≡ Some (x, left)

-- it begins with a digit, and 0 stands alone
pub record IsPlain (field : List ℕ) : Type 0 where
  pub low : 48 ≤ slice_index field 0
  pub high : slice_index field 0 ≤ 57
  pub alone : slice_index field 0 ≡ 48 → length field ≡ 1

-- the number below the bound whose digits the field is
unfoldable pub number : ℕ → List ℕ → Option ℕ
number bound field =
    if bytes_eq (decimal (digits_value 10 field)) field && nat_lt (digits_value 10 field) bound then Some
    (digits_value 10 field) else None

abbrev pub word_from : Result (List ℕ) FromHexError → Option ℕ
word_from (Ok bytes) = Some (from_be_bytes w32 bytes)
word_from (Err e) = None

unfoldable pub word : List ℕ → Option ℕ
word field = word_from (decode_sized field 4)

unfoldable pub name : List ℕ → Option (List ℕ)
name field = if nat_lt 0 (length field) && (nat_le (length field) 32 && list_all is_name_byte field) then Some field
    else None

abbrev pub at_end : {A : Type 0} → A → List (List ℕ) → Option A
at_end x [] = Some x
at_end x (field ∷ fields) = None

-- the five last fields of a row, and the fields after them
unfoldable pub row_behind : ℕ → ℕ → ℕ → ℕ → List (List ℕ) → Option (SessionRow × List (List ℕ))
row_behind id capacity message window fields = do
  start ← field_at (number (2 ^ 32)) fields
  longest ← field_at (number (2 ^ 32)) start.1
  resend ← field_at (number (2 ^ 32)) longest.1
  low ← field_at name resend.1
  high ← field_at name low.1
  Some (
    record {
      id = id;
      low = low.0;
      high = high.0;
      capacity = capacity;
      message = message;
      window = window;
      start = start.0;
      longest = longest.0;
      resend = resend.0;
      low_port = 0;
      high_port = 0;
      coarse = false;
    },
    high.1,
  )

-- the nine fields of a row, and the fields after them
unfoldable pub row_at : List (List ℕ) → Option (SessionRow × List (List ℕ))
row_at fields = do
  id ← field_at (number (2 ^ 32)) fields
  capacity ← field_at (number (2 ^ 32)) id.1
  message ← field_at (number (2 ^ 32)) capacity.1
  window ← field_at (number (2 ^ 32)) message.1
  row_behind id.0 capacity.0 message.0 window.0 window.1

unfoldable pub session_of : List (List ℕ) → Option Line
session_of fields = do
  row ← row_at fields
  at_end (Session row.0) row.1

-- which of two words the field is: the second is true
unfoldable pub choice : List ℕ → List ℕ → List ℕ → Option Bool
choice off on field = if bytes_eq field off then Some false else if bytes_eq field on then Some true else None

-- a message in the hand is a stored one
abbrev pub at_count : ℕ → Bool → Option Line → Option Line
at_count next held line = if held && next == 0 then None else line

unfoldable pub low_session_of : List (List ℕ) → Option Line
low_session_of fields = do
  row ← row_at fields
  next ← field_at (number (2 ^ 48 + 1)) row.1
  held ← field_at (choice (codes "0") (codes "1")) next.1
  at_count next.0 held.0 (at_end (LowSession row.0 next.0 held.0) held.1)

unfoldable pub coarse_of : List (List ℕ) → Option Line
coarse_of fields = do
  session ← field_at (number (2 ^ 32)) fields
  at_end (Coarse session.0) session.1

abbrev pub is_slash : ℕ → Bool
is_slash b = b == 47

-- two numbers with a slash between
unfoldable pub pair : List ℕ → Option ToldFeedback
pair field = do
  at ← position is_slash field
  count ← number (2 ^ 32) (take at field)
  average ← number (10 ^ 9 + 1) (drop (at + 1) field)
  Some (Pair count average)

unfoldable pub feedback : List ℕ → Option ToldFeedback
feedback field =
    if bytes_eq field (codes "-") then Some Quiet
    else if bytes_eq field (codes "full") then Some Full
    else pair field

abbrev pub bytes_from : Result (List ℕ) FromHexError → Option (List ℕ)
bytes_from (Ok bytes) = Some bytes
bytes_from (Err e) = None

unfoldable pub hex : List ℕ → Option (List ℕ)
hex field =
    if bytes_eq field (codes "-") then Some []
    else if nat_lt 0 (length field / 2) && nat_le (length field / 2) 1024 then bytes_from
    (decode_sized field (length field / 2))
    else None

abbrev pub held_from : Option (List ℕ) → Option (ArrayVec ℕ)
held_from None = None
held_from (Some bytes) = Some record { items = bytes }

unfoldable pub raw : List ℕ → Option (ArrayVec ℕ)
raw field =
    if nat_lt 0 (length field / 2) && nat_le (length field / 2) 1042 then held_from
    (bytes_from (decode_sized field (length field / 2)))
    else None

unfoldable pub raw_of : List (List ℕ) → Option Arriving
raw_of fields = do
  bytes ← field_at raw fields
  at_end (Raw bytes.0) bytes.1

unfoldable pub hello_of : List (List ℕ) → Option Arriving
hello_of fields = do
  low ← field_at name fields
  high ← field_at name low.1
  at_end (Hello low.0 high.0) high.1

unfoldable pub data_of : List (List ℕ) → Option Arriving
data_of fields = do
  number ← field_at (number (2 ^ 48)) fields
  payload ← field_at hex number.1
  at_end (Data number.0 payload.0) payload.1

unfoldable pub arriving_of : List (List ℕ) → Option Arriving
arriving_of [] = Some Nothing
arriving_of (word ∷ fields) =
    if bytes_eq word (codes "hello") then hello_of fields
    else if bytes_eq word (codes "data") then data_of fields
    else if bytes_eq word (codes "raw") then raw_of fields
    else None

unfoldable pub carry_of : List (List ℕ) → Option Line
carry_of fields = do
  session ← field_at (number (2 ^ 32)) fields
  back ← field_at (number (2 ^ 64)) session.1
  at_end (Carry session.0 back.0) back.1

-- ---- lines that have a moment ----
-- Each is told its session and its moment, and reads the fields behind them.

unfoldable pub look_of : ℕ → ℕ → List (List ℕ) → Option Line
look_of session moment fields = do
  hex ← field_at word fields
  arrival ← arriving_of hex.1
  Some (Look session moment hex.0 arrival)

unfoldable pub told_of : ℕ → ℕ → List (List ℕ) → Option Line
told_of session moment fields = do
  hex ← field_at word fields
  fault ← field_at (choice (codes "fine") (codes "fault")) hex.1
  told ← field_at feedback fault.1
  arrival ← arriving_of told.1
  Some (Told session moment hex.0 fault.0 told.0 arrival)

abbrev pub with_number : (ℕ → Line) → Option (ℕ × List (List ℕ)) → Option (Line × List (List ℕ))
with_number line read = do
  number ← read
  Some (line number.0, number.1)

-- one with a number, and the fields after it
unfoldable pub numbered_act_at : List ℕ → ℕ → ℕ → List (List ℕ) → Option (Line × List (List ℕ))
numbered_act_at name session moment fields =
    if bytes_eq name (codes "return") then with_number (Return session moment) (field_at (number (2 ^ 64)) fields)
    else if bytes_eq name (codes "done") then with_number (Done session moment)
    (field_at (number (10 ^ 9 + 1)) fields)
    else if bytes_eq name (codes "step") then with_number (Step session moment) (field_at word fields)
    else None

-- .. or with none
unfoldable pub plain_act_at : List ℕ → ℕ → ℕ → List (List ℕ) → Option (Line × List (List ℕ))
plain_act_at name session moment fields =
    if bytes_eq name (codes "gone") then Some (Gone session moment, fields)
    else if bytes_eq name (codes "high") then Some (High session moment, fields)
    else if bytes_eq name (codes "restart") then Some (Restart session moment, fields)
    else if bytes_eq name (codes "receiver-restart") then Some (ReceiverRestart session moment, fields)
    else numbered_act_at name session moment fields

-- and no field after it
abbrev pub whole : Option (Line × List (List ℕ)) → Option Line
whole read = do
  line ← read
  at_end line.0 line.1

unfoldable pub act_of : List ℕ → ℕ → ℕ → List (List ℕ) → Option Line
act_of name session moment fields =
    if bytes_eq name (codes "look") then look_of session moment fields
    else if bytes_eq name (codes "told") then told_of session moment fields
    else whole (plain_act_at name session moment fields)

-- the session and the moment, and what is behind them
unfoldable pub at_of : List ℕ → List (List ℕ) → Option Line
at_of name fields = do
  session ← field_at (number (2 ^ 32)) fields
  moment ← field_at (number (2 ^ 62 + 1)) session.1
  act_of name session.0 moment.0 moment.1

-- ---- all lines ----

unfoldable pub line_of : List (List ℕ) → Option Line
line_of [] = None
line_of (name ∷ fields) =
    if bytes_eq name (codes "session") then session_of fields
    else if bytes_eq name (codes "low-session") then low_session_of fields
    else if bytes_eq name (codes "coarse") then coarse_of fields
    else if bytes_eq name (codes "carry") then carry_of fields
    else at_of name fields

abbrev pub is_skipped : List ℕ → Bool
is_skipped [] = true
is_skipped (b ∷ bytes) = b == 35

unfoldable pub line_at : List ℕ → Option Line
line_at bytes =
    if nat_lt 2400 (length bytes) then None
    else if is_skipped bytes then Some Skip
    else line_of (slice_split is_space bytes)
