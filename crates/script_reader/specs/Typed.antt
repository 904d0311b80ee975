-- What the types of a line's parts say of it, and fields behind a first one. It serves private clauses and
-- proofs alone.
use Rattle.std.specs.Prelude.{◌≡◌, ℕ, ◌+◌, ◌^◌, ◌<◌, ◌≤◌, List, ◌∷◌, ◌++◌, length, Ok}
use Rattle.std.specs.List.{flat_map}
use Rattle.hex.specs.Hex.{decode_of, encode_lower}
use Rattle.pump_frame.specs.Names.{IsName}
use Rattle.pump_frame.specs.declared.row.SessionRow.{SessionRow}
use Rattle.script_reader.specs.declared.line.Line.{Line}
use Rattle.script_reader.specs.declared.line.Line.TheVariants.{Skip, Session, LowSession, Coarse, Look, Told, Step}
use Rattle.script_reader.specs.declared.line.Line.TheVariants.{Gone, High, Carry, Return, Done, Restart}
use Rattle.script_reader.specs.declared.line.Line.TheVariants.{ReceiverRestart}
use Rattle.script_reader.specs.declared.line.ToldFeedback.{ToldFeedback}
use Rattle.script_reader.specs.declared.line.ToldFeedback.TheVariants.{Quiet, Full, Pair}
use Rattle.script_reader.specs.declared.line.Arriving.{Arriving}
use Rattle.script_reader.specs.declared.line.Arriving.TheVariants.{Nothing, Hello, Data, Raw}
use Rattle.script_reader.specs.Grammar.{IsWord}
use Rattle.script_reader.specs.Spelling.{word_field, line_spelling}

-- each of these fields with a space before it
abbrev pub behind : List (List ℕ) → List ℕ
behind fields = flat_map (λ field. 32 ∷ field) fields

-- a word and these fields were put behind what stood there
pub record IsBehind (old new word : List ℕ) (fields : List (List ℕ)) : Type 0 where
  pub items : new ≡ old ++ word ++ behind fields

-- digits give the bytes back
abbrev pub IsPrinted : List ℕ → Type 0
IsPrinted bytes = decode_of (encode_lower bytes) ≡ Ok bytes

pub record IsTypedRow (row : SessionRow) : Type 0 where
  pub id : row.id < 2 ^ 32
  pub capacity : row.capacity < 2 ^ 32
  pub message : row.message < 2 ^ 32
  pub window : row.window < 2 ^ 32
  pub start : row.start < 2 ^ 32
  pub longest : row.longest < 2 ^ 32
  pub resend : row.resend < 2 ^ 32
  pub low : IsName row.low
  pub high : IsName row.high

abbrev pub IsTypedArriving : Arriving → Type 0
IsTypedArriving Nothing = Unit {0}
IsTypedArriving (Hello low high) = IsName low × IsName high
IsTypedArriving (Data number payload) = (length payload ≤ 1024) × IsPrinted payload
IsTypedArriving (Raw bytes) = (length bytes.items ≤ 1042) × IsPrinted bytes.items

abbrev pub IsTypedFeedback : ToldFeedback → Type 0
IsTypedFeedback Quiet = Unit {0}
IsTypedFeedback Full = Unit {0}
IsTypedFeedback (Pair count average) = count < 2 ^ 32

abbrev pub IsTypedLine : Line → Type 0
IsTypedLine Skip = Unit {0}
IsTypedLine (Session row) = IsTypedRow row
IsTypedLine (LowSession row next held) = IsTypedRow row
IsTypedLine (Coarse session) = session < 2 ^ 32
IsTypedLine (Look session moment word arrival) = (session < 2 ^ 32) × IsWord word (word_field word)
    × IsTypedArriving arrival
IsTypedLine (Told session moment word fault feedback arrival) =
    (session < 2 ^ 32) × IsWord word (word_field word) × IsTypedFeedback feedback × IsTypedArriving arrival
IsTypedLine (Step session moment word) = (session < 2 ^ 32) × IsWord word (word_field word)
IsTypedLine (Gone session moment) = session < 2 ^ 32
IsTypedLine (High session moment) = session < 2 ^ 32
IsTypedLine (Carry session back) = (session < 2 ^ 32) × (back < 2 ^ 64)
IsTypedLine (Return session moment back) = (session < 2 ^ 32) × (back < 2 ^ 64)
IsTypedLine (Done session moment time) = session < 2 ^ 32
IsTypedLine (Restart session moment) = session < 2 ^ 32
IsTypedLine (ReceiverRestart session moment) = session < 2 ^ 32

-- this line, without its line end, was put behind what stood there
pub record IsPutLine (old new : List ℕ) (line : Line) : Type 0 where
  pub items : new ≡ old ++ line_spelling line
  pub len : length new < length old + 2400
  pub typed : IsTypedLine line
