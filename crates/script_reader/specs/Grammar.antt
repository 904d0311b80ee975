-- Which bytes are which line of a script.
use Rattle.std.specs.Prelude.{◌≡◌, ℕ, ◌^◌, ◌<◌, ◌≤◌, ◌⊎◌, Bool, true, false, List, [], ◌∷◌, ◌++◌, length, codes}
use Rattle.std.specs.Prelude.{decimal, Ok}
use Rattle.std.specs.List.{join_with_byte}
use Rattle.std.specs.Int.{to_be_bytes, w32}
use Rattle.hex.specs.Hex.{decode_of}
use Rattle.pump_frame.specs.Names.{IsName}
use Rattle.pump_frame.specs.declared.row.SessionRow.{SessionRow}
use Rattle.script_reader.specs.declared.line.Line.{Line}
use Rattle.script_reader.specs.declared.line.Line.TheVariants.{Skip, Session, LowSession, Coarse, Look, Told, Step}
use Rattle.script_reader.specs.declared.line.Line.TheVariants.{Gone, High, Carry, Return, Done, Restart}
use Rattle.script_reader.specs.declared.line.Line.TheVariants.{ReceiverRestart}
use Rattle.script_reader.specs.declared.line.ToldFeedback.{ToldFeedback}
use Rattle.script_reader.specs.declared.line.ToldFeedback.TheVariants.{Quiet, Full, Pair}
use Rattle.script_reader.specs.declared.line.Arriving.{Arriving}
use Rattle.script_reader.specs.declared.line.Arriving.TheVariants.{Nothing, Hello, Data, Raw}

-- fields with one space between
abbrev pub spaced : List (List ℕ) → List ℕ
spaced fields = join_with_byte 32 fields

-- the word in eight hexadecimal digits, of either case
abbrev pub IsWord : ℕ → List ℕ → Type 0
IsWord word field = (word < 2 ^ 32) × (decode_of field ≡ Ok (to_be_bytes w32 word))

-- the payload in two or more hexadecimal digits, an even number of them, or a dash for no bytes
abbrev pub IsHex : List ℕ → List ℕ → Type 0
IsHex payload field = ((field ≡ codes "-") × (payload ≡ [])) ⊎ ((0 < length payload) × (length payload ≤ 1024)
    × (decode_of field ≡ Ok payload))

-- 1 to 1042 bytes in hexadecimal digits
pub record IsRaw (bytes field : List ℕ) : Type 0 where
  pub some : 0 < length bytes
  pub few : length bytes ≤ 1042
  pub digits : decode_of field ≡ Ok bytes

-- a row that a line can tell: the ranges of its numbers are no matter of the grammar
pub record IsRow (row : SessionRow) : Type 0 where
  pub id : row.id < 2 ^ 32
  pub capacity : row.capacity < 2 ^ 32
  pub message : row.message < 2 ^ 32
  pub window : row.window < 2 ^ 32
  pub start : row.start < 2 ^ 32
  pub longest : row.longest < 2 ^ 32
  pub resend : row.resend < 2 ^ 32
  pub low : IsName row.low
  pub high : IsName row.high
  pub low_port : row.low_port ≡ 0
  pub high_port : row.high_port ≡ 0
  pub coarse : row.coarse ≡ false

-- the fields after the word "session"
abbrev pub row_fields : SessionRow → List (List ℕ)
row_fields row = decimal row.id ∷ decimal row.capacity ∷ decimal row.message ∷ decimal row.window ∷ decimal row.start
    ∷ decimal row.longest ∷ decimal row.resend ∷ row.low ∷ row.high ∷ []

-- the fields at the end of a look, which say what comes
abbrev pub IsArriving : Arriving → List (List ℕ) → Type 0
IsArriving Nothing fields = fields ≡ []
IsArriving (Hello low high) fields = IsName low × IsName high × (fields ≡ codes "hello" ∷ low ∷ high ∷ [])
IsArriving (Data number payload) fields = (number < 2 ^ 48) × (hex : List ℕ) × IsHex payload hex
    × (fields ≡ codes "data" ∷ decimal number ∷ hex ∷ [])
IsArriving (Raw bytes) fields = (hex : List ℕ) × IsRaw bytes.items hex × (fields ≡ codes "raw" ∷ hex ∷ [])

-- whether the last of the stored messages is in the low hand
abbrev pub held_field : Bool → List ℕ
held_field false = codes "0"
held_field true = codes "1"

-- a number of stored messages, the last of which may be in the low hand
pub record IsCount (next : ℕ) (held : Bool) : Type 0 where
  pub most : next ≤ 2 ^ 48
  pub some : held ≡ true → 1 ≤ next

-- whether the next device call fails
abbrev pub outcome_field : Bool → List ℕ
outcome_field false = codes "fine"
outcome_field true = codes "fault"

-- what is told of the passage: a dash for nothing, or a count and an average with a slash between
abbrev pub IsFeedback : ToldFeedback → List ℕ → Type 0
IsFeedback Quiet field = field ≡ codes "-"
IsFeedback Full field = field ≡ codes "full"
IsFeedback (Pair count average) field = (count < 2 ^ 32) × (average ≤ 10 ^ 9)
    × (field ≡ decimal count ++ 47 ∷ decimal average)

-- the fields of a line; numbers are decimal, without sign and leading zeros
abbrev pub HasFields : Line → List (List ℕ) → Type 0
HasFields Skip fields = ⊥
HasFields (Session row) fields = IsRow row × (fields ≡ codes "session" ∷ row_fields row)
HasFields (LowSession row next held) fields = IsRow row × IsCount next held
    × (fields ≡ codes "low-session" ∷ (row_fields row ++ decimal next ∷ held_field held ∷ []))
HasFields (Coarse session) fields = (session < 2 ^ 32) × (fields ≡ codes "coarse" ∷ decimal session ∷ [])
HasFields (Look session moment word arrival) fields = (session < 2 ^ 32) × (moment ≤ 2 ^ 62)
    × (hex : List ℕ) × IsWord word hex × (rest : List (List ℕ)) × IsArriving arrival rest
    × (fields ≡ codes "look" ∷ decimal session ∷ decimal moment ∷ hex ∷ rest)
HasFields (Told session moment word fault feedback arrival) fields = (session < 2 ^ 32) × (moment ≤ 2 ^ 62)
    × (hex : List ℕ) × IsWord word hex × (told : List ℕ) × IsFeedback feedback told × (rest : List (List ℕ))
    × IsArriving arrival rest
    × (fields ≡ codes "told" ∷ decimal session ∷ decimal moment ∷ hex ∷ outcome_field fault ∷ told ∷ rest)
HasFields (Step session moment word) fields = (session < 2 ^ 32) × (moment ≤ 2 ^ 62)
    × (hex : List ℕ) × IsWord word hex × (fields ≡ codes "step" ∷ decimal session ∷ decimal moment ∷ hex ∷ [])
HasFields (High session moment) fields = (session < 2 ^ 32) × (moment ≤ 2 ^ 62)
    × (fields ≡ codes "high" ∷ decimal session ∷ decimal moment ∷ [])
HasFields (Carry session back) fields = (session < 2 ^ 32) × (back < 2 ^ 64)
    × (fields ≡ codes "carry" ∷ decimal session ∷ decimal back ∷ [])
HasFields (Return session moment back) fields = (session < 2 ^ 32) × (moment ≤ 2 ^ 62) × (back < 2 ^ 64)
    × (fields ≡ codes "return" ∷ decimal session ∷ decimal moment ∷ decimal back ∷ [])
HasFields (Gone session moment) fields = (session < 2 ^ 32) × (moment ≤ 2 ^ 62)
    × (fields ≡ codes "gone" ∷ decimal session ∷ decimal moment ∷ [])
HasFields (Done session moment time) fields = (session < 2 ^ 32) × (moment ≤ 2 ^ 62) × (time ≤ 10 ^ 9)
    × (fields ≡ codes "done" ∷ decimal session ∷ decimal moment ∷ decimal time ∷ [])
HasFields (Restart session moment) fields = (session < 2 ^ 32) × (moment ≤ 2 ^ 62)
    × (fields ≡ codes "restart" ∷ decimal session ∷ decimal moment ∷ [])
HasFields (ReceiverRestart session moment) fields = (session < 2 ^ 32) × (moment ≤ 2 ^ 62)
    × (fields ≡ codes "receiver-restart" ∷ decimal session ∷ decimal moment ∷ [])

-- an empty line, or one that begins with #
abbrev pub IsSkipped : List ℕ → Type 0
IsSkipped [] = Unit {0}
IsSkipped (b ∷ bytes) = b ≡ 35

-- an empty line or a comment, or the fields of the line with one space between
abbrev pub IsSpelled : Line → List ℕ → Type 0
IsSpelled line bytes = ((line ≡ Skip) × IsSkipped bytes) ⊎ ((fields : List (List ℕ)) × HasFields line fields
    × (bytes ≡ spaced fields))

-- these bytes, without a line end, are this line
abbrev pub IsLine : Line → List ℕ → Type 0
IsLine line bytes = (length bytes ≤ 2400) × IsSpelled line bytes
