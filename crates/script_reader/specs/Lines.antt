-- A script as the lines of a stream.
use Rattle.std.specs.Prelude.{◌≡◌, ◌≢◌, ℕ, ◌+◌, ◌-◌, ◌^◌, ◌<◌, ◌≤◌, ◌==◌, ◌⊎◌, min, Bool, false, List, [], ◌∷◌, ◌++◌}
use Rattle.std.specs.Prelude.{length, Option, IfSome, All}
use Rattle.std.specs.Io.KnownBytes.{prepend_known, Consumes, Keeps, IsAtEnd}
use Rattle.pump_link.specs.Tells.{Draws}
use Rattle.script_reader.specs.Grammar.{IsLine}
use Rattle.script_reader.specs.declared.line.Line.{Line}
use Rattle.script_reader.specs.declared.lines.Lined.{Lined}
use Rattle.script_reader.specs.declared.lines.Lined.TheVariants as lined

-- what a reader of lines holds, and the number of the line last answered
pub record LineReading : Type 0 where
  pub held : List ℕ
  pub number : ℕ

-- what is still to come: what is held, then what the source has left, where it tells
abbrev pub to_come : LineReading → Option (List ℕ) → Option (List ℕ)
to_come reading left = prepend_known reading.held left

abbrev pub is_end : ℕ → Bool
is_end b = b == 10

-- no line end stands in it
abbrev pub IsUnended : List ℕ → Type 0
IsUnended bytes = All (λ b. is_end b ≡ false) bytes

-- it begins with this line, which lies in these bytes
pub record BeginsWith (all : List ℕ) (bytes : List ℕ) (rest : List ℕ) (line : Line) : Type 0 where
  pub unended : IsUnended bytes
  pub spelled : IsLine line bytes
  pub whole : all ≡ bytes ++ 10 ∷ rest

-- something is left
abbrev pub IsSome : List ℕ → Type 0
IsSome bytes = bytes ≢ []

-- bytes that are not the end, and begin with no line
pub record IsBad (all : List ℕ) : Type 0 where
  pub some : IsSome all
  pub bad : (line : Line) (bytes rest : List ℕ) → BeginsWith all bytes rest line → ⊥

-- a line end stands in the bytes held, or they are too long for a line
abbrev pub LineIsReady : List ℕ → Type 0
LineIsReady held = (IsUnended held → ⊥) ⊎ (2400 < length held)

-- What the next line of a stream is, by what is to come before the call and after it. `length new.held` says how little
-- of the source was taken ahead.
abbrev pub IsNextLine : LineReading → LineReading → Option (List ℕ) → Option (List ℕ) → Lined → Type 0
IsNextLine old new left rest (lined.Line line) = (bytes : List ℕ) × IsUnended bytes × IsLine line bytes
    × Consumes (to_come old left) (to_come new rest) (bytes ++ 10 ∷ []) × (new.number ≡ old.number + 1)
    × (length bytes + 1 + length new.held ≤ 4096)
IsNextLine old new left rest lined.Bad = Keeps (to_come old left) (to_come new rest)
    × (IfSome (to_come old left) IsBad ⊎ ((old.number ≡ 2 ^ 32 - 1) × IfSome (to_come old left) IsSome))
    × (new.number ≡ min (old.number + 1) (2 ^ 32 - 1)) × (length new.held ≤ 4096)
IsNextLine old new left rest lined.End = Keeps (to_come old left) (to_come new rest) × IsAtEnd (to_come old left)
    × (new.number ≡ old.number)
IsNextLine old new left rest lined.Failed = Keeps (to_come old left) (to_come new rest) × (new.number ≡ old.number)
    × (length new.held ≤ 4096)
    × IsUnended new.held

-- ---- how much a call reads ----

-- pieces are read one after another, each only where what is held before it is not ready
abbrev pub AreNeeded : List ℕ → List (List ℕ) → Type 0
AreNeeded held [] = Unit {0}
AreNeeded held (piece ∷ later) = (LineIsReady held → ⊥) × AreNeeded (held ++ piece) later

-- what is held with these pieces behind it
abbrev pub with_pieces : List ℕ → List (List ℕ) → List ℕ
with_pieces held [] = held
with_pieces held (piece ∷ later) = with_pieces (held ++ piece) later

-- all that is held after no more was read than is needed
pub record ReadsTo (held : List ℕ) (gives later : List (List ℕ) → Type 0) (all : List ℕ) : Type 0 where
  pub pieces : List (List ℕ)
  pub gave : Draws gives later pieces
  pub needed : AreNeeded held pieces
  pub all_is : all ≡ with_pieces held pieces

-- what is held in the end: the first line is gone, and after any other answer nothing is. Nothing is held
-- at the end of a script, and no whole line where the source failed
abbrev pub LeavesHeld : Lined → List ℕ → List ℕ → Type 0
LeavesHeld (lined.Line line) all held = (bytes : List ℕ) × IsUnended bytes × IsLine line bytes
    × (all ≡ bytes ++ 10 ∷ held)
LeavesHeld lined.Bad all held = (held ≡ all) × IsSome all
LeavesHeld lined.End all held = (held ≡ all) × (all ≡ [])
LeavesHeld lined.Failed all held = (held ≡ all) × (LineIsReady all → ⊥)

-- a call reads no more than it needs, and loses nothing of it
abbrev pub ReadsOn : LineReading → LineReading → (List (List ℕ) → Type 0) → (List (List ℕ) → Type 0) → Lined → Type 0
ReadsOn old new gives later result = (all : List ℕ) × ReadsTo old.held gives later all × LeavesHeld result all new.held

-- the bytes are these lines, each with its line end, and then the rest, where they are known
abbrev pub AreLines : Option (List ℕ) → List Line → Option (List ℕ) → Type 0
AreLines all [] rest = Keeps all rest
AreLines all (line ∷ lines) rest = (bytes : List ℕ) × (mid : Option (List ℕ)) × IsUnended bytes × IsLine line bytes
    × Consumes all mid (bytes ++ 10 ∷ []) × AreLines mid lines rest
