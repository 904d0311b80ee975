-- The lines of a sender's script: one payload each, in hexadecimal digits.
use Rattle.std.specs.Prelude.{◌≢◌, ℕ, ◌≤◌, List, [], ◌∷◌, ◌++◌, length, Option, IfSome}
use Rattle.std.specs.Io.KnownBytes.{Consumes, IsAtEnd}
use Rattle.script_reader.specs.Grammar.{IsHex}
use Rattle.script_reader.specs.Lines.{IsUnended}
use Rattle.peers.specs.declared.payload_lines.NextByte.{NextByte}
use Rattle.peers.specs.declared.payload_lines.NextByte.TheVariants as next
use Rattle.peers.specs.declared.payload_lines.Lined.{Lined}
use Rattle.peers.specs.declared.payload_lines.Lined.TheVariants as lined

-- the bytes, without a line end, are the line of this payload
pub record IsPayload (payload line : List ℕ) : Type 0 where
  pub unended : IsUnended line
  pub hex : IsHex payload line

-- something is left, and it begins with no such line
pub record IsFaulty (bytes : List ℕ) : Type 0 where
  pub some : bytes ≢ []
  pub bad : (payload line rest : List ℕ) → IsPayload payload line → bytes ≢ line ++ 10 ∷ rest

-- what a reader of these lines answers, by what is to come before the call and after it
abbrev pub IsNextPayload : Option (List ℕ) → Option (List ℕ) → List ℕ → Lined → Type 0
IsNextPayload old new payload lined.Payload = (line : List ℕ) × IsPayload payload line
    × Consumes old new (line ++ 10 ∷ [])
IsNextPayload old new payload lined.Bad = IfSome old IsFaulty
IsNextPayload old new payload lined.End = IsAtEnd old
IsNextPayload old new payload lined.Failed = Unit {0}

-- .. and a reader of bytes
abbrev pub IsNextByte : Option (List ℕ) → Option (List ℕ) → NextByte → Type 0
IsNextByte old new (next.Byte byte) = Consumes old new (byte ∷ [])
IsNextByte old new next.End = IsAtEnd old × Consumes old new []
IsNextByte old new next.Failed = Consumes old new []

-- so many bytes at most were taken
abbrev pub TakesAtMost : ℕ → Option (List ℕ) → Option (List ℕ) → Type 0
TakesAtMost most old new = (taken : List ℕ) × Consumes old new taken × (length taken ≤ most)
