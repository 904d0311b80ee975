-- What the private calls of a reader of lines do. It serves proofs alone: no public clause names it.
use Rattle.std.specs.Prelude.{◌≡◌, ℕ, ◌+◌, ◌-◌, ◌^◌, ◌⊎◌, min, take, drop}
use Rattle.script_reader.specs.Grammar.{IsLine}
use Rattle.script_reader.specs.declared.line.Line.{Line}
use Rattle.script_reader.specs.declared.lines.Lined.{Lined}
use Rattle.script_reader.specs.declared.lines.Lined.TheVariants as lined
use Rattle.script_reader.specs.Lines.{LineReading}

-- what is answered where `len` bytes stand before the first line end: the line that they are, unless its
-- number would be 2^32
abbrev pub IsFirst : LineReading → LineReading → ℕ → Lined → Type 0
IsFirst old new len (lined.Line line) = IsLine line (take len old.held)
    × (new ≡ record { held = drop (len + 1) old.held; number = old.number + 1 })
IsFirst old new len lined.Bad = (((line : Line) → IsLine line (take len old.held) → ⊥) ⊎ (old.number ≡ 2 ^ 32 - 1))
    × (new ≡ record { held = old.held; number = min (old.number + 1) (2 ^ 32 - 1) })
IsFirst old new len lined.End = ⊥
IsFirst old new len lined.Failed = ⊥
