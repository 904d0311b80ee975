-- The first line of what is still to come, where its first bytes are held.
use Rattle.std.specs.Prelude.{◌≡◌, ℕ, ◌<◌, List, [], ◌∷◌, ◌++◌, length, position, Option, Some, Result, Ok, Err}
use Rattle.std.specs.Io.KnownBytes.{IsAtEnd}
use Rattle.pump_link.specs.Tells.{Draws}
use Rattle.pump_link.specs.declared.stream.ReadFault.{ReadFault}
use Rattle.script_reader.specs.declared.held_lines.FirstLine.{FirstLine}
use Rattle.script_reader.specs.declared.held_lines.FirstLine.TheVariants as first
use Rattle.script_reader.specs.Lines.{is_end, IsUnended, LineIsReady}

-- what is known of it, by what is held and what the source has left
abbrev pub IsFirstLine : List ℕ → Option (List ℕ) → FirstLine → Type 0
IsFirstLine held left (first.Ended len) = position is_end held ≡ Some len
IsFirstLine held left first.Long = IsUnended held × (2400 < length held)
IsFirstLine held left first.Unended = IsUnended held × IsAtEnd left
IsFirstLine held left first.Failed = LineIsReady held → ⊥

-- so many bytes were read behind what is held, in one piece, or none where the source failed
abbrev pub Fills : List ℕ → List ℕ → (List (List ℕ) → Type 0) → (List (List ℕ) → Type 0) → Result ℕ ReadFault → Type 0
Fills old new gives later (Ok n) = (piece : List ℕ) × (length piece ≡ n) × (new ≡ old ++ piece)
    × Draws gives later (piece ∷ [])
Fills old new gives later (Err e) = (new ≡ old) × Draws gives later []
