-- The lines of a stream as texts. A text has no line end; the lines of a stream stand in a list with the
-- newest first.
use Rattle.std.specs.Prelude.{◌≡◌, ◌≢◌, ℕ, ◌+◌, ◌<◌, ◌≤◌, List, [], ◌∷◌, ◌++◌, length, take, drop, count_by}
use Rattle.std.specs.Prelude.{Option, IfSome}
use Rattle.std.specs.Io.KnownBytes.{Consumes, IsAtEnd}
use Rattle.script_reader.specs.Lines.{is_end, IsUnended}
use Rattle.pump_audit.specs.declared.texts.Texted.{Texted}
use Rattle.pump_audit.specs.declared.texts.Texted.TheVariants as texted

-- the longest line, without its end
abbrev pub longest : ℕ
longest = 2400

-- a line of a stream, without its end
pub record IsText (text : List ℕ) : Type 0 where
  pub unended : IsUnended text
  pub short : length text ≤ longest

-- something is left, and it begins with no line
pub record IsCut (bytes : List ℕ) : Type 0 where
  pub some : bytes ≢ []
  pub none : (text rest : List ℕ) → IsText text → bytes ≢ text ++ 10 ∷ rest

-- what a reader of lines answers, by what is to come before the call and after it
abbrev pub IsNextText : Option (List ℕ) → Option (List ℕ) → List ℕ → Texted → Type 0
IsNextText old new text texted.Text = IsText text × Consumes old new (text ++ 10 ∷ [])
IsNextText old new text texted.Cut = IfSome old IsCut
IsNextText old new text texted.End = IsAtEnd old
IsNextText old new text texted.Failed = Unit {0}

-- the first line of what is held, which has this length: all of it, or more than a line may have
abbrev pub IsFirstText : List ℕ → List ℕ → ℕ → List ℕ → Texted → Type 0
IsFirstText old new len text texted.Text = (text ≡ take len old) × (new ≡ drop (len + 1) old) × (len ≤ longest)
IsFirstText old new len text texted.Cut = (longest < len) × (new ≡ old)
IsFirstText old new len text texted.End = ⊥
IsFirstText old new len text texted.Failed = ⊥

-- what is answered where no line end comes behind these bytes
abbrev pub IsTextAtEnd : List ℕ → Texted → Type 0
IsTextAtEnd [] t = t ≡ texted.End
IsTextAtEnd (byte ∷ more) t = t ≡ texted.Cut

-- how many lines the bytes end
abbrev pub line_ends : List ℕ → ℕ
line_ends bytes = count_by is_end bytes
