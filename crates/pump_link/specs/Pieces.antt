-- The pieces in which a source gives its bytes.
use Rattle.std.specs.Prelude.{◌≡◌, ℕ, List, [], ◌∷◌, ◌++◌, take, Result, Ok, Err}

-- what one read gave: a piece, or nothing where it failed
abbrev pub piece_in : {E : Type 0} → Result ℕ E → List ℕ → List (List ℕ)
piece_in (Ok n) bytes = take n bytes ∷ []
piece_in (Err e) bytes = []

-- the pieces stand one after another at the prefix of these bytes
abbrev pub PiecesFrom : List ℕ → List (List ℕ) → Type 0
PiecesFrom left [] = Unit {0}
PiecesFrom left (piece ∷ later) = (rest : List ℕ) × (left ≡ piece ++ rest) × PiecesFrom rest later
