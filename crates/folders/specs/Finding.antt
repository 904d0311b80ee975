-- How what is looked for in a name is found. It serves private clauses and proofs alone.
use Rattle.std.specs.Prelude.{◌≡◌, ℕ, ◌==◌, Bool, false, List, Option, None, Some}
use Rattle.std.specs.List.{All}

abbrev pub is_dash : ℕ → Bool
is_dash b = b == 45

-- no dash stands in a field
abbrev pub IsFree : List ℕ → Type 0
IsFree field = All (λ b. is_dash b ≡ false) field

-- there is an answer, and this holds of it
abbrev pub IsFound : {A : Type 0} → Option A → (A → Type 0) → Type 0
IsFound None holds = ⊥
IsFound (Some a) holds = holds a
