-- Hexadecimal digits by their values. It serves private clauses and proofs alone.
use Rattle.std.specs.Prelude.{◌≡◌, ℕ, Option, None, Some, Ok, Err}
use Rattle.hex.specs.Hex.{hex_digit_value, pair_value}
use Rattle.hex.specs.declared.FromHexError.{FromHexError}

abbrev pub value_in : Option ℕ → ℕ
value_in (Some v) = v
value_in None = 255

-- the value of a digit, and 255 for another byte
abbrev pub digit_value : ℕ → ℕ
digit_value c = value_in (hex_digit_value c)

-- this is the byte of two digits at a place, or they are none
abbrev pub Pairs : ℕ → ℕ → ℕ → Option ℕ → Type 0
Pairs high low i (Some byte) = pair_value high low i ≡ Ok byte
Pairs high low i None = (e : FromHexError) × (pair_value high low i ≡ Err e)
