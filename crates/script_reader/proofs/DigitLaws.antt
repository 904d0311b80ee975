-- The table of digits, and what two digits are.
use Rattle.std.proofs.Common.{◌≡◌, ℕ, ◌+◌, ◌*◌, ◌<◌, ◌≤◌, Bool, true, false, cond, List, Option, None, Some, Result, Ok, Err, map, slice_index, refl, ap, ◌∙◌, arith}
use Rattle.std.specs.List.{range_with_len}
use Rattle.std.specs.Int.{from_be_bytes, w32}
use Rattle.std.proofs.lemmas.List.FromFn.{get_or-map-range_with_len}
use Rattle.hex.specs.Hex.{hex_digit_value, pair_value, digit_or_error, value_at, decode_sized}
use Rattle.hex.specs.declared.FromHexError.{FromHexError}
use Rattle.hex.specs.declared.FromHexError.TheVariants.{InvalidHexCharacter}
use Rattle.script_reader.specs.DigitValues.{value_in, digit_value}
use Rattle.script_reader.specs.Parsing.{bytes_from, word, word_from}
use Rattle.script_reader.specs.declared.digits.TheConstants.{VALUES}

-- a test that computes over the whole table
table_is : VALUES ≡ map digit_value (range_with_len 0 256)
table_is = refl

pub entry : (c : ℕ) → c < 256 → slice_index VALUES c ≡ digit_value c
entry c low = ap (λ table. slice_index table c) table_is ∙ get_or-map-range_with_len digit_value 0 256 c c 0 low (omega arith)

there : (o : Option ℕ) → value_in o ≤ 15 → o ≡ Some (value_in o)
there None h = absurd (omega (arith, h))
there (Some v) h = refl

-- a digit's value is below 16
small : (c v : ℕ) → hex_digit_value c ≡ Some v → v < 16
small c v e = grind (arith)

gone : (o : Option ℕ) → ((v : ℕ) → o ≡ Some v → v < 16) → 15 < value_in o → o ≡ None
gone None below h = refl
gone (Some v) below h = absurd (omega (arith, h, below v refl))

pub both : (a b i : ℕ) → digit_value a ≤ 15 → digit_value b ≤ 15 → pair_value a b i ≡ Ok (digit_value a * 16 + digit_value b)
both a b i ha hb =
    let first : value_at a i ≡ Ok (digit_value a) = ap (digit_or_error a i) (there (hex_digit_value a) ha) in
    let second : value_at b (i + 1) ≡ Ok (digit_value b) = ap (digit_or_error b (i + 1)) (there (hex_digit_value b) hb) in
    rw (first, second) refl

pub no_first : (a b i : ℕ) → 15 < digit_value a → (e : FromHexError) × (pair_value a b i ≡ Err e)
no_first a b i ha =
    let first : value_at a i ≡ Err (InvalidHexCharacter a i) = ap (digit_or_error a i) (gone (hex_digit_value a) (small a) ha) in
    (InvalidHexCharacter a i, rw first refl)

pub no_second : (a b i : ℕ) → digit_value a ≤ 15 → 15 < digit_value b → (e : FromHexError) × (pair_value a b i ≡ Err e)
no_second a b i ha hb =
    let first : value_at a i ≡ Ok (digit_value a) = ap (digit_or_error a i) (there (hex_digit_value a) ha) in
    let second : value_at b (i + 1) ≡ Err (InvalidHexCharacter b (i + 1)) = ap (digit_or_error b (i + 1)) (gone (hex_digit_value b) (small b) hb) in
    (InvalidHexCharacter b (i + 1), rw (first, second) refl)

word_from_bytes : (r : Result (List ℕ) FromHexError) (bytes : List ℕ) (is : Bool) → cond is (Some bytes) None ≡ bytes_from r → cond is (Some (from_be_bytes w32 bytes)) None ≡ word_from r
word_from_bytes (Ok b) bytes true e = cc
word_from_bytes (Ok b) bytes false e = cc
word_from_bytes (Err x) bytes true e = cc
word_from_bytes (Err x) bytes false e = refl

-- a word, by its bytes
pub word_of_bytes : (field bytes : List ℕ) (is : Bool) → cond is (Some bytes) None ≡ bytes_from (decode_sized field 4) → cond is (Some (from_be_bytes w32 bytes)) None ≡ word field
unfolding word
word_of_bytes field bytes is e = word_from_bytes (decode_sized field 4) bytes is e
