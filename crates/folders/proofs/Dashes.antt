-- The first dash of a name stands behind its first field; the fields are text.
use Rattle.std.proofs.Common.{◌≡◌, ℕ, ◌+◌, ◌-◌, ◌^◌, ◌<◌, ◌==◌, Bool, true, false, ltb, List, Some, None, [], ◌∷◌, ◌++◌, length, take, drop, codes, decimal, zero, suc, refl, sym, ap, ◌∙◌, arith}
use Rattle.std.proofs.lemmas.Bool.{and_parts, false_from_ne_true, both_ways, eqb-true, ltb-true, ne_eqb, lt-ltb}
use Rattle.std.proofs.lemmas.List.{length-append, take_at, drop_at, append_assoc, take_all}
use Rattle.std.proofs.lemmas.List.Elements.{All-head, All-tail, All-from_get_or, All-weaker}
use Rattle.std.proofs.lemmas.Str.Parse.{IsNumeralModel, numerals_by_value, tells_digits, not_in_digits}
use Rattle.std.proofs.lemmas.Fmt.{digits_decimal}
use Rattle.std.specs.Str.Parse.{AllDigits, digits_value}
use Rattle.std.specs.Int.{IsInRange}
use Rattle.std.specs.Str.{IsAscii}
use Rattle.std.proofs.lemmas.Str.Ascii.{IsAscii-nil, IsAscii-cons}
use Rattle.std.specs.List.{list_all, position, position_or_len}
use Rattle.hex.specs.Hex.{IsBytes, encode_lower, is_hex_digit, lower_digits}
use Rattle.hex.proofs.HexLemmas.{decode_of-ok, decode_of-encode_lower}
use Rattle.folders.specs.Finding.{is_dash, IsFree}

dash_at : (prefix back : List ℕ) → IsFree prefix → position_or_len is_dash (prefix ++ 45 ∷ back) ≡ length prefix
dash_at [] back free = refl
dash_at (b ∷ prefix) back free =
    let first : is_dash b ≡ false = All-head (λ x. is_dash x ≡ false) b prefix free in
    rw (first, dash_at prefix back (All-tail (λ x. is_dash x ≡ false) b prefix free)) (omega arith)

pub first_dash : (prefix back : List ℕ) → IsFree prefix → position is_dash (prefix ++ 45 ∷ back) ≡ Some (length prefix)
first_dash prefix back free =
    rw (dash_at prefix back free, lt-ltb (length prefix) (length (prefix ++ 45 ∷ back)) (omega (arith, length-append prefix (45 ∷ back)))) refl

-- what stands before it, and what behind it
pub parts_at : (text prefix back : List ℕ) (at : ℕ) → Some at ≡ position is_dash text → IsFree prefix → text ≡ prefix ++ 45 ∷ back
    → (take at text ≡ prefix) × (take (length text - (at + 1)) (drop (at + 1) text) ≡ back)
parts_at text prefix back at is free shape =
    let found : Some at ≡ Some (length prefix) = is ∙ ap (position is_dash) shape ∙ first_dash prefix back free in
    let place : at ≡ length prefix = cc in
    let behind : drop (at + 1) text ≡ back =
    rw (shape, ← append_assoc prefix (45 ∷ []) back) (drop_at (prefix ++ 45 ∷ []) back (at + 1) (rw (length-append prefix (45 ∷ [])) (omega (arith, place)))) in
    let rest : length text - (at + 1) ≡ length back = omega (arith, place, ap length shape, length-append prefix (45 ∷ back)) in
    (rw shape (take_at prefix (45 ∷ back) at (sym place)), rw (behind, rest) (take_all (length back) back (omega arith)))

pub some_dash : (text prefix back : List ℕ) → None ≡ position is_dash text → IsFree prefix → text ≡ prefix ++ 45 ∷ back → ⊥
some_dash text prefix back none free shape =
    let found : None ≡ Some (length prefix) = none ∙ ap (position is_dash) shape ∙ first_dash prefix back free in cc

pub none_some : {A : Type 0} (x : A) → None ≡ Some x → ⊥
none_some x e = cc

pub untrue : false ≡ true → ⊥
untrue e = cc

-- what passes a test that the byte fails is another one
pub other_than : (mark : ℕ) (p : ℕ → Bool) → p mark ≡ false → (x : ℕ) → p x ≡ true → (x == mark) ≡ false
other_than mark p fails x passes = false_from_ne_true (x == mark) (λ e. both_ways (p x) (ap p (eqb-true x mark e) ∙ fails) passes)

pub free_digits : (digest : List ℕ) → IsBytes digest → IsFree (encode_lower digest)
free_digits digest bytes =
    All-weaker (λ x. is_hex_digit x ≡ true) (λ b. is_dash b ≡ false) (other_than 45 is_hex_digit refl) (encode_lower digest)
    (decode_of-ok (encode_lower digest) digest (decode_of-encode_lower digest bytes)).1

pub free_decimal : (n : ℕ) → n < 2 ^ 64 → IsFree (decimal n)
free_decimal n fits =
    let own : IsNumeralModel (AllDigits 10) (digits_value 10) = numerals_by_value _ tells_digits in
    let out : IsInRange 48 57 45 → ⊥ = λ h. absurd (omega (arith, h.0)) in
    All-from_get_or (λ x. (x == 45) ≡ false) (decimal n) 0 (λ i low. ne_eqb _ 45 (not_in_digits own (decimal n) 45 (digits_decimal own n fits) out i low))

pub free_prefix : IsFree (codes ".np")
free_prefix zero d low = refl
free_prefix (suc zero) d low = refl
free_prefix (suc (suc zero)) d low = refl
free_prefix (suc (suc (suc k))) d low = absurd (omega (arith, low))

ascii_by : (bytes : List ℕ) → list_all (λ b. ltb b 128) bytes ≡ true → IsAscii bytes
ascii_by [] h = IsAscii-nil
ascii_by (b ∷ bytes) h =
    let parts = and_parts (ltb b 128) (list_all (λ x. ltb x 128) bytes) h in
    IsAscii-cons b bytes (ltb-true b 128 parts.0) (ascii_by bytes parts.1)

-- the digits are text
pub ascii_digits : IsAscii lower_digits
ascii_digits = ascii_by lower_digits refl
