-- No field of a line has a space.
use Rattle.std.proofs.Common.{◌≡◌, ℕ, ◌^◌, ◌<◌, Bool, true, false, not, List, codes, decimal, inl, inr, refl, ap, ◌∙◌, arith}
use Rattle.std.proofs.lemmas.Bool.{false_from_ne_true, both_ways, eqb-true, ne_eqb}
use Rattle.std.proofs.lemmas.List.Elements.{All-from_get_or, All-weaker}
use Rattle.std.proofs.lemmas.List.Sums.{AllPass-from_list_all}
use Rattle.std.proofs.lemmas.Str.Parse.{IsNumeralModel, numerals_by_value, tells_digits, not_in_digits}
use Rattle.std.proofs.lemmas.Fmt.{digits_decimal}
use Rattle.std.specs.Str.Parse.{AllDigits, digits_value}
use Rattle.std.specs.Int.{IsInRange, to_be_bytes, w32}
use Rattle.std.specs.Prelude.{◌==◌}
use Rattle.std.specs.List.{All, list_all, AllPass}
use Rattle.hex.specs.Hex.{is_hex_digit}
use Rattle.hex.proofs.HexLemmas.{decode_of-ok}
use Rattle.pump_frame.specs.Names.{IsName, is_name_byte}
use Rattle.script_reader.specs.Fields.{is_space}
use Rattle.script_reader.specs.Grammar.{IsWord, IsHex, IsRaw}
use Rattle.script_reader.proofs.Splits.{IsFree}

not_space : (p : ℕ → Bool) → p 32 ≡ false → (x : ℕ) → p x ≡ true → is_space x ≡ false
not_space p at_space x passes = false_from_ne_true (is_space x) (λ e. both_ways (p x) (ap p (eqb-true x 32 e) ∙ at_space) passes)

free_by : (p : ℕ → Bool) → p 32 ≡ false → (field : List ℕ) → AllPass p field → IsFree field
free_by p at_space field pass = All-weaker (λ x. p x ≡ true) (λ b. is_space b ≡ false) (not_space p at_space) field pass

pub free_text : (text : List ℕ) → list_all (λ b. not (is_space b)) text ≡ true → IsFree text
free_text text e = free_by (λ b. not (is_space b)) refl text (AllPass-from_list_all _ text e)

pub free_name : (name : List ℕ) → IsName name → IsFree name
free_name name h = free_by is_name_byte refl name (AllPass-from_list_all is_name_byte name h.plain)

pub free_word : (n : ℕ) (field : List ℕ) → IsWord n field → IsFree field
free_word n field h = free_by is_hex_digit refl field (decode_of-ok field (to_be_bytes w32 n) h.1).1

pub free_hex : (payload field : List ℕ) → IsHex payload field → IsFree field
free_hex payload field h =
    elim h [
      | inl dash ↦ rw dash.0 (free_text (codes "-") refl)
      | inr digits ↦ free_by is_hex_digit refl field (decode_of-ok field payload digits.2).1
    ]

pub free_raw : (bytes field : List ℕ) → IsRaw bytes field → IsFree field
free_raw bytes field h = free_by is_hex_digit refl field (decode_of-ok field bytes h.digits).1

-- no byte of a number is one that is no digit
pub digits_without : (b n : ℕ) → n < 2 ^ 64 → (IsInRange 48 57 b → ⊥) → All (λ x. (x == b) ≡ false) (decimal n)
digits_without b n fits out =
    let own : IsNumeralModel (AllDigits 10) (digits_value 10) = numerals_by_value _ tells_digits in
    All-from_get_or (λ x. (x == b) ≡ false) (decimal n) 0 (λ i low. ne_eqb _ b (not_in_digits own (decimal n) b (digits_decimal own n fits) out i low))

pub free_decimal : (n : ℕ) → n < 2 ^ 64 → IsFree (decimal n)
free_decimal n fits = digits_without 32 n fits (λ h. absurd (omega (arith, h.0)))
