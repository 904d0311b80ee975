-- Words that begin with no dash.
use Rattle.std.proofs.Common.{◌≡◌, ℕ, ◌==◌, ◌<◌, ◌≤◌, ◌^◌, true, false, List, [], ◌∷◌, ◌++◌, length, get_or, decimal, refl, ap, arith}
use Rattle.std.proofs.lemmas.Bool.Decides.{nat_tests}
use Rattle.std.proofs.lemmas.Str.Parse.{IsNumeralModel, numerals_by_value, tells_digits, digit_at}
use Rattle.std.proofs.lemmas.Fmt.{digits_decimal, decimal_nonempty}
use Rattle.std.specs.Str.Parse.{AllDigits, digits_value}
use Rattle.command_line.specs.TableNames.{is_table_name}
use Rattle.command_line.specs.TimeLists.{AreTimes, times_word}

pub record IsPlainWord (word : List ℕ) : Type 0 where
  pub first : ℕ
  pub rest : List ℕ
  pub whole : word ≡ first ∷ rest
  pub undashed : (first == 45) ≡ false

own : IsNumeralModel (AllDigits 10) (digits_value 10)
own = numerals_by_value _ tells_digits

undashed_above : (x : ℕ) → 46 ≤ x → (x == 45) ≡ false
undashed_above x h = grind (arith, nat_tests)

plain_above : (word : List ℕ) → 0 < length word → 46 ≤ get_or word 0 0 → IsPlainWord word
plain_above [] some h = absurd (omega arith)
plain_above (x ∷ xs) some h = record { first = x; rest = xs; whole = refl; undashed = undashed_above x h }

pub plain_decimal : (n : ℕ) → n < 2 ^ 64 → IsPlainWord (decimal n)
plain_decimal n fits =
    let some : 0 < length (decimal n) = decimal_nonempty n fits in
    let range = digit_at (decimal n) 0 (digits_decimal own n fits) some in
    plain_above (decimal n) some (omega (arith, range.0))

pub plain_table : (name : List ℕ) → is_table_name name ≡ true → IsPlainWord name
plain_table [] h = grind arith
plain_table (x ∷ xs) h = record { first = x; rest = xs; whole = refl; undashed = grind (arith, nat_tests) }

plain_prefix : (prefix rest : List ℕ) → IsPlainWord prefix → IsPlainWord (prefix ++ rest)
plain_prefix prefix rest p = record { first = p.first; rest = p.rest ++ rest; whole = ap (λ w. w ++ rest) p.whole; undashed = p.undashed }

pub plain_times : (times : List ℕ) → AreTimes times → IsPlainWord (times_word times)
plain_times [] h = absurd (omega (arith, h.0))
plain_times (t ∷ []) h = plain_decimal t (omega (arith, h.2.0))
plain_times (t ∷ u ∷ times) h = plain_prefix (decimal t) (44 ∷ times_word (u ∷ times)) (plain_decimal t (omega (arith, h.2.0)))
