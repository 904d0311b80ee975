-- What stands behind the kind of a message with which a file begins.
use Rattle.std.proofs.Common.{◌≡◌, ℕ, ◌^◌, ◌<◌, ◌≤◌, ◌-◌, Bool, true, false, ◌&&◌, ◌==◌, nat_lt, if◌then◌else◌, List, [], length, take, drop, slice_index, refl, sym, ◌∙◌, subst, arith}
use Rattle.std.proofs.lemmas.Bool.Decides.{nat_tests}
use Rattle.std.proofs.lemmas.List.{drop_all, take_rest}
use Rattle.byteorder.specs.Endian.{big_number}
use Rattle.file_messages.specs.FileNames.{is_file_name, IsFileName}
use Rattle.file_messages.specs.Messages.{Message, Start, End, Other, start_of}
use Rattle.file_messages.proofs.Names.{no_name}

not_true : (b : Bool) → (b ≡ true → ⊥) → b ≡ false
not_true true h = absurd (h refl)
not_true false h = refl

is_one : (n : ℕ) → n ≡ 1 → (n == 1) ≡ true
is_one n h = grind (arith, nat_tests)

is_not_one : (n : ℕ) → (n ≡ 1 → ⊥) → (n == 1) ≡ false
is_not_one n h = grind (arith, nat_tests)

is_small : (n k : ℕ) → n < k → nat_lt n k ≡ true
is_small n k h = grind (arith, nat_tests)

small_is : (n k : ℕ) → nat_lt n k ≡ true → n < k
small_is n k h = grind (arith, nat_tests)

is_large : (n k : ℕ) → k ≤ n → nat_lt n k ≡ false
is_large n k h = grind (arith, nat_tests)

-- a start has a lawful name and size
abbrev pub IsLawfulMessage : Message → Type 0
IsLawfulMessage (Start name size) = IsFileName name × (size < 2 ^ 48)
IsLawfulMessage message = Unit {0}

-- a message is no end
abbrev pub IsNoEnd : Message → Type 0
IsNoEnd (End digest) = ⊥
IsNoEnd message = Unit {0}

-- what is cut off behind so many bytes
pub behind : (rest : List ℕ) (n : ℕ) → take (length rest - n) (drop n rest) ≡ drop n rest
behind rest n = take_rest rest n

module _ (rest : List ℕ) where
  by_tests : Bool → Bool → Bool → Message
  by_tests version size name = if version && (size && name) then Start (drop 9 rest) (big_number 8 (drop 1 rest)) else Other

  started : (version size name : Bool) → (slice_index rest 0 == 1) ≡ version → nat_lt (big_number 8 (drop 1 rest)) (2 ^ 48) ≡ size → is_file_name (drop 9 rest) ≡ name
      → start_of rest ≡ by_tests version size name
  unfolding start_of by_tests
  started version size name e f g = λ i. by_tests (e i) (f i) (g i)

  pub no_version : (slice_index rest 0 ≡ 1 → ⊥) → start_of rest ≡ Other
  unfolding by_tests
  no_version e = started false _ _ (is_not_one _ e) refl refl

  too_large_by : (version name : Bool) → by_tests version false name ≡ Other
  unfolding by_tests
  too_large_by true name = refl
  too_large_by false name = refl

  pub too_large : 2 ^ 48 ≤ big_number 8 (drop 1 rest) → start_of rest ≡ Other
  too_large e = started _ false _ refl (is_large (big_number 8 (drop 1 rest)) (2 ^ 48) e) refl ∙ too_large_by _ _

  unnamed_by : (version size : Bool) → by_tests version size false ≡ Other
  unfolding by_tests
  unnamed_by true true = refl
  unnamed_by true false = refl
  unnamed_by false size = refl

  pub unnamed : (IsFileName (drop 9 rest) → ⊥) → start_of rest ≡ Other
  unnamed e = started _ _ false refl refl (not_true (is_file_name (drop 9 rest)) e) ∙ unnamed_by _ _

  pub is_start : slice_index rest 0 ≡ 1 → big_number 8 (drop 1 rest) < 2 ^ 48 → IsFileName (drop 9 rest)
      → start_of rest ≡ Start (drop 9 rest) (big_number 8 (drop 1 rest))
  unfolding by_tests
  is_start e f g = started true true true (is_one _ e) (is_small (big_number 8 (drop 1 rest)) (2 ^ 48) f) g

  -- the name and the size of a start are lawful
  lawful_by : (version size name : Bool) → (slice_index rest 0 == 1) ≡ version → nat_lt (big_number 8 (drop 1 rest)) (2 ^ 48) ≡ size → is_file_name (drop 9 rest) ≡ name
      → IsLawfulMessage (by_tests version size name)
  unfolding by_tests
  lawful_by true true true e f g = (g, small_is (big_number 8 (drop 1 rest)) (2 ^ 48) f)
  lawful_by true true false e f g = tt
  lawful_by true false name e f g = tt
  lawful_by false size name e f g = tt

  pub lawful_start : IsLawfulMessage (start_of rest)
  lawful_start = subst IsLawfulMessage (sym (started _ _ _ refl refl refl)) (lawful_by _ _ _ refl refl refl)

  -- it gives no file, and is no end
  no_end_by : (version size name : Bool) → IsNoEnd (by_tests version size name)
  unfolding by_tests
  no_end_by true true true = tt
  no_end_by true true false = tt
  no_end_by true false name = tt
  no_end_by false size name = tt

  pub no_end_start : IsNoEnd (start_of rest)
  no_end_start = subst IsNoEnd (sym (started _ _ _ refl refl refl)) (no_end_by _ _ _)

-- too few bytes have no name
pub too_few : (rest : List ℕ) → length rest < 9 → start_of rest ≡ Other
too_few rest few =
    let none : drop 9 rest ≡ [] = drop_all 9 rest (omega arith) in
    unnamed rest (λ is. let no = no_name in let yes = subst (λ (n : List ℕ). is_file_name n ≡ true) none is in cc)
