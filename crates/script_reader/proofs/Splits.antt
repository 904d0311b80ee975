-- A line is its fields with one space between, and has no other fields.
use Rattle.std.proofs.Common.{◌≡◌, ℕ, ◌+◌, ◌≤◌, Bool, true, false, cond, ltb, List, [], ◌∷◌, Option, None, Some, length, take, drop, refl, ap, ◌∙◌, arith}
use Rattle.std.proofs.lemmas.Bool.{ltb-false, ltb-true}
use Rattle.std.proofs.lemmas.Option.{cond_some}
use Rattle.std.proofs.lemmas.List.Sums.{fails_before_first}
use Rattle.std.proofs.lemmas.List.Elements.{All-from_get_or}
use Rattle.std.proofs.lemmas.List.Splits.{length-slice_split, slice_split_none, slice_split_at, slice_split_first}
use Rattle.std.specs.Prelude.{not, IsTrue, is_some}
use Rattle.std.specs.Option.{option_copied}
use Rattle.std.specs.Borrow.{Bor}
use Rattle.std.specs.List.{position, position_or_len, slice_split, All, join_with_byte}
use Rattle.script_reader.specs.Fields.{is_space, fields_from}

-- no space stands in a field
abbrev pub IsFree : List ℕ → Type 0
IsFree field = All (λ b. is_space b ≡ false) field

none_test : (b : Bool) (x : ℕ) → cond b (Some x) None ≡ None → b ≡ false
none_test true x e = cc
none_test false x e = refl

pub split_some : (xs : List ℕ) (i : ℕ) → position is_space xs ≡ Some i → slice_split is_space xs ≡ take i xs ∷ slice_split is_space (drop (i + 1) xs)
split_some xs i e =
    let p = cond_some (ltb (position_or_len is_space xs) (length xs)) _ i e in
    rw (← p.1) (slice_split_first is_space xs 0 (ltb-true _ _ p.0))

pub split_none : (xs : List ℕ) → position is_space xs ≡ None → slice_split is_space xs ≡ xs ∷ []
split_none xs e =
    let past : length xs ≤ position_or_len is_space xs = ltb-false _ _ (none_test _ _ e) in
    slice_split_none is_space xs (All-from_get_or (λ b. is_space b ≡ false) xs 0 (λ i low. fails_before_first is_space xs i 0 (omega arith)))

abbrev pub AreFree : List (List ℕ) → Type 0
AreFree [] = Unit {0}
AreFree (field ∷ fields) = IsFree field × AreFree fields

-- fields with one space between are split into themselves
pub split_joined : (field : List ℕ) (fields : List (List ℕ)) → IsFree field → AreFree fields → slice_split is_space (join_with_byte 32 (field ∷ fields)) ≡ field ∷ fields
split_joined field [] free frees = slice_split_none is_space field free
split_joined field (next ∷ fields) free frees =
    slice_split_at is_space field 32 (join_with_byte 32 (next ∷ fields)) free refl
    ∙ ap (λ rest. field ∷ rest) (split_joined next fields frees.0 frees.1)

pub some_split : (xs : List ℕ) → slice_split is_space xs ≡ [] → ⊥
some_split xs e = absurd (omega (arith, ap length e, length-slice_split is_space xs))

pub done_none : (o : Option (Bor (List ℕ))) (r : Bool) → is_some o ≡ not r → (IsTrue r → fields_from (option_copied o) ≡ []) × (fields_from (option_copied o) ≡ [] → IsTrue r)
done_none None true e = (λ h. refl, λ h. refl)
done_none None false e = cc
done_none (Some x) true e = cc
done_none (Some x) false e = (λ h. cc, λ h. absurd (some_split x.now h))
