-- The packets that are kept, of all that were ever sent.
use Rattle.std.proofs.Common.{◌≡◌, ◌⊎◌, inl, inr, ⊎_elim, ℕ, zero, suc, ◌+◌, ◌-◌, ◌≤◌, ◌<◌, Bool, true, false, cond, List, [], ◌∷◌, ◌++◌, length, drop, None, Some, refl, sym, ap, ◌∙◌, arith, nat_le, nat_lt, length-append, length-drop}
use Rattle.std.specs.Prelude.{slice_get}
use Rattle.std.proofs.lemmas.Bool.Decides.{nat_tests}
use Rattle.std.proofs.lemmas.List.{drop-append-le}
use Rattle.circular_buffer.specs.Buffer.{keep_last}
use Rattle.script_reader.specs.Highs.{place}

few_or_many : (n : ℕ) → (n ≤ 64) ⊎ (64 ≤ n)
few_or_many n = elim (nat_le n 64) as (λ b. nat_le n 64 ≡ b → (n ≤ 64) ⊎ (64 ≤ n)) [
  | true ↦ λ e. inl (grind (arith, nat_tests))
  | false ↦ λ e. inr (grind (arith, nat_tests))
] refl

module _ {X : Type 0} where
  pub get_drop : (a : ℕ) (xs : List X) (i : ℕ) → slice_get (drop a xs) i ≡ slice_get xs (a + i)
  get_drop zero xs i = (let e : 0 + i ≡ i = omega arith in rw e refl)
  get_drop (suc a) [] i = refl
  get_drop (suc a) (x ∷ xs) i = (let e : suc a + i ≡ suc (a + i) = omega arith in rw e (get_drop a xs i))

  -- what is found so many places from the end of a list stands there
  pub at_back : (xs : List X) (back : ℕ) (x : X) → back < length xs
      → cond (nat_lt back (length xs)) (slice_get xs (length xs - back - 1)) None ≡ Some x → slice_get xs (length xs - 1 - back) ≡ Some x
  at_back xs back x less at =
      let test : nat_lt back (length xs) ≡ true = grind (arith, nat_tests) in
      let same : length xs - 1 - back ≡ length xs - back - 1 = omega arith in
      ap (slice_get xs) same ∙ sym (ap (λ (b : Bool). cond b (slice_get xs (length xs - back - 1)) None) test) ∙ at

  -- a packet that is kept stands at its place in the whole list
  pub in_whole : (xs : List X) (back : ℕ) (x : X) → back < length (keep_last 64 xs)
      → slice_get (keep_last 64 xs) (length (keep_last 64 xs) - 1 - back) ≡ Some x → slice_get xs (place xs back) ≡ Some x
  in_whole xs back x less at =
      let l = length-drop (length xs - 64) xs in
      let e : length xs - 64 + (length (keep_last 64 xs) - 1 - back) ≡ length xs - 1 - back = omega (arith, l) in
      ap (slice_get xs) (sym e) ∙ sym (get_drop (length xs - 64) xs (length (keep_last 64 xs) - 1 - back)) ∙ at

  pub drop_one : (a : ℕ) (ys : List X) → drop 1 (drop a ys) ≡ drop (suc a) ys
  drop_one zero ys = refl
  drop_one (suc a) [] = refl
  drop_one (suc a) (y ∷ ys) = drop_one a ys

  -- one more packet that is sent
  pub keep_last_push : (xs : List X) (x : X) → keep_last 64 (keep_last 64 xs ++ x ∷ []) ≡ keep_last 64 (xs ++ x ∷ [])
  keep_last_push xs x = ⊎_elim
      (λ (few : length xs ≤ 64). (let z : length xs - 64 ≡ 0 = omega arith in ap (λ n. keep_last 64 (drop n xs ++ x ∷ [])) z))
      (λ (many : 64 ≤ length xs).
      let a : ℕ = length xs - 64 in
      let le : a ≤ length xs = omega arith in
      let same : drop a xs ++ x ∷ [] ≡ drop a (xs ++ x ∷ []) = sym (drop-append-le a xs (x ∷ []) le) in
      let one : length (drop a xs ++ x ∷ []) - 64 ≡ 1 = omega (arith, length-append (drop a xs) (x ∷ []), length-drop a xs) in
      let more : length (xs ++ x ∷ []) - 64 ≡ suc a = omega (arith, length-append xs (x ∷ [])) in
      ap (λ n. drop n (drop a xs ++ x ∷ [])) one ∙ ap (drop 1) same ∙ drop_one a (xs ++ x ∷ []) ∙ ap (λ n. drop n (xs ++ x ∷ [])) (sym more))
      (few_or_many (length xs))

  pub keep_last_some : (xs : List X) (x : X) → 0 < length (keep_last 64 (xs ++ x ∷ []))
  keep_last_some xs x = omega (arith, length-append xs (x ∷ []), length-drop (length (xs ++ x ∷ []) - 64) (xs ++ x ∷ []))
