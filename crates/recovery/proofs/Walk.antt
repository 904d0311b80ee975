-- A walk over the records of a log.
use Rattle.std.proofs.Common.{◌≡◌, ℕ, zero, suc, ◌+◌, ◌-◌, ◌<◌, ◌≤◌, ◌&&◌, nat_le, nat_eq, true, false, Bool, List, length, get_or, drop, refl, sym, ◌∙◌, ap, arith, length-drop}
use Rattle.std.proofs.lemmas.List.{get_or-drop, get_or-take, length-take-le, drop-drop}
use Rattle.stable_buffer.specs.Numbers.{length_at}
use Rattle.stable_buffer.specs.Log.{is_log, log_of}
use Rattle.recovery.proofs.Words.{length_at-agree}

module _ (end : ℕ) (disk : List ℕ) (from : 80 ≤ end) (within : end ≤ length disk) where
  log_length : length (log_of end disk) ≡ end - 80
  log_length = length-take-le (end - 80) (drop 80 disk) (omega (arith, length-drop 80 disk))

  pub rest_length : (at : ℕ) → 80 ≤ at → at ≤ end → length (drop (at - 80) (log_of end disk)) ≡ end - at
  rest_length at above below = omega (arith, length-drop (at - 80) (log_of end disk), log_length)

  pub rest_at : (at : ℕ) → 80 ≤ at → at + 2 ≤ end → length_at (drop (at - 80) (log_of end disk)) 0 ≡ length_at disk at
  rest_at at above below = length_at-agree (drop (at - 80) (log_of end disk)) 0 disk at
      (λ i lt.
      let e : 80 + (at - 80 + (0 + i)) ≡ at + i = omega arith in
      get_or-drop (at - 80) (log_of end disk) (0 + i) 0 ∙ get_or-take (end - 80) (drop 80 disk) (at - 80 + (0 + i)) 0 (omega arith) ∙ get_or-drop 80 disk (at - 80 + (0 + i)) 0 ∙ ap (λ j. get_or disk j 0) e)

  and_first : (a b c : Bool) → a ≡ false → (a && b && c) ≡ false
  and_first a b c is = grind (arith, is)

  and_second : (a b c : Bool) → b ≡ false → (a && b && c) ≡ false
  and_second a b c is = grind (arith, is)

  and_third : (a b c : Bool) → a ≡ true → b ≡ true → (a && b && c) ≡ c
  and_third a b c one two = rw (one, two) refl

  -- no room for the length
  pub no_length : (most left at : ℕ) → 0 < left → 80 ≤ at → at ≤ end → end - at < 2 → is_log most left (drop (at - 80) (log_of end disk)) ≡ false
  no_length most zero at some above below short = absurd (omega (arith, some))
  no_length most (suc k) at some above below short =
      let rest = drop (at - 80) (log_of end disk) in
      let size = rest_length at above below in
      let no : nat_le (2 + length_at rest 0) (length rest) ≡ false = grind (arith, size, short) in
      and_first _ _ _ no

  -- too long a message
  pub too_long : (most left at l : ℕ) → 0 < left → 80 ≤ at → at + 2 ≤ end → l ≡ length_at disk at → most < l → is_log most left (drop (at - 80) (log_of end disk)) ≡ false
  too_long most zero at l some above room is long = absurd (omega (arith, some))
  too_long most (suc k) at l some above room is long =
      let rest = drop (at - 80) (log_of end disk) in
      let here : length_at rest 0 ≡ l = rest_at at above room ∙ sym is in
      let no : nat_le (length_at rest 0) most ≡ false = grind (arith, here, long) in
      and_second _ _ _ no

  -- no room for the message
  pub no_message : (most left at l : ℕ) → 0 < left → 80 ≤ at → at + 2 ≤ end → l ≡ length_at disk at → end - at - 2 < l → is_log most left (drop (at - 80) (log_of end disk)) ≡ false
  no_message most zero at l some above room is long = absurd (omega (arith, some))
  no_message most (suc k) at l some above room is long =
      let rest = drop (at - 80) (log_of end disk) in
      let here : length_at rest 0 ≡ l = rest_at at above room ∙ sym is in
      let size : length rest ≡ end - at = rest_length at above (omega (arith, room)) in
      let no : nat_le (2 + length_at rest 0) (length rest) ≡ false = grind (arith, here, size, long, room) in
      and_first _ _ _ no

  -- one record more
  pub one_more : (most left at l : ℕ) → 0 < left → 80 ≤ at → at + 2 ≤ end → l ≡ length_at disk at → l ≤ most → l ≤ end - at - 2
      → is_log most (left - 1) (drop (at + (2 + l) - 80) (log_of end disk)) ≡ is_log most left (drop (at - 80) (log_of end disk))
  one_more most zero at l some above room is short fits = absurd (omega (arith, some))
  one_more most (suc k) at l some above room is short fits =
      let log = log_of end disk in
      let rest = drop (at - 80) log in
      let here : l ≡ length_at rest 0 = is ∙ sym (rest_at at above room) in
      let size : length rest ≡ end - at = rest_length at above (omega (arith, room)) in
      let yes : nat_le (2 + length_at rest 0) (length rest) ≡ true = grind (arith, here, size, fits, room) in
      let also : nat_le (length_at rest 0) most ≡ true = grind (arith, here, short) in
      let e : at - 80 + (2 + l) ≡ at + (2 + l) - 80 = omega (arith, above) in
      let k' : suc k - 1 ≡ k = omega arith in
      let there : drop (2 + length_at rest 0) rest ≡ drop (at + (2 + l) - 80) log = ap (λ j. drop (2 + j) rest) (sym here) ∙ drop-drop (2 + l) (at - 80) log ∙ ap (λ j. drop j log) e in
      (λ i. is_log most (k' i) (sym there i)) ∙ sym (and_third _ _ _ yes also)

  -- at the end
  pub at_end : (most left at : ℕ) → left ≤ 0 → 80 ≤ at → at ≤ end → nat_eq at end ≡ is_log most left (drop (at - 80) (log_of end disk))
  at_end most (suc k) at none above below = absurd (omega (arith, none))
  at_end most zero at none above below =
      let size = rest_length at above below in grind (arith, size, below)
