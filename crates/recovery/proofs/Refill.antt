-- What an opening deals out, by numbers.
use Rattle.std.proofs.Common.{◌≡◌, inl, inr, ℕ, zero, suc, ◌+◌, ◌-◌, ◌<◌, ◌≤◌, ◌==◌, nat_lt, min, Bool, true, false, if◌then◌else◌, List, [], ◌∷◌, length, take, drop, slice_get, Option, Some, None, refl, sym, ◌∙◌, ap, subst, arith}
use Rattle.std.specs.List.{range_with_len, All}
use Rattle.std.specs.Cmp.{both_ways}
use Rattle.std.proofs.lemmas.Bool.{cases_lt, eqb-true, eq-eqb}
use Rattle.std.proofs.lemmas.List.{take_all}
use Rattle.std.proofs.lemmas.List.Elements.{All-nil, All-cons, All-head, All-tail}
use Rattle.pump_frame.specs.declared.frame.Item.{Item}
use Rattle.pump_core.specs.World.{live}
use Rattle.pump_core.specs.Passage.{Numbered, ComesNext}
use Rattle.recovery.specs.Deals.{number_of, numbered, passing, InHands, HandsFit}
use Rattle.recovery.specs.Refills.{numbers_in, OpeningsRefill}
use Rattle.recovery.proofs.Dealing.{length_numbered, get_beyond}

get_numbered : (b : ℕ) (ms : List (List ℕ)) (k : ℕ) → k < length ms → number_of (slice_get (numbered b ms) k) ≡ Some (b + k)
get_numbered b [] k lt = absurd (omega (arith, lt))
get_numbered b (m ∷ ms) zero lt = let e : b ≡ b + 0 = omega arith in ap (λ j. Some j) e
get_numbered b (m ∷ ms) (suc k) lt = let e : b + 1 + k ≡ b + suc k = omega arith in get_numbered (b + 1) ms k (omega (arith, lt)) ∙ ap (λ j. Some j) e

taken : (b n : ℕ) (ms : List (List ℕ)) → numbers_in (take n (numbered b ms)) ≡ range_with_len b (min n (length ms))
taken b zero ms = let e : min 0 (length ms) ≡ 0 = omega arith in sym (ap (λ k. range_with_len b k) e)
taken b (suc n) [] = let e : min (suc n) 0 ≡ 0 = omega arith in sym (ap (λ k. range_with_len b k) e)
taken b (suc n) (m ∷ ms) = let e : suc (min n (length ms)) ≡ min (suc n) (suc (length ms)) = omega arith in ap (λ (l : List ℕ). b ∷ l) (taken (b + 1) n ms) ∙ ap (λ k. range_with_len b k) e

held_is : (b n : ℕ) (ms : List (List ℕ)) → range_with_len (b + 1) (min n (length ms - 1)) ≡ numbers_in (take n (drop 1 (numbered b ms)))
held_is b n [] = let e : min n (0 - 1) ≡ 0 = omega arith in ap (λ k. range_with_len (b + 1) k) e ∙ ap numbers_in (sym (take_all n [] (omega arith)))
held_is b n (m ∷ ms) = let e : suc (length ms) - 1 ≡ length ms = omega arith in ap (λ k. range_with_len (b + 1) (min n k)) e ∙ sym (taken (b + 1) n ms)

high_is : (b : ℕ) (ms : List (List ℕ)) → (if nat_lt 0 (length ms) then Some b else None) ≡ number_of (slice_get (numbered b ms) 0)
high_is b [] = refl
high_is b (m ∷ ms) = let e : nat_lt 0 (suc (length ms)) ≡ true = grind arith in rw (e) refl

low_is : (b n e : ℕ) (ms : List (List ℕ)) → 3 ≤ n → b + length ms ≡ e → length ms ≤ n → (if length ms == n then Some (e - 1) else None) ≡ number_of (slice_get (numbered b ms) (n - 1))
low_is b n e ms some is fits = elim (cases_lt (length ms) n) [
  | inl less ↦
      let no : (length ms == n) ≡ false = grind (arith, less) in
      rw (no) (sym (ap number_of (get_beyond (numbered b ms) (n - 1) (omega (arith, length_numbered b ms, less)))))
  | inr full ↦
      let yes : (length ms == n) ≡ true = grind (arith, fits, full) in
      let at : e - 1 ≡ b + (n - 1) = omega (arith, is, fits, full, some) in
      rw (yes) (ap (λ j. Some j) at ∙ sym (get_numbered b ms (n - 1) (omega (arith, full, some))))
]

pub refills : OpeningsRefill
refills w ms first last some is fits has =
    let l : length ms ≡ live w = omega (arith, is) in
    record {
      high = ap (λ k. if nat_lt 0 k then Some w.removed else None) (sym l) ∙ high_is w.removed ms ∙ ap number_of (sym has.first);
      held = ap (λ k. range_with_len (w.removed + 1) (min (w.capacity - 2) (k - 1))) (sym l) ∙ held_is w.removed (w.capacity - 2) ms;
      low = ap (λ k. if k == w.capacity then Some (length w.accepted - 1) else None) (sym l) ∙ low_is w.removed w.capacity (length w.accepted) ms some is fits ∙ ap number_of (sym has.last);
    }

-- ---- the hands and the ends, whatever is dealt out ----

pub hands_fit : (n b e : ℕ) (ms : List (List ℕ)) (high low : Option Item) → 3 ≤ n → b + length ms ≡ e → e ≤ b + n → InHands n (numbered b ms) high low → HandsFit n b e high low
hands_fit n b e ms high low wide is fits hands =
    let some : nat_lt 0 (length ms) ≡ nat_lt b e = both_ways _ _ (λ t. grind (arith, t, is)) (λ t. grind (arith, t, is)) in
    let full : (length ms == n) ≡ (e == b + n) =
    both_ways _ _ (λ t. let q = eqb-true (length ms) n t in eq-eqb e (b + n) (omega (arith, q, is))) (λ t. let q = eqb-true e (b + n) t in eq-eqb (length ms) n (omega (arith, q, is))) in
    record {
      first = ap number_of hands.first ∙ sym (high_is b ms) ∙ ap (λ (t : Bool). if t then Some b else None) some;
      last = ap number_of hands.last ∙ sym (low_is b n e ms wide is (omega (arith, is, fits))) ∙ ap (λ (t : Bool). if t then Some (e - 1) else None) full;
    }

taken_numbered : (b k : ℕ) (ms : List (List ℕ)) → Numbered b (take k (numbered b ms))
taken_numbered b zero ms = tt
taken_numbered b (suc k) [] = tt
taken_numbered b (suc k) (m ∷ ms) = (refl, taken_numbered (b + 1) k ms)

taken_next : (b k : ℕ) (ms : List (List ℕ)) (next : ℕ) → next ≡ b + min k (length ms) → ComesNext (take k (numbered b ms)) next
taken_next b zero ms next is = tt
taken_next b (suc k) [] next is = tt
taken_next b (suc zero) (m ∷ ms) next is = omega (arith, is)
taken_next b (suc (suc k)) (m ∷ []) next is = omega (arith, is)
taken_next b (suc (suc k)) (m ∷ p ∷ ms) next is = taken_next (b + 1) (suc k) (p ∷ ms) next (omega (arith, is))

-- the one behind them is the low hand's, or else the next message
pub passing_next : (n b e next : ℕ) (ms : List (List ℕ)) → 3 ≤ n → b + length ms ≡ e → e ≤ b + n → next ≡ (if e == b + n then e - 1 else e) → ComesNext (passing n (numbered b ms)) next
passing_next n b e next [] wide is fits at = subst (λ (l : List Item). ComesNext l next) (sym (take_all (n - 2) [] (omega arith))) tt
passing_next n b e next (m ∷ ms) wide is fits at = taken_next (b + 1) (n - 2) ms next (elim (cases_lt e (b + n)) [
  | inl less ↦ let no : (e == b + n) ≡ false = grind (arith, less) in at ∙ ap (λ (t : Bool). if t then e - 1 else e) no ∙ omega (arith, less, is)
  | inr full ↦ let yes : (e == b + n) ≡ true = grind (arith, fits, full) in at ∙ ap (λ (t : Bool). if t then e - 1 else e) yes ∙ omega (arith, full, fits, is, wide)
])

-- every item that is dealt out has one of the messages
pub all_dealt_out : (P : List ℕ → Type 0) (b : ℕ) (ms : List (List ℕ)) → All P ms → All (λ (x : Item). P x.payload) (numbered b ms)
all_dealt_out P b [] all = All-nil (λ (x : Item). P x.payload)
all_dealt_out P b (m ∷ ms) all = All-cons (λ (x : Item). P x.payload) (record { number = b; payload = m }) (numbered (b + 1) ms) (All-head P m ms all) (all_dealt_out P (b + 1) ms (All-tail P m ms all))
