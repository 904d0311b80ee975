-- What is kept of a record's claims says which of them is the first wrong one.
use Rattle.std.proofs.Common.{◌≡◌, ◌⊎◌, inl, inr, ℕ, suc, zero, ◌+◌, ◌<◌, ◌≤◌, true, false, List, [], ◌∷◌, ◌++◌, length, get_or, take, drop, Option, None, Some, refl, sym, ap, ◌∙◌, subst, arith, length-append, append_assoc, ◌-◌}
use Rattle.std.specs.Prelude.{Bool, if◌then◌else◌, is_some, nat_le, slice_get, slice_index_or}
use Rattle.std.specs.List.{All}
use Rattle.std.proofs.lemmas.Bool.{cases_eq, leb-true, leb-false}
use Rattle.std.proofs.lemmas.List.{take_more, take_all, drop_all, take-append-le, take-append-drop}
use Rattle.std.proofs.lemmas.List.Elements.{All-nil, All-cons, All-push, All-head, All-tail, All-weaker}
use Rattle.std.proofs.Math.Seq.{drop-cons}
use Rattle.pump_frame.specs.declared.averaging.Averaging.{Averaging}
use Rattle.pump_frame.specs.Averages.{averaging_of, average_of}
use Rattle.pump_audit.specs.declared.claims.Claim.{Claim}
use Rattle.pump_audit.specs.Records.{Record}
use Rattle.pump_audit.specs.Claims.{has_end, IsRight, AreRight, IsFirstWrong}
use Rattle.pump_audit.specs.Pairs.{AreAlike, EndsLike, IsSettled, AreFew, Keeps, AreRisen, FallsAt, Fell, RiseFrom, top, IsMet, Fails, Waits, Meets}

-- ---- a fall ----

pub fell_kept : (claims : List Claim) (c : Claim) (g : ℕ) (o : Option ℕ) → is_some o ≡ true → Fell claims g o → Fell (c ∷ claims) g o
fell_kept claims c g None e f = absurd (cc)
fell_kept claims c g (Some line) e f = (c ∷ f.0, f.1, f.2, ap (λ l. c ∷ l) f.3, f.4, f.5, f.6)

pub fell_now : (claims : List Claim) (c : Claim) (g : ℕ) (o : Option ℕ) → is_some o ≡ false → c.count < g → Fell claims g o → FallsAt (c ∷ claims) c.line
fell_now claims c g None e low f = ([], c, claims, refl, f.0, λ all. absurd (let m = f.2 c.count all in omega (arith, m, low)), refl)
fell_now claims c g (Some line) e low f = absurd (cc)

-- .. of a record without an end
pub risen_right : (r : Record) → has_end r ≡ false → (claims : List Claim) → AreRisen claims → AreRight r claims
risen_right r e [] h = tt
risen_right r e (c ∷ older) h = (record { rises = h.0; average = λ t. absurd (cc) }, risen_right r e older h.1)

pub fall_wrong : (r : Record) → has_end r ≡ false → (claims : List Claim) (line : ℕ) → FallsAt claims line → IsFirstWrong r claims line
fall_wrong r e claims line f = (f.0, f.1, f.2, f.3, risen_right r e f.2 f.4, λ right. f.5 right.rises, f.6)

-- ---- counts that rise ----

rise_push : (n : ℕ) (prefix : List Claim) (p : Claim) → RiseFrom n prefix → top n prefix ≤ p.count → RiseFrom n (prefix ++ p ∷ [])
rise_push n [] p h low = (low, tt)
rise_push n (q ∷ prefix) p h low = (h.0, rise_push q.count prefix p h.1 low)

rise_prefix : (n : ℕ) (prefix : List Claim) (p : Claim) → RiseFrom n (prefix ++ p ∷ []) → RiseFrom n prefix × (top n prefix ≤ p.count)
rise_prefix n [] p h = (tt, h.0)
rise_prefix n (q ∷ prefix) p h = let k = rise_prefix q.count prefix p h.1 in ((h.0, k.0), k.1)

top_push : (n : ℕ) (prefix : List Claim) (p : Claim) → top n (prefix ++ p ∷ []) ≡ p.count
top_push n [] p = refl
top_push n (q ∷ prefix) p = top_push q.count prefix p

top_most : (n m : ℕ) (prefix : List Claim) → n ≤ m → All (λ b. b.count ≤ m) prefix → top n prefix ≤ m
top_most n m [] low all = low
top_most n m (q ∷ prefix) low all = top_most q.count m prefix (All-head (λ b. b.count ≤ m) q prefix all) (All-tail (λ b. b.count ≤ m) q prefix all)

-- ---- the times meet the claims ----

module _ (a : Averaging) (times : List ℕ) (pairs : List Claim) where
  prefix_push : (met : ℕ) (p : Claim) → met < length pairs → p ≡ get_or pairs met p → take (met + 1) pairs ≡ take met pairs ++ p ∷ []
  prefix_push met p low is = take_more pairs met p low ∙ ap (λ q. take met pairs ++ q ∷ []) (sym is)

  rest_is : (met : ℕ) (p : Claim) → met < length pairs → p ≡ get_or pairs met p → drop met pairs ≡ p ∷ drop (met + 1) pairs
  rest_is met p low is =
      let next : suc met ≡ met + 1 = omega arith in
      drop-cons pairs met p low ∙ ap (λ q. q ∷ drop (suc met) pairs) (sym is) ∙ ap (λ k. p ∷ drop k pairs) next

  waits_top : (prefix rest : List Claim) (n : ℕ) → top 0 prefix ≡ n → Waits a times n prefix rest
  waits_top prefix [] n e = tt
  waits_top prefix (q ∷ rest) n e = elim (nat_le n q.count) as (λ b. nat_le n q.count ≡ b → (n ≤ q.count) ⊎ Fails a times prefix q) [
    | true ↦ λ s. inl (leb-true n q.count s)
    | false ↦ λ s. inr (inl (let low : q.count < n = leb-false n q.count s in omega (arith, low, e)))
  ] refl

  pub meet_step : (met : ℕ) (p : Claim) → met < length pairs → p ≡ get_or pairs met p → p.count ≡ length times → p.average ≡ average_of a times → Meets a times (length times) pairs met → Meets a times (length times) pairs (met + 1)
  meet_step met p low is count average h =
      let prefix = prefix_push met p low is in
      let most = top_most 0 (length times) (take met pairs) (omega arith) (All-weaker (IsMet a times) (λ b. b.count ≤ length times) (λ b m. m.0) (take met pairs) h.are_met) in
      let ok : IsMet a times p = (omega (arith, count), average ∙ ap (average_of a) (sym (take_all p.count times (omega (arith, count))))) in
      record {
        few = omega (arith, low);
        rises = subst (RiseFrom 0) (sym prefix) (rise_push 0 (take met pairs) p h.rises (omega (arith, most, count)));
        are_met = subst (All (IsMet a times)) (sym prefix) (All-push (IsMet a times) (take met pairs) p h.are_met ok);
        waits = waits_top (take (met + 1) pairs) (drop (met + 1) pairs) (length times) (ap (top 0) prefix ∙ top_push 0 (take met pairs) p ∙ count);
      }

  stops : (n : ℕ) (prefix : List Claim) (p : Claim) → n ≡ length times → (p.count ≡ n → p.average ≡ average_of a times → ⊥) → (n ≤ p.count) ⊎ Fails a times prefix p → (n + 1 ≤ p.count) ⊎ Fails a times prefix p
  stops n prefix p is other (inr fails) = inr fails
  stops n prefix p is other (inl low) = elim (cases_eq p.count n) [
    | inl same ↦ inr (inr (omega (arith, same, is), λ e. other same (e ∙ ap (average_of a) (take_all p.count times (omega (arith, same, is))))))
    | inr apart ↦ inl (omega (arith, low, apart))
  ]

  pub meet_stop : (met : ℕ) (p : Claim) → met < length pairs → p ≡ get_or pairs met p → (p.count ≡ length times → p.average ≡ average_of a times → ⊥) → Meets a times (length times) pairs met → Meets a times (length times + 1) pairs met
  meet_stop met p low is other h =
      let rest = rest_is met p low is in
      let was : Waits a times (length times) (take met pairs) (p ∷ drop (met + 1) pairs) = subst (Waits a times (length times) (take met pairs)) rest h.waits in
      record {
        few = h.few;
        rises = h.rises;
        are_met = h.are_met;
        waits = subst (Waits a times (length times + 1) (take met pairs)) (sym rest) (stops (length times) (take met pairs) p refl other was);
      }

  pub meet_end : (met n m : ℕ) → length pairs ≤ met → Meets a times n pairs met → Meets a times m pairs met
  meet_end met n m past h = record {
    few = h.few;
    rises = h.rises;
    are_met = h.are_met;
    waits = subst (Waits a times m (take met pairs)) (sym (drop_all met pairs past)) tt;
  }

  met_on : (t : ℕ) (p : Claim) → IsMet a times p → IsMet a (times ++ t ∷ []) p
  met_on t p h = (omega (arith, h.0, length-append times (t ∷ [])), h.1 ∙ ap (average_of a) (sym (take-append-le p.count times (t ∷ []) h.0)))

  waits_on : (t n : ℕ) (prefix rest : List Claim) → Waits a times n prefix rest → Waits a (times ++ t ∷ []) n prefix rest
  waits_on t n prefix [] h = tt
  waits_on t n prefix (p ∷ rest) (inl low) = inl low
  waits_on t n prefix (p ∷ rest) (inr (inl fall)) = inr (inl fall)
  waits_on t n prefix (p ∷ rest) (inr (inr f)) = inr (inr (omega (arith, f.0, length-append times (t ∷ [])), λ e. f.1 (e ∙ ap (average_of a) (take-append-le p.count times (t ∷ []) f.0))))

  pub meet_push : (t n met : ℕ) → Meets a times n pairs met → Meets a (times ++ t ∷ []) n pairs met
  meet_push t n met h = record {
    few = h.few;
    rises = h.rises;
    are_met = All-weaker (IsMet a times) (IsMet a (times ++ t ∷ [])) (met_on t) (take met pairs) h.are_met;
    waits = waits_on t n (take met pairs) (drop met pairs) h.waits;
  }

-- ---- the claims of a record with an end ----

snoc_split : (prefix : List Claim) (p : Claim) (rest before : List Claim) (c : Claim) → prefix ++ p ∷ rest ≡ before ++ c ∷ [] → ((prefix ≡ before) × (p ≡ c)) ⊎ ((more : List Claim) × (before ≡ prefix ++ p ∷ more))
snoc_split [] p rest [] c e = inl (refl, cc)
snoc_split [] p rest (b ∷ bs) c e = inr (bs, cc)
snoc_split (f ∷ fs) p rest [] c e = absurd (let l = ap length e in omega (arith, l, length-append fs (p ∷ rest)))
snoc_split (f ∷ fs) p rest (b ∷ bs) c e =
    let head : f ≡ b = cc in
    elim (snoc_split fs p rest bs c cc) [
      | inl same ↦ inl (let tail = same.0 in cc, same.1)
      | inr more ↦ inr (more.0, let tail = more.1 in cc)
    ]

-- ---- what is kept is few ----

is_empty : (prefix : List Claim) (p q : Claim) (rest before : List Claim) (c : Claim) → prefix ++ p ∷ q ∷ rest ≡ before ++ c ∷ [] → prefix ++ p ∷ [] ≡ before → rest ≡ []
is_empty prefix p q [] before c e same = refl
is_empty prefix p q (x ∷ rest) before c e same =
    absurd (let l = ap length e in let k = ap length same in omega (arith, l, k, length-append prefix (p ∷ q ∷ x ∷ rest), length-append prefix (p ∷ []), length-append before (c ∷ [])))

pub last_two : (xs : List Claim) (none : Claim) → 2 ≤ length xs
    → xs ≡ take (length xs - 2) xs ++ slice_index_or xs (length xs - 2) none ∷ slice_index_or xs (length xs - 1) none ∷ []
last_two xs none low =
    let n = length xs - 2 in
    let m = length xs - 1 in
    let first : drop n xs ≡ get_or xs n none ∷ drop (suc n) xs = drop-cons xs n none (omega (arith, low)) in
    let next : suc n ≡ m = omega (arith, low) in
    let second : drop m xs ≡ get_or xs m none ∷ drop (suc m) xs = drop-cons xs m none (omega (arith, low)) in
    let end : drop (suc m) xs ≡ [] = drop_all (suc m) xs (omega (arith, low)) in
    sym (take-append-drop n xs) ∙ ap (λ l. take n xs ++ l) (first ∙ ap (λ k. get_or xs n none ∷ drop k xs) next ∙ ap (λ l. get_or xs n none ∷ l) (second ∙ ap (λ l. get_or xs m none ∷ l) end))

-- a claim more, behind a rise, that does not tell the last pair again
pub few_push : (before : List Claim) (c : Claim) → AreFew before → (EndsLike before c → ⊥)
    → ((prefix : List Claim) (p q : Claim) → before ≡ prefix ++ p ∷ q ∷ [] → p.count < q.count) → AreFew (before ++ c ∷ [])
few_push before c few other rises prefix p q rest e = elim (snoc_split (prefix ++ p ∷ []) q rest before c (append_assoc prefix (p ∷ []) (q ∷ rest) ∙ sym e)) [
  | inl same ↦ (
    λ alike. other (prefix, p, sym same.0, subst (AreAlike p) same.1 alike),
    λ more. absurd (more (is_empty prefix p q rest before c (sym e) same.0)),
  )
  | inr more ↦ (let now = more.1 ∙ append_assoc prefix (p ∷ []) (q ∷ more.0) in ((few prefix p q more.0 now).0, λ is. rise more.0 now))
]
  where
    rise : (more : List Claim) → before ≡ prefix ++ p ∷ q ∷ more → p.count < q.count
    rise [] now = rises prefix p q now
    rise (m ∷ more) now = (few prefix p q (m ∷ more) now).1 (λ none. absurd (cc))

pub few_if : (pushed : Bool) (before : List Claim) (c : Claim) → AreFew before → AreFew (before ++ c ∷ []) → AreFew (if pushed then before ++ c ∷ [] else before)
few_if true before c was now = now
few_if false before c was now = was

module _ (r : Record) where
  abbrev ok : Claim → Type 0
  ok p = IsMet (averaging_of r.row) r.times p

  prefix_all : (xs : List Claim) (x : Claim) → All ok (xs ++ x ∷ []) → All ok xs
  prefix_all [] x h = All-nil ok
  prefix_all (y ∷ xs) x h = All-cons ok y xs (All-head ok y (xs ++ x ∷ []) h) (prefix_all xs x (All-tail ok y (xs ++ x ∷ []) h))

  last_all : (xs : List Claim) (x : Claim) → All ok (xs ++ x ∷ []) → ok x
  last_all [] x h = All-head ok x [] h
  last_all (y ∷ xs) x h = last_all xs x (All-tail ok y (xs ++ x ∷ []) h)

  pair_risen : (n : ℕ) (prefix : List Claim) (p q : Claim) → RiseFrom n (prefix ++ p ∷ q ∷ []) → p.count ≤ q.count
  pair_risen n [] p q h = h.1.0
  pair_risen n (f ∷ prefix) p q h = pair_risen f.count prefix p q h.1

  pair_all : (prefix : List Claim) (p q : Claim) → All ok (prefix ++ p ∷ q ∷ []) → ok p × ok q
  pair_all [] p q h = (All-head ok p (q ∷ []) h, All-head ok q [] (All-tail ok p (q ∷ []) h))
  pair_all (f ∷ prefix) p q h = pair_all prefix p q (All-tail ok f (prefix ++ p ∷ q ∷ []) h)

  -- where one of the last two is wrong whatever the times are, not all are right
  settled_wrong : (pairs : List Claim) → IsSettled pairs → RiseFrom 0 pairs → All ok pairs → ⊥
  settled_wrong pairs (prefix, p, q, is, low, apart) rises all =
      let up = pair_risen 0 prefix p q (subst (RiseFrom 0) is rises) in
      let met = pair_all prefix p q (subst (All ok) is all) in
      let same : p.count ≡ q.count = omega (arith, low, up) in
      apart (same, met.0.1 ∙ ap (λ n. average_of (averaging_of r.row) (take n r.times)) same ∙ sym met.1.1)

  -- where those that are kept are right, all are, and none is greater than the last
  all_right : (claims pairs : List Claim) → Keeps claims pairs → RiseFrom 0 pairs → All ok pairs → AreRight r claims × All (λ b. b.count ≤ top 0 pairs) claims
  all_right [] pairs k rises all = (tt, All-nil (λ b. b.count ≤ top 0 pairs))
  all_right (c ∷ older) pairs (before, k, inl e) rises all =
      let risen = rise_prefix 0 before c (subst (RiseFrom 0) e rises) in
      let all' : All ok (before ++ c ∷ []) = subst (All ok) e all in
      let h = all_right older before k risen.0 (prefix_all before c all') in
      let below = All-weaker (λ b. b.count ≤ top 0 before) (λ b. b.count ≤ c.count) (λ b low. omega (arith, low, risen.1)) older h.1 in
      let last : top 0 pairs ≡ c.count = ap (top 0) e ∙ top_push 0 before c in (
        (record { rises = below; average = λ t. last_all before c all' }, h.0),
        All-weaker (λ b. b.count ≤ c.count) (λ b. b.count ≤ top 0 pairs) (λ b low. omega (arith, low, last)) (c ∷ older) (All-cons (λ b. b.count ≤ c.count) c older (omega arith) below),
      )
  all_right (c ∷ older) pairs (before, k, inr (e, inr settled)) rises all =
      absurd (settled_wrong before settled (subst (RiseFrom 0) e rises) (subst (All ok) e all))
  all_right (c ∷ older) pairs (before, k, inr (e, inl same)) rises all =
      let h = all_right older before k (subst (RiseFrom 0) e rises) (subst (All ok) e all) in
      let p = same.1 in
      let last : top 0 before ≡ p.count = ap (top 0) same.2 ∙ top_push 0 same.0 p in
      let met : ok p = last_all same.0 p (subst (All ok) (e ∙ same.2) all) in
      let mine : ok c = (omega (arith, met.0, same.3.0), sym same.3.1 ∙ met.1 ∙ ap (λ n. average_of (averaging_of r.row) (take n r.times)) same.3.0) in
      let below = All-weaker (λ b. b.count ≤ top 0 before) (λ b. b.count ≤ c.count) (λ b low. omega (arith, low, last, same.3.0)) older h.1 in (
        (record { rises = below; average = λ t. mine }, h.0),
        All-weaker (λ b. b.count ≤ c.count) (λ b. b.count ≤ top 0 pairs) (λ b low. omega (arith, low, last, same.3.0, ap (top 0) e)) (c ∷ older) (All-cons (λ b. b.count ≤ c.count) c older (omega arith) below),
      )

  keeps_most : (claims pairs : List Claim) → Keeps claims pairs → (m : ℕ) → All (λ b. b.count ≤ m) claims → top 0 pairs ≤ m
  keeps_most [] pairs k m all = omega (arith, ap (top 0) k)
  keeps_most (c ∷ older) pairs (before, k, inl e) m all =
      let low = All-head (λ b. b.count ≤ m) c older all in
      omega (arith, low, ap (top 0) e, top_push 0 before c)
  keeps_most (c ∷ older) pairs (before, k, inr (e, kept)) m all =
      let low = keeps_most older before k m (All-tail (λ b. b.count ≤ m) c older all) in
      omega (arith, low, ap (top 0) e)

  -- one of those that are kept is wrong, and those before it are right
  first_wrong : (claims pairs : List Claim) → Keeps claims pairs → (prefix : List Claim) (p : Claim) (rest : List Claim) → pairs ≡ prefix ++ p ∷ rest → RiseFrom 0 prefix → All ok prefix
      → (p.count < top 0 prefix) ⊎ (ok p → ⊥) → has_end r ≡ true → IsFirstWrong r claims p.line
  first_wrong [] pairs k prefix p rest e rises all bad ends = absurd (let l = ap length (sym e ∙ k) in omega (arith, l, length-append prefix (p ∷ rest)))
  first_wrong (c ∷ older) pairs (before, k, inl took) prefix p rest e rises all bad ends =
      elim (snoc_split prefix p rest before c (sym e ∙ took)) [
        | inl same ↦
            let risen : RiseFrom 0 before = subst (RiseFrom 0) same.0 rises in
            let met : All ok before = subst (All ok) same.0 all in
            ([], c, older, refl, (all_right older before k risen met).0, (λ right. wrong before k same.0 same.1 bad right), ap (λ (q : Claim). q.line) same.1)
        | inr more ↦
            let w = first_wrong older before k prefix p more.0 more.1 rises all bad ends in
            (c ∷ w.0, w.1, w.2, ap (λ l. c ∷ l) w.3, w.4, w.5, w.6)
      ]
    where
      wrong : (before : List Claim) → Keeps older before → prefix ≡ before → p ≡ c → (p.count < top 0 prefix) ⊎ (ok p → ⊥) → IsRight r c older → ⊥
      wrong before k same is (inl low) right = let most = keeps_most older before k c.count right.rises in absurd (omega (arith, most, low, ap (top 0) same, ap (λ (q : Claim). q.count) is))
      wrong before k same is (inr not) right = not (subst ok (sym is) (right.average ends))
  first_wrong (c ∷ older) pairs (before, k, inr (kept, same)) prefix p rest e rises all bad ends =
      let w = first_wrong older before k prefix p rest (sym kept ∙ e) rises all bad ends in
      (c ∷ w.0, w.1, w.2, ap (λ l. c ∷ l) w.3, w.4, w.5, w.6)

  -- ---- what the times have not met ----

  past_end : (pairs : List Claim) (met : ℕ) → slice_get pairs met ≡ None → length pairs ≤ met
  past_end [] met e = omega arith
  past_end (p ∷ pairs) zero e = absurd (cc)
  past_end (p ∷ pairs) (suc met) e = let l = past_end pairs met e in omega (arith, l)

  at_place : (pairs : List Claim) (met : ℕ) (p : Claim) → slice_get pairs met ≡ Some p → pairs ≡ take met pairs ++ p ∷ drop (suc met) pairs
  at_place [] met p e = absurd (cc)
  at_place (q ∷ pairs) zero p e = cc
  at_place (q ∷ pairs) (suc met) p e = ap (λ l. q ∷ l) (at_place pairs met p e)

  pub met_right : (claims pairs : List Claim) (n met : ℕ) → Keeps claims pairs → Meets (averaging_of r.row) r.times n pairs met → slice_get pairs met ≡ None → AreRight r claims
  met_right claims pairs n met k h none =
      let whole : take met pairs ≡ pairs = take_all met pairs (past_end pairs met none) in
      (all_right claims pairs k (subst (RiseFrom 0) whole h.rises) (subst (All ok) whole h.are_met)).0

  pub unmet_wrong : (claims pairs : List Claim) (met : ℕ) (p : Claim) → has_end r ≡ true → Keeps claims pairs → Meets (averaging_of r.row) r.times (length r.times + 1) pairs met → slice_get pairs met ≡ Some p → IsFirstWrong r claims p.line
  unmet_wrong claims pairs met p ends k h here =
      first_wrong claims pairs k (take met pairs) p (drop (suc met) pairs) (at_place pairs met p here) h.rises h.are_met (bad (waiting (drop met pairs) h.waits (rest_here pairs met p here))) ends
    where
      rest_here : (pairs : List Claim) (met : ℕ) (p : Claim) → slice_get pairs met ≡ Some p → drop met pairs ≡ p ∷ drop (suc met) pairs
      rest_here [] met p e = absurd (cc)
      rest_here (q ∷ pairs) zero p e = cc
      rest_here (q ∷ pairs) (suc met) p e = rest_here pairs met p e

      waiting : (rest : List Claim) → Waits (averaging_of r.row) r.times (length r.times + 1) (take met pairs) rest → rest ≡ p ∷ drop (suc met) pairs → (length r.times + 1 ≤ p.count) ⊎ Fails (averaging_of r.row) r.times (take met pairs) p
      waiting rest w e = subst (Waits (averaging_of r.row) r.times (length r.times + 1) (take met pairs)) e w

      bad : (length r.times + 1 ≤ p.count) ⊎ Fails (averaging_of r.row) r.times (take met pairs) p → (p.count < top 0 (take met pairs)) ⊎ (ok p → ⊥)
      bad (inl late) = inr (λ o. absurd (omega (arith, late, o.0)))
      bad (inr (inl low)) = inl low
      bad (inr (inr f)) = inr (λ o. f.1 o.1)
