-- What the views of both tables together say of the two ends.
use Rattle.std.proofs.Common.{◌≡◌, ℕ, ◌≤◌, [], ◌∷◌, get_or, length, sym, ap, subst, arith}
use Rattle.std.specs.List.{All}
use Rattle.pump_core.specs.Passage.{Low, High, Agrees, Fits}
use Rattle.pump_core.proofs.PassageSteps.{all_weaken}
use Rattle.relay_ring.specs.declared.ring.RingView.{RingView}
use Rattle.relay_ring.specs.declared.pairs.PairView.{PairView}
use Rattle.relay_ring.specs.RingRule.{ring_both, RingTies}
use Rattle.relay_ring.specs.PairRule.{pair_shape, pair_both, PairTies}

-- one list of two tables is another
pub two : {A : Type 0} (a b x y : A) → (a ∷ b ∷ []) ≡ (x ∷ y ∷ []) → (a ≡ x) × (b ≡ y)
two a b x y e = (ap (λ l. get_or l 0 a) e, ap (λ l. get_or l 1 a) e)

module _ (low high : RingView) (writer reader : PairView) where
  -- the law of the passage, from what each table's two views say
  pub ties_fit : (l : Low) (h : High) (slots taken : ℕ) → RingTies slots (ring_both low high) → PairTies (pair_both writer reader) → writer.places ≡ slots
      → taken ≡ length high.taken → length writer.taken_before ≡ length writer.times → All (λ n. n ≤ taken) writer.taken_before
      → l ≡ record { forwarded = low.forwarded; tries = low.low_tries; pairs = reader.pairs } → h.taken ≡ high.taken → h.times ≡ writer.times → h.taken_before ≡ writer.taken_before → h.tries ≡ high.high_tries
      → Fits (pair_shape writer) l h
  ties_fit l h slots taken ring pairs places count each before is a b c d =
      let s = pair_shape writer in
      let l₀ : Low = record { forwarded = low.forwarded; tries = low.low_tries; pairs = reader.pairs } in
      let h₀ : High = record { taken = high.taken; floor = h.floor; times = writer.times; taken_before = writer.taken_before; tries = high.high_tries } in
      let agrees : Agrees s l₀ h₀ = record {
        held = ring.held;
        rises = ring.rises;
        averages = pairs.averages;
        never_fall = pairs.never_fall;
        low_tries = ring.low_tries;
        high_tries = ring.high_tries;
        each_time = each;
        before = all_weaken (λ (n : ℕ). n ≤ taken) (λ n. n ≤ length high.taken) writer.taken_before (λ n le. omega (arith, le, count)) before;
      } in
      let fits : Fits s l₀ h₀ = record { agrees = agrees; room = omega (arith, ring.room, places) } in
      let same : h₀ ≡ h = λ i. record { taken = sym a i; floor = h.floor; times = sym b i; taken_before = sym c i; tries = sym d i } in
      subst (λ (p : Low × High). Fits s p.0 p.1) (λ i. (sym is i, same i)) fits
