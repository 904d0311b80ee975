-- What the views of the three objects together say of the two ends.
use Rattle.std.proofs.Common.{ap, get_or, [], ◌∷◌, ◌≡◌, ℕ, ◌+◌, ◌≤◌, List, length, Option, Some, MatchOption, sym, ◌∙◌, subst, le_trans, le_of_eq, arith}
use Rattle.pump_core.specs.Passage.{Low, High, Agrees, Fits}
use Rattle.pump_frame.specs.declared.frame.Item.{Item}
use Rattle.pump_core.proofs.PassageSteps.{all_weaken}
use Rattle.passage.specs.declared.queue.QueueView.{QueueView}
use Rattle.passage.specs.declared.high_cell.HighView.{HighView}
use Rattle.passage.specs.declared.low_cell.LowView.{LowView}
use Rattle.passage.specs.declared.queue_passage.Unparted.{Unparted}
use Rattle.passage.specs.declared.queue_passage.QueuePassage.{QueuePassage}
use Rattle.passage.specs.HighRule.{HighTies, high_both, high_reader, shape_told}
use Rattle.passage.specs.LowRule.{LowTies, low_both, low_reader}
use Rattle.passage.specs.QueueRule.{QueueTies, queue_both}
use Rattle.passage.specs.Parting.{IsUnparted, IsPartOf}

module _ (sent popped : QueueView) (told read : HighView) (low sought : LowView) (items : List Item) where
  -- the law of the passage, from what each object's two views say; the low end found room for all that
  -- it forwarded
  pub ties_fit : (l : Low) (h : High) (places : ℕ) → QueueTies (queue_both sent popped) items → HighTies (high_both told (high_reader read)) → LowTies (low_both low (low_reader sought))
      → told.taken ≡ length popped.taken → low.forwarded ≡ length sent.forwarded → read.room ≡ places → length sent.forwarded ≤ read.found + places
      → l ≡ record { forwarded = sent.forwarded; tries = read.tries; pairs = read.pairs } → h.taken ≡ popped.taken → h.times ≡ told.times → h.taken_before ≡ told.taken_before → h.tries ≡ sought.tries
      → Fits (shape_told told) l h
  ties_fit l h places queue high lows taken forwarded room held is a b c d =
      let l₀ : Low = record { forwarded = sent.forwarded; tries = read.tries; pairs = read.pairs } in
      let h₀ : High = record { taken = popped.taken; floor = h.floor; times = told.times; taken_before = told.taken_before; tries = sought.tries } in
      let agrees : Agrees (shape_told told) l₀ h₀ = record {
        held = (items, queue.0);
        rises = queue.1;
        averages = high.averages;
        never_fall = high.never_fall;
        low_tries = all_weaken (λ (t : ℕ × ℕ). t.1 ≤ told.taken) (λ t. t.1 ≤ length popped.taken) read.tries (λ t le. le_trans le (le_of_eq taken)) high.tries;
        high_tries = all_weaken (λ (t : ℕ × ℕ). t.0 ≤ low.forwarded) (λ t. t.0 ≤ length sent.forwarded) sought.tries (λ t le. le_trans le (le_of_eq forwarded)) lows;
        each_time = high.counts.0;
        before = all_weaken (λ (n : ℕ). n ≤ told.taken) (λ n. n ≤ length popped.taken) told.taken_before (λ n le. le_trans le (le_of_eq taken)) high.counts.1;
      } in
      let fits : Fits (shape_told told) l₀ h₀ = record { agrees = agrees; room = omega (arith, held, room, high.room, high.found, taken) } in
      let same : h₀ ≡ h = λ i. record { taken = sym a i; floor = h.floor; times = sym b i; taken_before = sym c i; tries = sym d i } in
      subst (λ (p : Low × High). Fits (shape_told told) p.0 p.1) (λ i. (sym is i, same i)) fits

pub unparted_is : (p : QueuePassage) (o : Option Unparted) (u : Unparted) → IsUnparted p → o ≡ p.unparted → o ≡ Some u → IsPartOf p u
unparted_is p o u is was some = subst (λ (z : Option Unparted). MatchOption z ⊥ (IsPartOf p)) (sym was ∙ some) is

-- one list of three tables is another
pub three : {A : Type 0} (a b c x y z : A) → (a ∷ b ∷ c ∷ []) ≡ (x ∷ y ∷ z ∷ []) → (a ≡ x) × (b ≡ y) × (c ≡ z)
three a b c x y z e = (ap (λ l. get_or l 0 a) e, ap (λ l. get_or l 1 a) e, ap (λ l. get_or l 2 a) e)
