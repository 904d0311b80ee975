-- Both tables at their start.
use Rattle.std.proofs.Common.{◌≡◌, ℕ, ◌%◌, ◌^◌, ◌≤◌, ◌<◌, zero, suc, List, [], length, map, replicate, slice_index, Option, Some, None, MatchOption, sym, refl, ap, ◌∙◌, subst, arith}
use Rattle.std.proofs.lemmas.List.Elements.{All-nil}
use Rattle.std.proofs.Math.Nat.{mod-lt}
use mathlib.Core.Option.{some}
use lib.ListN.{get_elem?}
use Rattle.atomic_table.specs.Table.{opening}
use Rattle.passage.proofs.Views.{each_alone}
use Rattle.pump_core.specs.Passage.{IsAverage}
use Rattle.pump_frame.specs.Averages.{average_of}
use Rattle.pump_frame.specs.declared.frame.Item.{Item}
use Rattle.relay_ring.specs.RingRule.{word_count, AreHome, RingFits, RingKept, ring_first}
use Rattle.relay_ring.specs.PairRule.{pair_word, pair_words, shape_told, PairFits, PairKept, pair_first}
use Rattle.relay_ring.specs.Parting.{IsUnparted, IsPartOf}
use Rattle.relay_ring.specs.declared.pairs.RowTold.{RowTold}
use Rattle.relay_ring.specs.declared.ring_passage.Unparted.{Unparted}
use Rattle.relay_ring.specs.declared.ring_passage.RingPassage.{RingPassage}

abbrev Home : Type 0
Home = mathlib.Core.Option.Option (Option Item)

abbrev empties : ℕ → List Home
empties n = map some (replicate {A = Option Item} n None)

empty_at : (n k : ℕ) → k < n → get_elem? (empties n) k ≡ some (some None)
empty_at zero k lt = absurd (omega (arith, lt))
empty_at (suc n) zero lt = refl
empty_at (suc n) (suc k) lt = empty_at n k (omega (arith, lt))

count : (n : ℕ) → length (empties n) ≡ n
count zero = refl
count (suc n) = ap suc (count n)

pub ring_begins : (n : ℕ) → 0 < n → RingKept (opening (replicate word_count 0) (replicate n None) ring_first)
ring_begins n some_places =
    let homes : AreHome (empties n) n [] 0 [] 0 = λ p lp up a b. (None, empty_at n (p % n) (mod-lt p some_places), λ lt. absurd (omega (arith, lt))) in
    record {
      low = 0;
      high = 0;
      forwarded = [];
      taken = [];
      ahead = [];
      rest = [];
      limit = 0;
      words = (refl, refl, refl);
      whole = refl;
      some_slots = omega (arith, some_places, count n);
      below = omega arith;
      room = omega arith;
      number = 0;
      numbered = tt;
      small = omega arith;
      homes = subst (λ (z : ℕ). AreHome (empties n) z [] 0 [] 0) (sym (count n)) homes;
      each = each_alone (RingFits 0 0 [] [] [] 0) ring_first (
        (λ _. record { one = refl; forwarded = refl; limit = refl; tries = All-nil (λ (t : ℕ × ℕ). t.1 ≤ 0) }),
        λ _. record { one = refl; taken = refl; ahead = refl; tries = All-nil (λ (t : ℕ × ℕ). t.0 ≤ 0) },
      );
    }

pub pairs_begin : (row : RowTold) (words : List ℕ) → average_of row.averaging [] ≤ 10 ^ 9 → slice_index words pair_word ≡ average_of row.averaging [] → length words ≡ pair_words → PairKept row (opening words [] (pair_first row))
pairs_begin row words bound word width = record {
  writer = 0;
  times = [];
  word = word ∙ omega arith;
  width = width;
  bound = bound;
  each = each_alone (PairFits row 0 []) (pair_first row) (
    (λ _. record { one = refl; times = refl; shape = refl }),
    λ _. record { read_as = refl; averages = All-nil (IsAverage (shape_told row) []); never_fall = tt },
  );
}

pub unparted_is : (p : RingPassage) (o : Option Unparted) (u : Unparted) → IsUnparted p → o ≡ p.unparted → o ≡ Some u → IsPartOf p u
unparted_is p o u is was here = subst (λ (z : Option Unparted). MatchOption z ⊥ (IsPartOf p)) (sym was ∙ here) is
