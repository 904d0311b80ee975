-- Each step on the second table keeps its rule.
use Rattle.std.proofs.Common.{◌≡◌, ℕ, ◌+◌, ◌/◌, ◌%◌, ◌^◌, ◌≤◌, true, false, true≢false, List, [], ◌∷◌, ◌++◌, length, set, slice_index, sym, refl, ap, ◌∙◌, subst, le_trans, le_of_eq, arith}
use Rattle.std.specs.List.{All}
use Rattle.std.proofs.lemmas.List.{length-set}
use Rattle.std.proofs.lemmas.Nat.{div-mul-add}
use Rattle.std.proofs.Math.Nat.{mul-add-mod_self_left, mod-eq_of_lt, mul_comm}
use Rattle.atomic_table.specs.Table.{Allows, Splits, Joins}
use Rattle.atomic_table.specs.Table.Act.{keeps}
use Rattle.passage.proofs.Views.{Each, each_set, each_snoc, was}
use Rattle.pump_frame.specs.Averages.{average_of}
use Rattle.pump_core.specs.Passage.{Shape, IsAverage}
use Rattle.pump_core.proofs.PassageSteps.{all_snoc, all_weaken, average_stays, average_now, never_fall_snoc}
use Rattle.relay_ring.specs.declared.pairs.PairView.{PairView}
use Rattle.relay_ring.specs.declared.pairs.RowTold.{RowTold}
use Rattle.relay_ring.specs.PairRule.{pair_word, shape_told, pair_shape, pair_of, PairFits, PairKept, Mine, with_pair, with_time, PairsUpTo, SeesPair, pair_writer, pair_reader, pair_both, pair_spent, PairTies}
use Rattle.relay_ring.proofs.Places.{word_set, word_kept}

-- the halves of the word
count_in : (count average : ℕ) → average ≤ 10 ^ 9 → pair_of count average / 2 ^ 32 ≡ count
count_in c a le = div-mul-add c (2 ^ 32) a (omega (arith, le))

average_in : (count average : ℕ) → average ≤ 10 ^ 9 → pair_of count average % 2 ^ 32 ≡ average
average_in c a le = ap (λ z. (z + a) % 2 ^ 32) (mul_comm c (2 ^ 32)) ∙ mul-add-mod_self_left (2 ^ 32) c a ∙ mod-eq_of_lt (omega (arith, le))

module _ (row : RowTold) (slots id : ℕ) (v : PairView) where
  pub reads : v.writes ≡ false → v.reads ≡ true → Allows (PairKept row) slots id (v, []) pair_word (λ n. n) (SeesPair (v, []))
  reads idle may s h sl at fits =
      let r = slice_index s.words pair_word in
      let mine = (h.each id v at).1 may in
      let a = average_of (shape_told row).averaging h.times in
      let c : r / 2 ^ 32 ≡ length h.times = ap (λ z. z / 2 ^ 32) h.word ∙ count_in (length h.times) a h.bound in
      let d : r % 2 ^ 32 ≡ a = ap (λ z. z % 2 ^ 32) h.word ∙ average_in (length h.times) a h.bound in
      let w = with_pair v (r / 2 ^ 32) (r % 2 ^ 32) in
      let up : PairsUpTo v (r / 2 ^ 32) = all_weaken (IsAverage (shape_told row) h.times) (λ p. p.0 ≤ r / 2 ^ 32) v.pairs (λ p i. le_trans i.0 (le_of_eq (sym c))) mine.averages in
      let now : IsAverage (shape_told row) h.times (r / 2 ^ 32, r % 2 ^ 32) = average_now (shape_told row) h.times (r / 2 ^ 32) (r % 2 ^ 32) c d in (
        w,
        keeps,
        tt,
        record {
          writer = h.writer;
          times = h.times;
          word = ap (λ z. slice_index z pair_word) (word_kept s.words pair_word) ∙ h.word;
          width = ap length (word_kept s.words pair_word) ∙ h.width;
          bound = h.bound;
          each = each_set (PairFits row h.writer h.times) s.views id w (
            (λ t. absurd (true≢false (sym t ∙ idle))),
            λ _. record {
              read_as = mine.read_as;
              averages = all_snoc (IsAverage (shape_told row) h.times) v.pairs (r / 2 ^ 32, r % 2 ^ 32) mine.averages now;
              never_fall = never_fall_snoc v.pairs (r / 2 ^ 32, r % 2 ^ 32) mine.never_fall up;
            },
          )
              (λ j u _ e. h.each j u e);
        },
        (refl, up, subst (λ z. z ≤ 10 ^ 9) (sym d) h.bound, (h.times, d ∙ ap (λ z. average_of z h.times) (sym mine.read_as))),
      )

  pub stores : v.writes ≡ true → v.reads ≡ false → (count average t taken : ℕ) → count ≡ length (v.times ++ t ∷ []) → average ≡ average_of (pair_shape v).averaging (v.times ++ t ∷ []) → average ≤ 10 ^ 9
      → Allows (PairKept row) slots id (v, []) pair_word (λ _. pair_of count average) (λ r m'. ◌≡◌ {A = Mine} m' (with_time v t taken, []))
  stores may idle count average t taken cn av bound s h sl at fits =
      let mine = (h.each id v at).0 may in
      let all = h.times ++ t ∷ [] in
      let grown : v.times ++ t ∷ [] ≡ all = ap (λ z. z ++ t ∷ []) mine.times in
      let a : average ≡ average_of (shape_told row).averaging all = av ∙ ap (λ (z : Shape). average_of z.averaging (v.times ++ t ∷ [])) mine.shape ∙ ap (average_of (shape_told row).averaging) grown in
      let n = pair_of count average in (
        with_time v t taken,
        keeps,
        tt,
        record {
          writer = h.writer;
          times = all;
          word = word_set s.words pair_word n (omega (arith, h.width)) ∙ (λ i. pair_of ((cn ∙ ap length grown) i) (a i));
          width = length-set s.words pair_word n ∙ h.width;
          bound = subst (λ z. z ≤ 10 ^ 9) a bound;
          each = each_set (PairFits row h.writer all) s.views id (with_time v t taken) ((λ _. record { one = mine.one; times = grown; shape = mine.shape }), λ y. absurd (true≢false (sym y ∙ idle)))
              (λ j u other e. (
                (λ y. absurd (other (((h.each j u e).0 y).one ∙ sym mine.one))),
                (λ y. let r = (h.each j u e).1 y in record { read_as = r.read_as; averages = all_weaken (IsAverage (shape_told row) h.times) (IsAverage (shape_told row) all) u.pairs (average_stays (shape_told row) h.times t) r.averages; never_fall = r.never_fall }),
              ));
        },
        refl,
      )

  pub forks : Splits (PairKept row) id v (pair_writer v) (pair_reader v)
  forks s h at =
      let l = pair_writer v in let r = pair_reader v in let vs = set s.views id l in
      let mine = h.each id v at in
      record {
        writer = h.writer;
        times = h.times;
        word = h.word;
        width = h.width;
        bound = h.bound;
        each = each_snoc (PairFits row h.writer h.times) vs r
            (each_set (PairFits row h.writer h.times) s.views id l ((λ t. let m = mine.0 t in record { one = m.one; times = m.times; shape = m.shape }), λ t. absurd (true≢false (sym t))) (λ j u _ e. h.each j u e))
            ((λ t. absurd (true≢false (sym t))), λ t. let m = mine.1 t in record { read_as = m.read_as; averages = m.averages; never_fall = m.never_fall });
      }

  pub merges : (other : ℕ) (u : PairView) → Joins (PairKept row) id v other u (pair_both v u) pair_spent
  merges other u s h at two at' =
      let w = pair_both v u in let vs = set s.views id w in
      let mine = h.each id v at in
      let theirs = h.each other u (was s.views id other w u two at') in
      let now : Each (PairFits row h.writer h.times) vs = each_set (PairFits row h.writer h.times) s.views id w
      ((λ t. let m = mine.0 t in record { one = m.one; times = m.times; shape = m.shape }), λ t. let m = theirs.1 t in record { read_as = m.read_as; averages = m.averages; never_fall = m.never_fall }) (λ i z _ e. h.each i z e) in
      record {
        writer = h.writer;
        times = h.times;
        word = h.word;
        width = h.width;
        bound = h.bound;
        each = each_set (PairFits row h.writer h.times) vs other pair_spent ((λ t. absurd (true≢false (sym t))), λ t. absurd (true≢false (sym t))) (λ j y _ e. now j y e);
      }

  pub learns : v.writes ≡ true → v.reads ≡ true → Allows (PairKept row) slots id (v, []) pair_word (λ n. n) (λ r m'. PairTies v)
  learns a b s h sl at fits =
      let mine = (h.each id v at).0 a in
      let read = (h.each id v at).1 b in
      let ties : PairTies v = record {
        averages = subst (λ (z : Shape × List ℕ). All (IsAverage z.0 z.1) v.pairs) (λ i. (sym mine.shape i, sym mine.times i)) read.averages;
        never_fall = read.never_fall;
      } in (
        v,
        keeps,
        tt,
        record {
          writer = h.writer;
          times = h.times;
          word = ap (λ z. slice_index z pair_word) (word_kept s.words pair_word) ∙ h.word;
          width = ap length (word_kept s.words pair_word) ∙ h.width;
          bound = h.bound;
          each = each_set (PairFits row h.writer h.times) s.views id v (h.each id v at) (λ j u _ e. h.each j u e);
        },
        ties,
      )
