-- Each step on low's cell keeps its rule.
use Rattle.std.proofs.Common.{◌≡◌, ℕ, ◌+◌, ◌≤◌, ◌==◌, true, false, true≢false, [], ◌∷◌, set, sym, refl, ◌∙◌, le_refl, le_trans, le_of_eq, arith}
use Rattle.std.proofs.lemmas.List.Elements.{All-nil}
use Rattle.crossbeam_utils.specs.Register.{Turns, Forks, Merges}
use Rattle.pump_core.proofs.PassageSteps.{all_weaken}
use Rattle.passage.specs.declared.low_cell.LowWord.{LowWord}
use Rattle.passage.specs.declared.low_cell.LowView.{LowView}
use Rattle.passage.specs.LowRule.{LowFits, LowKept, low_first, with_forwarded, with_seek, low_writer, low_reader, low_both, low_spent, LowTies}
use Rattle.passage.proofs.Views.{each_set, each_snoc, each_alone, was, all_maybe}

pub begins : (x : LowWord) → x.forwarded ≡ 0 → LowKept x (low_first ∷ [])
begins x e = record { writer = 0; each = each_alone (LowFits x 0) low_first ((λ _. (refl, sym e)), λ _. All-nil (λ t. t.0 ≤ x.forwarded)) }

pub forwards : (pass : ℕ) (v : LowView) (y : LowWord) → v.writes ≡ true → v.reads ≡ false → y.forwarded ≡ v.forwarded + 1 → Turns LowKept pass v (λ _. y) (λ v x y w. w ≡ with_forwarded v)
forwards pass v y a b e x views h at =
    let mine = (h.each pass v at).0 a in (
      with_forwarded v,
      record {
        writer = h.writer;
        each = each_set (LowFits y h.writer) views pass (with_forwarded v) ((λ _. (mine.0, sym e)), λ t. absurd (true≢false (sym t ∙ b)))
            (λ j u apart at'. (
              (λ t. absurd (apart (((h.each j u at').0 t).0 ∙ sym mine.0))),
              (λ t. all_weaken (λ (t : ℕ × ℕ). t.0 ≤ x.forwarded) (λ t. t.0 ≤ y.forwarded) u.tries (λ t le. omega (arith, le, mine.1, e)) ((h.each j u at').1 t)),
            ));
      },
      refl,
    )

pub seeks : (pass : ℕ) (v : LowView) (n : ℕ) → v.writes ≡ false → v.reads ≡ true → Turns LowKept pass v (λ x. x) (λ v x y w. (y ≡ x) × (w ≡ with_seek n v x.forwarded))
seeks pass v n a b x views h at =
    let w = with_seek n v x.forwarded in (
      w,
      record {
        writer = h.writer;
        each = each_set (LowFits x h.writer) views pass w
            ((λ t. absurd (true≢false (sym t ∙ a))), λ _. all_maybe (λ (t : ℕ × ℕ). t.0 ≤ x.forwarded) v.tries (x.forwarded, n) (x.forwarded == n) ((h.each pass v at).1 b) (le_refl x.forwarded)) (λ j u _ at'. h.each j u at');
      },
      (refl, refl),
    )

pub forks : (pass : ℕ) (v : LowView) → Forks LowKept pass v (low_writer v) (low_reader v)
forks pass v x views h at =
    let l = low_writer v in let r = low_reader v in let vs = set views pass l in let mine = h.each pass v at in
    record {
      writer = h.writer;
      each = each_snoc (LowFits x h.writer) vs r (each_set (LowFits x h.writer) views pass l (mine.0, λ t. absurd (true≢false (sym t))) (λ j u _ e. h.each j u e)) ((λ t. absurd (true≢false (sym t))), mine.1);
    }

pub merges : (pass : ℕ) (v : LowView) (other : ℕ) (u : LowView) → Merges LowKept pass v other u (low_both v u) low_spent
merges pass v other u x views h at two at' =
    let w = low_both v u in let vs = set views pass w in
    record {
      writer = h.writer;
      each = each_set (LowFits x h.writer) vs other low_spent ((λ t. absurd (true≢false (sym t))), λ t. absurd (true≢false (sym t)))
          (λ j y _ e. each_set (LowFits x h.writer) views pass w ((h.each pass v at).0, (h.each other u (was views pass other w u two at')).1) (λ i z _ e'. h.each i z e') j y e);
    }

pub learns : (pass : ℕ) (v : LowView) → v.writes ≡ true → v.reads ≡ true → Turns LowKept pass v (λ x. x) (λ v x y w. (w ≡ v) × LowTies v)
learns pass v a b x views h at =
    let mine = (h.each pass v at).0 a in
    let read = (h.each pass v at).1 b in
    (v, record { writer = h.writer; each = each_set (LowFits x h.writer) views pass v (h.each pass v at) (λ j u _ e. h.each j u e) }, (refl, all_weaken (λ (t : ℕ × ℕ). t.0 ≤ x.forwarded) (λ t. t.0 ≤ v.forwarded) v.tries (λ t le. le_trans le (le_of_eq (sym mine.1))) read))
