-- Each step on the queue keeps its rule.
use Rattle.std.proofs.Common.{◌≡◌, ◌≢◌, ℕ, ◌^◌, ◌<◌, true, true≢false, [], ◌∷◌, ◌++◌, length, set, sym, refl, ap, ◌∙◌, subst, append_assoc, arith}
use Rattle.std.proofs.lemmas.List.{length-append}
use Rattle.crossbeam_queue.specs.Fifo.{Pushes, Pops, Forks, Merges, Learns}
use Rattle.pump_core.specs.Passage.{Numbered, ComesNext}
use Rattle.pump_core.proofs.PassageSteps.{goes_on}
use Rattle.pump_frame.specs.declared.frame.Item.{Item}
use Rattle.passage.specs.declared.queue.QueueView.{QueueView}
use Rattle.passage.specs.QueueRule.{QueueFits, QueueKept, queue_first, with_sent, with_got, queue_pusher, queue_popper, queue_both, queue_spent, QueueTies}
use Rattle.passage.proofs.Views.{Each, each_set, each_snoc, each_alone, was}

pub begins : QueueKept [] (queue_first ∷ [])
begins = record {
  pusher = 0;
  popper = 0;
  forwarded = [];
  taken = [];
  whole = refl;
  number = 0;
  numbered = tt;
  small = omega arith;
  each = each_alone (QueueFits 0 0 [] []) queue_first ((λ _. (refl, refl)), λ _. (refl, refl));
}

pub sends : (n pass : ℕ) (v : QueueView) (x : Item) → v.pushes ≡ true → ComesNext v.forwarded x.number → x.number < 2 ^ 48
    → Pushes QueueKept n pass v x (λ w. (w ≡ with_sent v x) × (length v.forwarded < 2 ^ 48))
sends n pass v x may f lt items views _ h at =
    let mine = (h.each pass v at).0 may in
    let on = goes_on h.number h.forwarded x h.numbered h.small (subst (λ z. ComesNext z x.number) mine.1 f) lt in
    let all = h.forwarded ++ x ∷ [] in (
      with_sent v x,
      record {
        pusher = h.pusher;
        popper = h.popper;
        forwarded = all;
        taken = h.taken;
        whole = ap (λ z. z ++ x ∷ []) h.whole ∙ append_assoc h.taken items (x ∷ []);
        number = on.0;
        numbered = on.1;
        small = on.2;
        each = each_set (QueueFits h.pusher h.popper all h.taken) views pass (with_sent v x) ((λ _. (mine.0, ap (λ z. z ++ x ∷ []) mine.1)), (h.each pass v at).1)
            (λ j u apart e. ((λ t. absurd (apart (((h.each j u e).0 t).0 ∙ sym mine.0))), (h.each j u e).1));
      },
      (refl, omega (arith, on.2, length-append h.forwarded (x ∷ []), ap length mine.1)),
    )

pub gets : (pass : ℕ) (v : QueueView) → v.pops ≡ true → Pops QueueKept pass v (λ x w. (w ≡ with_got v x) × (length v.taken < 2 ^ 48))
gets pass v may x items views h at =
    let mine = (h.each pass v at).1 may in
    let all = h.taken ++ x ∷ [] in (
      with_got v x,
      record {
        pusher = h.pusher;
        popper = h.popper;
        forwarded = h.forwarded;
        taken = all;
        whole = h.whole ∙ sym (append_assoc h.taken (x ∷ []) items);
        number = h.number;
        numbered = h.numbered;
        small = h.small;
        each = each_set (QueueFits h.pusher h.popper h.forwarded all) views pass (with_got v x) ((h.each pass v at).0, λ _. (mine.0, ap (λ z. z ++ x ∷ []) mine.1))
            (λ j u apart e. ((h.each j u e).0, λ t. absurd (apart (((h.each j u e).1 t).0 ∙ sym mine.0))));
      },
      (refl, omega (arith, h.small, ap length h.whole, length-append h.taken (x ∷ items), ap length mine.1)),
    )

pub forks : (pass : ℕ) (v : QueueView) → v.pops ≡ true → Forks QueueKept pass v (queue_pusher v) (queue_popper v)
forks pass v may items views h at =
    let l = queue_pusher v in let r = queue_popper v in let vs = set views pass l in let mine = h.each pass v at in
    record {
      pusher = h.pusher;
      popper = length vs;
      forwarded = h.forwarded;
      taken = h.taken;
      whole = h.whole;
      number = h.number;
      numbered = h.numbered;
      small = h.small;
      each = each_snoc (QueueFits h.pusher (length vs) h.forwarded h.taken) vs r
          (each_set (QueueFits h.pusher (length vs) h.forwarded h.taken) views pass l (mine.0, λ t. absurd (true≢false (sym t)))
          (λ j u apart e. ((h.each j u e).0, λ t. absurd (apart (((h.each j u e).1 t).0 ∙ sym (mine.1 may).0)))))
          ((λ t. absurd (true≢false (sym t))), λ _. (refl, (mine.1 may).1));
    }

pub merges : (pass : ℕ) (v : QueueView) (other : ℕ) (u : QueueView) → v.pushes ≡ true → u.pops ≡ true → Merges QueueKept pass v other u (queue_both v u) queue_spent
merges pass v other u a b items views h at two at' =
    let w = queue_both v u in let vs = set views pass w in
    let mine = (h.each pass v at).0 a in
    let theirs = (h.each other u (was views pass other w u two at')).1 b in
    let Now : ℕ → QueueView → Type 0 = λ j y. j ≢ other → QueueFits h.pusher pass h.forwarded h.taken j y in
    let now : Each Now vs = each_set Now views pass w (λ _. ((λ _. mine), λ _. (refl, theirs.1))) (λ j y _ e apart. ((h.each j y e).0, λ t. absurd (apart (((h.each j y e).1 t).0 ∙ sym theirs.0)))) in
    record {
      pusher = h.pusher;
      popper = pass;
      forwarded = h.forwarded;
      taken = h.taken;
      whole = h.whole;
      number = h.number;
      numbered = h.numbered;
      small = h.small;
      each = each_set (QueueFits h.pusher pass h.forwarded h.taken) vs other queue_spent ((λ t. absurd (true≢false (sym t))), λ t. absurd (true≢false (sym t))) (λ j y apart e. now j y e apart);
    }

pub learns : (pass : ℕ) (v : QueueView) → v.pushes ≡ true → v.pops ≡ true → Learns QueueKept pass v (λ items. QueueTies v items)
learns pass v a b items views h at =
    let mine = (h.each pass v at).0 a in let theirs = (h.each pass v at).1 b in
    (mine.1 ∙ h.whole ∙ ap (λ z. z ++ items) (sym theirs.1), (h.number, subst (Numbered h.number) (sym mine.1) h.numbered))
