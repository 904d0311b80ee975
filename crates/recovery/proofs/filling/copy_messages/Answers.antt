use Rattle.std.proofs.Common.{Err, ap, refl, suc, take, ◌∙◌, ◌≡◌, inl, inr, ◌+◌, ◌-◌, ◌<◌, ◌≤◌, List, [], ℕ, false, length, get_or, sym, subst, arith}
use Rattle.std.proofs.lemmas.Bool.{false≢true}
use Rattle.std.proofs.lemmas.Result.{err_from_is_err_and}
use Rattle.std.proofs.lemmas.Bool.{cases_lt}
use Rattle.std.proofs.lemmas.List.Elements.{All-get_or}
use Rattle.stable_buffer.specs.Stands.{InSlot}
use Rattle.std.proofs.lemmas.List.{take_all}
use Rattle.recovery.specs.Moves.{with_message, with_messages}
use Rattle.recovery.proofs.Bytes.{next_message}
use Rattle.disk_model.proofs.Run.{started}
use Rattle.stable_buffer.specs.Making.{KeepsFirst}
use Rattle.recovery.proofs.Unwritten.{kept_still}
use Rattle.recovery.proofs.Surveys.{kept_after}
use Rattle.recovery.proofs.Fillings.{first_again}
use Rattle.recovery.proofs.filling.copy_messages.Goals as goal

pub loop-n-init : goal.loop-n-init
loop-n-init g c =
    let m = g.D.Disk.told in
    let B = c.args.counts.now.removed in
    let none : 0 ≡ B - B = omega arith in
    record {
      above = omega arith;
      copied = λ told live s short i lt. absurd (omega (arith, lt));
      put = λ told live s short. ap (λ k. with_messages c.args.to.now B (take k live) (m.reading c.args.target.now)) none;
      size = c.requires.size;
      kept = kept_still m c.args.source.now;
      moves = started m (KeepsFirst 80) (λ d. record { same = refl }) c.args.target.now;
      counts = omega arith;
    }

pub returns-in_err-copy_message : goal.returns-in_err-copy_message
returns-in_err-copy_message g c =
    let m = g.D.Disk.told in
    let v = c.loop-n.invariant in
    let e = c.in_err-copy_message.ensures in
    let (fault, was, same) = err_from_is_err_and c.from_residual.result c.from_residual.ensures.1 in
    let is = was ∙ ap (λ d. Err d) same in
    record {
      copied = rw (is) tt;
      put = rw (is) tt;
      size = rw (is) tt;
      moves = first_again m 80 _ _ _ v.moves c.copy_message.ensures.moves;
      kept = rw (is) (kept_after m _ _ _ _ v.kept e.kept);
      counted = rw (is) (record { counts = omega (arith, v.counts, e.counted.counts); rose = λ failed. let up = e.counted.rose failed in omega (arith, v.counts, up) });
      one = rw (is) e.one;
    }

pub returns : goal.returns
returns g c =
    let m = g.D.Disk.told in
    let v = c.loop-n.invariant in
    record {
      copied = λ told live s short i lt. v.copied told live s short i (omega (arith, lt, s.count, v.above, c.loop-n-test.false));
      put = λ told live s short. v.put told live s short
          ∙ ap (λ (ms : List (List ℕ)). with_messages c.args.to.now c.args.counts.now.removed ms (m.reading c.args.target.now))
          (take_all (c.loop-n.n - c.args.counts.now.removed) live (omega (arith, s.count, v.above, c.loop-n-test.false)));
      size = v.size;
      moves = v.moves;
      kept = v.kept;
      counted = record { counts = v.counts; rose = λ failed. elim (false≢true failed) [ ] };
      one = tt;
    }

pub loop-n-preserved : goal.loop-n-preserved
loop-n-preserved g c =
    let m = g.D.Disk.told in
    let v = c.loop-n.invariant in
    let n = c.loop-n.n in
    let B = c.args.counts.now.removed in
    let from = c.args.from.now in
    let to = c.args.to.now in
    let src = m.reading c.args.source.now in
    let new = m.reading c.copy_message.new.target in
    record {
      above = omega (arith, v.above);
      copied = λ told live s short i lt. elim (cases_lt i (n - B)) [
        | inl early ↦ c.in_ok-copy_message.ensures.others told (B + i) (get_or live i []) (omega (arith, early, v.above)) (omega (arith, c.loop-n-test.true, c.requires.held.1)) (v.copied told live s short i early)
        | inr late ↦
            let e : B + i ≡ n = omega (arith, late, lt, v.above) in
            let within : i < length live = omega (arith, s.count, e, c.loop-n-test.true) in
            let has : InSlot from n (get_or live i []) (m.reading c.loop-n.source) =
            subst (λ (z : List ℕ). InSlot from n (get_or live i []) z) (sym (v.kept.moves.reads told)) (subst (λ k. InSlot from k (get_or live i []) src) e (s.slots i within)) in
            subst (λ k. InSlot to k (get_or live i []) new) (sym e)
            (c.in_ok-copy_message.ensures.copied told (get_or live i []) has (All-get_or (λ (message : List ℕ). length message ≤ to.message) live i [] within short))
      ];
      put = λ told live s short.
          let i = n - B in
          let e : B + i ≡ n = omega (arith, v.above) in
          let next : suc i ≡ n + 1 - B = omega (arith, v.above) in
          let within : i < length live = omega (arith, s.count, e, c.loop-n-test.true) in
          let has : InSlot from n (get_or live i []) (m.reading c.loop-n.source) =
          subst (λ (z : List ℕ). InSlot from n (get_or live i []) z) (sym (v.kept.moves.reads told)) (subst (λ k. InSlot from k (get_or live i []) src) e (s.slots i within)) in
          c.in_ok-copy_message.ensures.put told (get_or live i []) has (All-get_or (λ (message : List ℕ). length message ≤ to.message) live i [] within short)
          ∙ (λ j. with_message to (sym e j) (get_or live i []) (v.put told live s short j))
          ∙ sym (next_message to B i live (m.reading c.args.target.now) within)
          ∙ ap (λ k. with_messages to B (take k live) (m.reading c.args.target.now)) next;
      size = c.in_ok-copy_message.ensures.size;
      kept = kept_after m _ _ _ false v.kept c.in_ok-copy_message.ensures.kept;
      moves = first_again m 80 _ _ _ v.moves c.copy_message.ensures.moves;
      counts = omega (arith, v.counts, c.copy_message.ensures.counted.counts);
    }
