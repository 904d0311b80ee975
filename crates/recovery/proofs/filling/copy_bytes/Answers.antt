use Rattle.std.proofs.Common.{Err, ◌∙◌, ◌≡◌, ◌+◌, ◌≤◌, List, ℕ, false, length, take, drop, refl, ap, subst, arith, length-append, length-drop}
use Rattle.std.proofs.lemmas.Bool.{false≢true}
use Rattle.std.proofs.lemmas.Result.{err_from_is_err_and}
use Rattle.std.proofs.lemmas.List.{length-take-le}
use Rattle.disk_model.specs.Disk.{IsWritten}
use Rattle.disk_model.specs.Ranges.{holds_length}
use Rattle.stable_buffer.proofs.Making.{kept_first}
use Rattle.recovery.proofs.Surveys.{kept_after}
use Rattle.recovery.proofs.Fillings.{piece_more}
use Rattle.recovery.proofs.filling.copy_bytes.Goals as goal

pub returns-in_err-copy_piece : goal.returns-in_err-copy_piece
returns-in_err-copy_piece g c =
    let m = g.D.Disk.told in
    let v = c.loop-done.invariant in
    let e = c.in_err-copy_piece.ensures in
    let (fault, was, same) = err_from_is_err_and c.from_residual.result c.from_residual.ensures.1 in
    let is = was ∙ ap (λ d. Err d) same in
    record {
      written = rw (is) tt;
      moves = kept_first m c.args.to (c.args.to + c.loop-done.done) _ _ _ _ (omega arith) v.moves c.copy_piece.ensures.moves;
      kept = rw (is) (kept_after m _ _ _ _ v.kept e.kept);
      counted = rw (is) (record { counts = omega (arith, v.counts, e.counted.counts); rose = λ failed. let up = e.counted.rose failed in omega (arith, v.counts, up) });
      one = rw (is) e.one;
    }

pub returns : goal.returns
returns g c =
    let m = g.D.Disk.told in
    let v = c.loop-done.invariant in
    record {
      written = λ told.
          let src = m.reading c.args.source.now in
          let done : c.loop-done.done ≡ c.args.count = omega (arith, v.below, c.loop-done-test.false) in
          subst (λ n. IsWritten (m.reading c.args.target.now) c.args.to (take n (drop c.args.at src)) (m.reading c.loop-done.target)) done (v.written told);
      moves = v.moves;
      kept = v.kept;
      counted = record { counts = v.counts; rose = λ failed. elim (false≢true failed) [ ] };
      one = tt;
    }

pub loop-done-preserved : goal.loop-done-preserved
loop-done-preserved g c =
    let m = g.D.Disk.told in
    let i = c.loop-done.invariant in
    let at = c.args.at in
    let to = c.args.to in
    let done = c.loop-done.done in
    let size = c.min-size.result in
    let src = m.reading c.args.source.now in
    let old = m.reading c.args.target.now in
    let same : m.tells → m.reading c.loop-done.source ≡ src = i.kept.moves.reads in
    let few = c.min-size.ensures in
    let all : length (take size c.loop-done.room) ≡ size = length-take-le size c.loop-done.room (omega (arith, few, i.room)) in
    let within : m.tells → at + done + size ≤ length src = λ told. omega (arith, c.in_ok-copy_piece.ensures.within told, all, ap length (same told)) in
    let wrote : m.tells → IsWritten (m.reading c.loop-done.target) (to + done) (take size (drop (at + done) src)) (m.reading c.copy_piece.new.target) = λ told.
    subst (λ (z : List ℕ). IsWritten (m.reading c.loop-done.target) (to + done) (take size (drop (at + done) z)) (m.reading c.copy_piece.new.target)) (same told) (rw all at (c.in_ok-copy_piece.ensures.written told)) in
    record {
      below = omega (arith, i.below, few, c.loop-done-test.true);
      written = λ told. piece_more old src at to done size (m.reading c.loop-done.target) (m.reading c.copy_piece.new.target) (take size (drop (at + done) src)) (c.requires.starts told) (within told) (i.written told) refl (wrote told);
      size = λ told.
          let grows = holds_length (m.reading c.loop-done.target) (to + done) (take size (drop (at + done) src)) (m.reading c.copy_piece.new.target) (i.size told) (wrote told) in
          let all = length-take-le size (drop (at + done) src) (omega (arith, length-drop (at + done) src, within told)) in
          omega (arith, grows, all);
      kept = kept_after m _ _ _ false i.kept c.in_ok-copy_piece.ensures.kept;
      moves = kept_first m to (to + done) _ _ _ _ (omega arith) i.moves c.copy_piece.ensures.moves;
      room = omega (arith, length-append c.copy_piece.new.piece (drop size c.loop-done.room), length-drop size c.loop-done.room, c.copy_piece.auto.piece, all, few, i.room);
      counts = omega (arith, i.counts, c.copy_piece.ensures.counted.counts);
    }
