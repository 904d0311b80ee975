use Rattle.std.proofs.Common.{◌≡◌, ℕ, ◌+◌, ◌-◌, ◌<◌, ◌≤◌, List, false, drop, sym, ◌∙◌, ap, arith}
use Rattle.disk_model.specs.Disk.{Same}
use Rattle.disk_model.proofs.Run.{goes_on_same}
use Rattle.stable_buffer.specs.Numbers.{length_at}
use Rattle.stable_buffer.specs.Log.{is_log, log_of}
use Rattle.recovery.proofs.Walk.{no_length, too_long, no_message, one_more, at_end}
use Rattle.recovery.proofs.records.fill_log.Goals.{then-length-most-via-then-length-most, then-length-most-via-else-length-most+then-end-at}
use Rattle.recovery.proofs.records.fill_log.Goals as goal

pub returns-then-end-at-lt2-clause-answer : goal.returns-then-end-at-lt2-clause-answer
returns-then-end-at-lt2-clause-answer g c = λ told.
    let i = c.loop.invariant in
    let d = g.D.Disk.told.reading c.args.register.now.disk in
    let left = c.args.count - c.loop.counter in
    sym (sym (i.rest told) ∙ no_length c.args.end d c.requires.from (c.requires.within told) c.args.most left c.loop.at (omega (arith, c.loop-test.true)) i.above i.below c.if-end-at-lt2.true)

pub returns-then-length-most-clause-answer : goal.returns-then-length-most-clause-answer
returns-then-length-most-clause-answer g c = λ told.
    let i = c.loop.invariant in
    let d = g.D.Disk.told.reading c.args.register.now.disk in
    let left = c.args.count - c.loop.counter in
    let l = c.in_ok-length.length in
    let some : 0 < left = omega (arith, c.loop-test.true) in
    let room : c.loop.at + 2 ≤ c.args.end = omega (arith, i.below, c.if-end-at-lt2.false) in
    let is : l ≡ length_at d c.loop.at = c.in_ok-length.ensures.length told ∙ ap (λ (z : List ℕ). length_at z c.loop.at) (i.moves.reads told) in
    let within = c.requires.within told in
    let no : is_log c.args.most left (drop (c.loop.at - 80) (log_of c.args.end d)) ≡ false =
    elim c.then-length-most.branch [
      | then-length-most-via-then-length-most w ↦ too_long c.args.end d c.requires.from within c.args.most left c.loop.at l some i.above room is (omega (arith, w.if-length-most))
      | then-length-most-via-else-length-most+then-end-at w ↦ no_message c.args.end d c.requires.from within c.args.most left c.loop.at l some i.above room is (omega (arith, w.if-end-at))
    ] in
    sym (sym (i.rest told) ∙ no)

pub loop-preserved : goal.loop-preserved
loop-preserved g c =
    let m = g.D.Disk.told in
    let i = c.loop.invariant in
    let d = m.reading c.args.register.now.disk in
    let left = c.args.count - c.loop.counter in
    let l = c.in_ok-length.length in
    let answers = c.read_length.ensures.answers in
    let room : c.loop.at + 2 ≤ c.args.end = omega (arith, i.below, c.if-end-at-lt2.false) in
    record {
      ready = c.in_ok-length.ensures.ready;
      value = c.read_length.ensures.value ∙ i.value;
      above = omega (arith, i.above);
      below = omega (arith, i.below, c.if-end-at-lt2.false, c.if-end-at.false);
      rest = λ told.
          let is : l ≡ length_at d c.loop.at = c.in_ok-length.ensures.length told ∙ ap (λ (z : List ℕ). length_at z c.loop.at) (i.moves.reads told) in
          let e : left - 1 ≡ c.args.count - (c.loop.counter + 1) = omega arith in
          ap (λ k. is_log c.args.most k (drop (c.loop.at + (2 + l) - 80) (log_of c.args.end d))) (sym e)
          ∙ one_more c.args.end d c.requires.from (c.requires.within told) c.args.most left c.loop.at l (omega (arith, c.loop-test.true)) i.above room is (omega (arith, c.if-length-most.false)) (omega (arith, c.if-end-at.false))
          ∙ i.rest told;
      moves = goes_on_same m Same _ _ _ i.moves c.read_length.ensures.moves;
      count = omega (arith, i.count, answers.counts);
      room = λ plan. answers.room plan ∙ i.room plan;
      calm = answers.disarmed;
    }

pub returns-clause-answer : goal.returns-clause-answer
returns-clause-answer g c = λ told.
    let i = c.loop.invariant in
    let d = g.D.Disk.told.reading c.args.register.now.disk in
    at_end c.args.end d c.requires.from (c.requires.within told) c.args.most (c.args.count - c.loop.counter) c.loop.at (omega (arith, c.loop-test.false)) i.above i.below ∙ i.rest told
