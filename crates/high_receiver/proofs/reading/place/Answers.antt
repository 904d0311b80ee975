use Rattle.std.proofs.Common.{◌≡◌, ℕ, ◌+◌, ◌<◌, ◌≤◌, List, length, drop, sym, ◌∙◌, ap, subst, arith}
use Rattle.disk_model.specs.Disk.{Same}
use Rattle.disk_model.proofs.Run.{goes_on_same}
use Rattle.stable_buffer.specs.Numbers.{length_at}
use Rattle.high_receiver.specs.Records.{RecordsFrom}
use Rattle.high_receiver.proofs.Walk.{at_message, next_place, calm, failed, on_err}
use Rattle.high_receiver.proofs.reading.place.Goals.{then-end-at, else-end-at}
use Rattle.high_receiver.proofs.reading.place.Goals as goal

pub returns-in_err-record-clause-never : goal.returns-in_err-record-clause-never
returns-in_err-record-clause-never g c = on_err c.from_residual.result (λ plan off most messages has.
    let m = g.D.Disk.told in
    let r = c.args.register.now in
    let told = m.plan_tells plan in
    let kept = c.loop.invariant in
    let disk = m.reading r.disk in
    let lt : c.loop.counter < length messages = omega (arith, c.loop-test.true, has.0) in
    let here = at_message most messages c.loop.counter c.loop.at r.second disk lt (kept.place told most messages (omega (arith, lt), has.1)) in
    let same : m.reading c.loop.register.disk ≡ disk = kept.moves.reads told in
    let fits : c.loop.at + 2 ≤ length (m.reading c.loop.register.disk) = omega (arith, here.within, has.1.1, ap length same) in
    let answers = c.in_err-record.ensures.answers in
    failed (answers.never plan (kept.armed plan ∙ off) fits))

pub loop-preserved : goal.loop-preserved
loop-preserved g c =
    let m = g.D.Disk.told in
    let r = c.args.register.now in
    let disk = m.reading r.disk in
    let kept = c.loop.invariant in
    let read = c.in_ok-record.ensures in
    let l = c.in_ok-record.field-0 in
    let end : c.value-end.result.1 ≡ r.second = ap (λ (v : ℕ × ℕ). v.1) c.value-end.ensures in
    let answers = read.answers in
    record {
      ready = read.ready;
      value = c.read_length.ensures.value ∙ kept.value;
      within = elim c.if-end-at.branch [
        | then-end-at w ↦ omega (arith, w.at-is, end)
        | else-end-at w ↦ omega (arith, w.at-is, w.if-end-at, end, kept.within)
      ];
      place = λ told most messages has.
          let lt : c.loop.counter < length messages = omega (arith, has.0) in
          let same : m.reading c.loop.register.disk ≡ disk = kept.moves.reads told in
          let is : l ≡ length_at disk c.loop.at = read.length told ∙ ap (λ (d : List ℕ). length_at d c.loop.at) same in
          let next = next_place most messages c.loop.counter c.loop.at r.second l disk lt (kept.place told most messages (omega (arith, lt), has.1)) is in
          elim c.if-end-at.branch [
            | then-end-at w ↦ absurd (omega (arith, w.if-end-at, end, next.0))
            | else-end-at w ↦ subst (λ k. RecordsFrom most (drop (c.loop.counter + 1) messages) k r.second disk) (sym w.at-is) next.1
          ];
      moves = goes_on_same m Same r.disk c.loop.register.disk c.read_length.new.self.disk kept.moves c.read_length.ensures.moves;
      count = omega (arith, kept.count, answers.counts);
      room = λ plan. answers.room plan ∙ kept.room plan;
      armed = λ plan. calm (m.armed c.loop.register.disk) (m.armed c.read_length.new.self.disk) (λ on. failed (answers.always plan on)) (answers.disarmed plan) ∙ kept.armed plan;
    }
