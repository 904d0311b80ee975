use Rattle.std.proofs.Common.{◌≡◌, ℕ, ◌+◌, Err, length, refl, ◌∙◌, ap, subst, arith}
use Rattle.std.proofs.lemmas.Result.{err_from_is_err_and}
use Rattle.disk_model.specs.Disk.{Moves, Each, Torn, IsWritten}
use Rattle.disk_model.proofs.Run.{weaker}
use Rattle.stable_buffer.specs.Register.{MayTurnTo, Selects, SameOutside, value_of}
use Rattle.stable_buffer.specs.Stands.{spelled}
use Rattle.stable_buffer.proofs.Cells.{value-selects}
use Rattle.high_receiver.specs.Steps.{MayTake, LogStandsOn}
use Rattle.high_receiver.proofs.Appends.{StandsAt, torn_on, at_written, end_within}
use Rattle.high_receiver.proofs.Calls.{so_far, staged, at_settled, turned, stored, taken, stored_during}
use Rattle.high_receiver.proofs.Walk.{failed}
use Rattle.high_receiver.proofs.receiver.Receiver.write.Goals as goal

pub returns-in_err-write_message : goal.returns-in_err-write_message
returns-in_err-write_message g c =
    let m = g.D.Disk.told in
    let s = c.args.self.now in
    let row = s.row in
    let r = s.register in
    let message = c.args.payload.now in
    let short = c.requires.ready.short in
    let end : c.value-count.result.1 ≡ r.second = ap (λ (v : ℕ × ℕ). v.1) c.value-count.ensures in
    let w = c.write_message.new.self in
    let wrote : Moves m (LogStandsOn row) r.disk w.disk =
    weaker m (Selects r.parity r.first r.second) (Torn c.value-count.result.1 (2 + length message)) (LogStandsOn row) r.disk w.disk c.requires.ready.ready.each
    (λ a b is torn. torn_on row r.parity r.first r.second (2 + length message) a b is (subst (λ k. Torn k (2 + length message) a b) end torn)) c.write_message.ensures.moves in
    let e = c.in_err-write_message.ensures in
    let moves : Moves m (MayTake row message) r.disk w.disk = so_far m row message r.disk w.disk wrote in
    let (device, was, equal) = err_from_is_err_and c.from_residual.result c.from_residual.ensures.1 in
    let is = was ∙ ap (λ d. Err d) equal in
    record {
      written = rw (is) tt;
      row = refl;
      size = refl;
      «open» = refl;
      moves = moves;
      during = λ messages stands. stored_during m row message messages r.disk w.disk c.requires.ready.settled stands moves;
      answers = record {
        counts = e.answers.counts;
        rose = λ _. e.answers.rose refl;
        never = λ plan off fits. absurd (failed (e.answers.never plan off (omega (arith, fits, end))));
        always = λ plan on. rw (is) refl;
        room = e.answers.room;
        disarmed = e.answers.disarmed;
      };
      device = rw (is) e.device;
    }

pub returns-in_err-stage : goal.returns-in_err-stage
returns-in_err-stage g c =
    let m = g.D.Disk.told in
    let s = c.args.self.now in
    let row = s.row in
    let r = s.register in
    let message = c.args.payload.now in
    let short = c.requires.ready.short in
    let end : c.value-count.result.1 ≡ r.second = ap (λ (v : ℕ × ℕ). v.1) c.value-count.ensures in
    let w = c.write_message.new.self in
    let wrote : Moves m (LogStandsOn row) r.disk w.disk =
    weaker m (Selects r.parity r.first r.second) (Torn c.value-count.result.1 (2 + length message)) (LogStandsOn row) r.disk w.disk c.requires.ready.ready.each
    (λ a b is torn. torn_on row r.parity r.first r.second (2 + length message) a b is (subst (λ k. Torn k (2 + length message) a b) end torn)) c.write_message.ensures.moves in
    let q = c.stage.new.self in
    let stood : Moves m (LogStandsOn row) r.disk q.disk = staged m row message r.disk w.disk q.disk wrote c.stage.ensures.moves in
    let a = c.in_ok-write_message.ensures.answers in
    let e = c.in_err-stage.ensures in
    let moves : Moves m (MayTake row message) r.disk q.disk = so_far m row message r.disk q.disk stood in
    let (device, was, equal) = err_from_is_err_and c.from_residual-in_err-stage.result c.from_residual-in_err-stage.ensures.1 in
    let is = was ∙ ap (λ d. Err d) equal in
    record {
      written = rw (is) tt;
      row = refl;
      size = refl;
      «open» = refl;
      moves = moves;
      during = λ messages stands. stored_during m row message messages r.disk q.disk c.requires.ready.settled stands moves;
      answers = record {
        counts = omega (arith, a.counts, e.answers.counts);
        rose = λ _. let rise = e.answers.rose refl in omega (arith, a.counts, rise);
        never = λ plan off fits. absurd (failed (e.answers.never plan (a.disarmed plan) (let room = a.room plan in omega (arith, fits, room, c.requires.ready.from))));
        always = λ plan on. rw (is) refl;
        room = λ plan. e.answers.room plan ∙ a.room plan;
        disarmed = e.answers.disarmed;
      };
      device = rw (is) e.device;
    }

pub returns-in_err-commit : goal.returns-in_err-commit
returns-in_err-commit g c =
    let m = g.D.Disk.told in
    let s = c.args.self.now in
    let row = s.row in
    let r = s.register in
    let message = c.args.payload.now in
    let short = c.requires.ready.short in
    let end : c.value-count.result.1 ≡ r.second = ap (λ (v : ℕ × ℕ). v.1) c.value-count.ensures in
    let w = c.write_message.new.self in
    let wrote : Moves m (LogStandsOn row) r.disk w.disk =
    weaker m (Selects r.parity r.first r.second) (Torn c.value-count.result.1 (2 + length message)) (LogStandsOn row) r.disk w.disk c.requires.ready.ready.each
    (λ a b is torn. torn_on row r.parity r.first r.second (2 + length message) a b is (subst (λ k. Torn k (2 + length message) a b) end torn)) c.write_message.ensures.moves in
    let q = c.stage.new.self in
    let stood : Moves m (LogStandsOn row) r.disk q.disk = staged m row message r.disk w.disk q.disk wrote c.stage.ensures.moves in
    let was = c.in_ok-stage.ensures.staged in
    let size : c.len-length.result ≡ length message = c.len-length.ensures.value in
    let count : c.value-count.result.0 ≡ r.first = ap (λ (v : ℕ × ℕ). v.0) c.value-count.ensures in
    let same : (q.first, q.second) ≡ (r.first, r.second) = c.stage.ensures.value ∙ c.write_message.ensures.value in
    let next : (q.next_first, q.next_second) ≡ (r.first + 1, r.second + 2 + length message) =
    c.in_ok-stage.ensures.next ∙ (λ i. (count i + 1, end i + 2 + size i)) in
    let written : m.tells → StandsAt r.second message (m.reading w.disk) = λ told.
    at_written r.second message (spelled message) (m.reading r.disk) (m.reading w.disk) refl
    (let stands = c.requires.ready.stands told in end_within row r.parity r.first r.second stands.0 (m.reading r.disk) (c.requires.ready.ready.each.reading told) stands.1)
    (subst (λ k. IsWritten (m.reading r.disk) k (spelled message) (m.reading w.disk)) end (c.in_ok-write_message.ensures.written told)) in
    let has : Each m (StandsAt r.second message) q.disk =
    at_settled m row message r.second w.disk q.disk c.requires.ready.from written c.stage.ensures.moves c.in_ok-stage.ensures.settled in
    let selects : Each m (Selects q.parity r.first r.second) q.disk = subst (λ (f : ℕ × ℕ). Each m (Selects q.parity f.0 f.1) q.disk) same was.ready.each in
    let n = c.commit.new.self in
    let turn : Moves m (MayTurnTo (r.first + 1, r.second + 2 + length message)) q.disk n.disk = subst (λ (v : ℕ × ℕ). Moves m (MayTurnTo v) q.disk n.disk) next c.commit.ensures.moves in
    let a = c.in_ok-write_message.ensures.answers in
    let b = c.in_ok-stage.ensures.answers in
    let e = c.in_err-commit.ensures in
    let moves : Moves m (MayTake row message) r.disk n.disk = stored m row message r.disk q.disk n.disk stood (turned m row message q.parity r.first r.second q.disk n.disk c.requires.fits short selects has turn) in
    let (device, was, equal) = err_from_is_err_and c.from_residual-in_err-commit.result c.from_residual-in_err-commit.ensures.1 in
    let is = was ∙ ap (λ d. Err d) equal in
    record {
      written = rw (is) tt;
      row = refl;
      size = refl;
      «open» = refl;
      moves = moves;
      during = λ messages stands. stored_during m row message messages r.disk n.disk c.requires.ready.settled stands moves;
      answers = record {
        counts = omega (arith, a.counts, b.counts, e.answers.counts);
        rose = λ _. let rise = e.answers.rose refl in omega (arith, a.counts, b.counts, rise);
        never = λ plan off fits. absurd (failed (e.answers.never plan (b.disarmed plan) (let room = b.room plan ∙ a.room plan in omega (arith, fits, room, c.requires.ready.from))));
        always = λ plan on. rw (is) refl;
        room = λ plan. e.answers.room plan ∙ b.room plan ∙ a.room plan;
        disarmed = e.answers.disarmed;
      };
      device = rw (is) e.device;
    }

pub returns : goal.returns
returns g c =
    let m = g.D.Disk.told in
    let s = c.args.self.now in
    let row = s.row in
    let r = s.register in
    let message = c.args.payload.now in
    let short = c.requires.ready.short in
    let end : c.value-count.result.1 ≡ r.second = ap (λ (v : ℕ × ℕ). v.1) c.value-count.ensures in
    let w = c.write_message.new.self in
    let wrote : Moves m (LogStandsOn row) r.disk w.disk =
    weaker m (Selects r.parity r.first r.second) (Torn c.value-count.result.1 (2 + length message)) (LogStandsOn row) r.disk w.disk c.requires.ready.ready.each
    (λ a b is torn. torn_on row r.parity r.first r.second (2 + length message) a b is (subst (λ k. Torn k (2 + length message) a b) end torn)) c.write_message.ensures.moves in
    let q = c.stage.new.self in
    let stood : Moves m (LogStandsOn row) r.disk q.disk = staged m row message r.disk w.disk q.disk wrote c.stage.ensures.moves in
    let was = c.in_ok-stage.ensures.staged in
    let size : c.len-length.result ≡ length message = c.len-length.ensures.value in
    let count : c.value-count.result.0 ≡ r.first = ap (λ (v : ℕ × ℕ). v.0) c.value-count.ensures in
    let same : (q.first, q.second) ≡ (r.first, r.second) = c.stage.ensures.value ∙ c.write_message.ensures.value in
    let next : (q.next_first, q.next_second) ≡ (r.first + 1, r.second + 2 + length message) =
    c.in_ok-stage.ensures.next ∙ (λ i. (count i + 1, end i + 2 + size i)) in
    let written : m.tells → StandsAt r.second message (m.reading w.disk) = λ told.
    at_written r.second message (spelled message) (m.reading r.disk) (m.reading w.disk) refl
    (let stands = c.requires.ready.stands told in end_within row r.parity r.first r.second stands.0 (m.reading r.disk) (c.requires.ready.ready.each.reading told) stands.1)
    (subst (λ k. IsWritten (m.reading r.disk) k (spelled message) (m.reading w.disk)) end (c.in_ok-write_message.ensures.written told)) in
    let has : Each m (StandsAt r.second message) q.disk =
    at_settled m row message r.second w.disk q.disk c.requires.ready.from written c.stage.ensures.moves c.in_ok-stage.ensures.settled in
    let selects : Each m (Selects q.parity r.first r.second) q.disk = subst (λ (f : ℕ × ℕ). Each m (Selects q.parity f.0 f.1) q.disk) same was.ready.each in
    let n = c.commit.new.self in
    let value : m.tells → value_of (m.reading n.disk) ≡ (r.first + 1, r.second + 2 + length message) = λ told.
    value-selects n.parity n.first n.second (m.reading n.disk) (let ready = c.in_ok-commit.ensures.ready in ready.each.reading told) ∙ c.in_ok-commit.ensures.value ∙ next in
    let outside : m.tells → SameOutside (m.reading q.disk) (m.reading n.disk) = λ told. let t = c.commit.ensures.moves.reads told in t.outside in
    let turn : Moves m (MayTurnTo (r.first + 1, r.second + 2 + length message)) q.disk n.disk = subst (λ (v : ℕ × ℕ). Moves m (MayTurnTo v) q.disk n.disk) next c.commit.ensures.moves in
    let a = c.in_ok-write_message.ensures.answers in
    let b = c.in_ok-stage.ensures.answers in
    let e = c.in_ok-commit.ensures in
    let moves : Moves m (MayTake row message) r.disk n.disk = stored m row message r.disk q.disk n.disk stood (turned m row message q.parity r.first r.second q.disk n.disk c.requires.fits short selects has turn) in
    record {
      written = record {
        ready = e.ready;
        settled = e.settled;
        count = ap (λ (v : ℕ × ℕ). v.0) (e.value ∙ next);
        end = ap (λ (v : ℕ × ℕ). v.1) (e.value ∙ next);
        taken = λ told.
            taken m row message q.parity r.first r.second (m.reading r.disk) (m.reading q.disk) (m.reading n.disk) c.requires.fits short
            (selects.reading told) (stood.reads told) (has.reading told) (outside told) (value told);
      };
      row = refl;
      size = refl;
      «open» = refl;
      moves = moves;
      during = λ messages stands. stored_during m row message messages r.disk n.disk c.requires.ready.settled stands moves;
      answers = record {
        counts = omega (arith, a.counts, b.counts, e.answers.counts);
        rose = λ bad. absurd (failed bad);
        never = λ plan off fits. refl;
        always = a.always;
        room = λ plan. e.answers.room plan ∙ b.room plan ∙ a.room plan;
        disarmed = e.answers.disarmed;
      };
      device = tt;
    }
