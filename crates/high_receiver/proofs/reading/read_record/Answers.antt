-- Each return by hand: a search at each of its clauses takes far longer.
use Rattle.std.proofs.Common.{◌≡◌, ◌-◌, ◌≤◌, inl, inr, ℕ, ◌+◌, Err, List, length, take, replicate, refl, ◌∙◌, ap, arith}
use Rattle.std.proofs.lemmas.Result.{err_from_is_err_and}
use Rattle.std.proofs.lemmas.List.{length-take, length-take-le, length-replicate}
use Rattle.disk_model.specs.Disk.{Same}
use Rattle.disk_model.proofs.Run.{goes_on_same}
use Rattle.stable_buffer.specs.Numbers.{length_at}
use Rattle.high_receiver.proofs.Walk.{first, failed, found_bytes}
use Rattle.high_receiver.proofs.reading.read_record.Goals as goal

-- what stands behind the two bytes of a length has that many at most
short_part : (l most : ℕ) (payload rest : List ℕ) → payload ≡ take (2 + l - 2) rest → l ≤ most → length payload ≤ most
short_part l most payload rest is le = omega (arith, ap length is, length-take (2 + l - 2) rest, le)

pub returns-in_err-length : goal.returns-in_err-length
returns-in_err-length g c =
    let m = g.D.Disk.told in
    let r = c.args.register.now in
    let e = c.in_err-length.ensures in
    let (device, was, same) = err_from_is_err_and c.from_residual.result c.from_residual.ensures.1 in
    let is = was ∙ ap (λ d. Err d) same in
    record {
      ready = rw (is) tt;
      value = e.value;
      within = rw (is) tt;
      fills = inl refl;
      found = rw (is) tt;
      moves = e.moves;
      answers = record {
        counts = e.answers.counts;
        rose = λ _. e.answers.rose refl;
        never = λ plan off has.
            let here = first c.args.most has.0 has.1 c.args.at r.second (m.reading r.disk) has.2 in
            absurd (failed (e.answers.never plan off (omega (arith, here.within, has.2.1))));
        always = λ plan on. rw (is) refl;
        room = e.answers.room;
        disarmed = e.answers.disarmed;
      };
      device = rw (is) e.device;
    }

pub returns-then-length-most : goal.returns-then-length-most
returns-then-length-most g c =
    let m = g.D.Disk.told in
    let r = c.args.register.now in
    let e = c.in_ok-length.ensures in
    record {
      ready = e.ready;
      value = e.value;
      within = let end = ap (λ (v : ℕ × ℕ). v.1) c.value-end.ensures in omega (arith, end);
      fills = inl refl;
      found = λ told message later from.
          let here = first c.args.most message later c.args.at r.second (m.reading r.disk) from in
          let is : c.in_ok-length.length ≡ length_at (m.reading r.disk) c.args.at = e.length told in
          absurd (omega (arith, is, here.size, here.fits, c.if-length-most.true));
      moves = e.moves;
      answers = record {
        counts = e.answers.counts;
        rose = λ is. absurd (failed is);
        never = λ plan off has. refl;
        always = e.answers.always;
        room = e.answers.room;
        disarmed = e.answers.disarmed;
      };
      device = tt;
    }

pub returns-in_err-read_beside : goal.returns-in_err-read_beside
returns-in_err-read_beside g c =
    let m = g.D.Disk.told in
    let r = c.args.register.now in
    let disk = m.reading r.disk in
    let at = c.args.at in
    let l = c.in_ok-length.length in
    let e = c.in_ok-length.ensures in
    let b = e.answers in
    let k = c.in_err-read_beside.ensures in
    let a = k.answers in
    let (device, was, same) = err_from_is_err_and c.from_residual-in_err-read_beside.result c.from_residual-in_err-read_beside.ensures.1 in
    let is = was ∙ ap (λ d. Err d) same in
    record {
      ready = rw (is) tt;
      value = k.value ∙ e.value;
      within = rw (is) tt;
      fills = inl refl;
      found = rw (is) tt;
      moves = goes_on_same m Same _ _ _ e.moves k.moves;
      answers = record {
        counts = omega (arith, b.counts, a.counts);
        rose = λ _. let rise = a.rose refl in omega (arith, b.counts, rise);
        never = λ plan off has.
            let told = m.plan_tells plan in
            let from = has.2 in
            let here = first c.args.most has.0 has.1 at r.second disk from in
            let read : l ≡ length_at disk at = e.length told in
            let zeros : List ℕ = replicate 1026 0 in
            let size : length (take (2 + l) zeros) ≡ 2 + l = length-take-le (2 + l) zeros (omega (arith, read, here.size, here.fits, c.requires.short, length-replicate {A = ℕ} 1026 0)) in
            absurd (failed (a.never plan (b.disarmed plan) (omega (arith, size, read, here.size, here.within, from.1, ap length (e.moves.reads told)))));
        always = λ plan on. rw (is) refl;
        room = λ plan. a.room plan ∙ b.room plan;
        disarmed = a.disarmed;
      };
      device = rw (is) k.device;
    }

pub returns-then-end-at : goal.returns-then-end-at
returns-then-end-at g c =
    let m = g.D.Disk.told in
    let r = c.args.register.now in
    let disk = m.reading r.disk in
    let at = c.args.at in
    let l = c.in_ok-length.length in
    let e = c.in_ok-length.ensures in
    let b = e.answers in
    let k = c.in_ok-read_beside.ensures in
    let a = k.answers in
    let end : c.value-end.result.1 ≡ r.second = ap (λ (v : ℕ × ℕ). v.1) c.value-end.ensures in
    record {
      ready = k.ready;
      value = k.value ∙ e.value;
      within = omega (arith, end);
      fills = inr (refl, short_part l c.args.most _ _ c.set.ensures.value (omega (arith, c.if-length-most.false)));
      found = λ told message later from.
          let here = first c.args.most message later at r.second disk from in
          let is : l ≡ length_at disk at = e.length told in
          absurd (omega (arith, is, end, here.size, here.within, c.if-end-at.true));
      moves = goes_on_same m Same _ _ _ e.moves k.moves;
      answers = record {
        counts = omega (arith, b.counts, a.counts);
        rose = λ is. absurd (failed is);
        never = λ plan off has. refl;
        always = b.always;
        room = λ plan. a.room plan ∙ b.room plan;
        disarmed = a.disarmed;
      };
      device = tt;
    }

pub returns-else-end-at : goal.returns-else-end-at
returns-else-end-at g c =
    let m = g.D.Disk.told in
    let r = c.args.register.now in
    let disk = m.reading r.disk in
    let at = c.args.at in
    let l = c.in_ok-length.length in
    let e = c.in_ok-length.ensures in
    let b = e.answers in
    let k = c.in_ok-read_beside.ensures in
    let a = k.answers in
    let end : c.value-end.result.1 ≡ r.second = ap (λ (v : ℕ × ℕ). v.1) c.value-end.ensures in
    record {
      ready = k.ready;
      value = k.value ∙ e.value;
      within = omega (arith, end, c.requires.within, c.if-end-at.false);
      fills = inr (refl, short_part l c.args.most _ _ c.set.ensures.value (omega (arith, c.if-length-most.false)));
      found = λ told message later from.
          let here = first c.args.most message later at r.second disk from in
          let is : l ≡ length_at disk at = e.length told in
          let zeros : List ℕ = replicate 1026 0 in
          let size : length (take (2 + l) zeros) ≡ 2 + l = length-take-le (2 + l) zeros (omega (arith, is, here.size, here.fits, c.requires.short, length-replicate {A = ℕ} 1026 0)) in (
            c.set.ensures.value ∙ found_bytes l (length (take (2 + l) zeros)) at c.read_beside.new.into _ (m.reading c.read_length.new.self.disk) disk message size c.read_beside.ensures.size (k.bytes told) (e.moves.reads told) (is ∙ here.size) here.bytes,
            ap (λ k. at + (2 + k)) (is ∙ here.size),
          );
      moves = goes_on_same m Same _ _ _ e.moves k.moves;
      answers = record {
        counts = omega (arith, b.counts, a.counts);
        rose = λ is. absurd (failed is);
        never = λ plan off has. refl;
        always = b.always;
        room = λ plan. a.room plan ∙ b.room plan;
        disarmed = a.disarmed;
      };
      device = tt;
    }
