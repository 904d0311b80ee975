use Rattle.std.proofs.Common.{◌≡◌, ℕ, ◌+◌, ◌-◌, ◌≤◌, List, [], ◌∷◌, ◌++◌, get_or, false, Some, ◌<◌, refl, ◌∙◌, ap, subst, arith, length-append}
use Rattle.std.proofs.lemmas.Result.{err_from_is_err_and}
use Rattle.disk_model.specs.Disk.{Same}
use Rattle.disk_model.proofs.Run.{started, goes_on_same}
use Rattle.stable_buffer.specs.Stands.{InSlot}
use Rattle.recovery.specs.Calls.{is_device}
use Rattle.recovery.specs.Refusals.{bad_slot}
use Rattle.recovery.proofs.Dealing.{slots_snoc}
use Rattle.recovery.proofs.survey.check_live.Goals as goal

pub loop-n-init : goal.loop-n-init
loop-n-init g c =
    let m = g.D.Disk.told in
    let low = c.args.low.now in
    record {
      from = omega arith;
      to = omega (arith, c.requires.between.0, c.accepted-to.ensures);
      messages = [];
      length' = omega arith;
      slots = λ told i lt. absurd {A = InSlot c.args.row.now (c.args.removed + i) (get_or [] i []) (m.reading low.register.disk)} (omega (arith, lt));
      rest = λ told k le. let e : k ≡ c.args.removed + k - c.args.removed = omega arith in ap (λ j. bad_slot c.args.row.now (m.reading low.register.disk) c.args.removed j) e;
      ready = c.requires.ready;
      stored = refl;
      row' = refl;
      moves = started m Same (λ d. refl) low.register.disk;
      count = omega arith;
    }

pub loop-n-preserved : goal.loop-n-preserved
loop-n-preserved g c =
    let m = g.D.Disk.told in
    let i = c.loop-n.invariant in
    let row = c.args.row.now in
    let from = c.args.removed in
    let n = c.loop-n.n in
    let x = c.in_ok-read_live.field-0 in
    let ms = i.messages in
    let d = m.reading c.args.low.now.register.disk in
    let calls = c.read_live.ensures.reads.calls in
    record {
      from = omega (arith, i.from);
      to = omega (arith, c.loop-n-test.true);
      messages = ms ++ x.payload ∷ [];
      length' = omega (arith, i.length', length-append ms (x.payload ∷ []));
      slots = λ told. slots_snoc row from n ms x.payload d i.length' (i.slots told)
          (subst (λ (z : List ℕ). InSlot row n x.payload z) (i.moves.reads told) (c.in_ok-read_live.ensures.stands told));
      rest = λ told k le.
          let j = from + k - n in
          let fine = c.in_ok-read_live.ensures.fine told j (omega (arith, le)) in
          let here : bad_slot row d n j ≡ bad_slot row d (n + 1) (j - 1) = subst (λ (z : List ℕ). bad_slot row z n j ≡ bad_slot row z (n + 1) (j - 1)) (i.moves.reads told) fine in
          let e : j - 1 ≡ from + k - (n + 1) = omega (arith, le) in
          i.rest told k (omega (arith, le)) ∙ here ∙ ap (λ p. bad_slot row d (n + 1) p) e;
      ready = c.in_ok-read_live.ensures.reads.ready;
      stored = c.read_live.ensures.reads.count ∙ i.stored;
      row' = c.read_live.ensures.reads.row ∙ i.row';
      moves = goes_on_same m Same _ _ _ i.moves c.read_live.ensures.reads.moves;
      count = omega (arith, i.count, calls.counts);
    }

pub returns-in_err-read_live-clause-exact : goal.returns-in_err-read_live-clause-exact
returns-in_err-read_live-clause-exact g c =
    let m = g.D.Disk.told in
    let i = c.loop-n.invariant in
    let row = c.args.row.now in
    let d = m.reading c.args.low.now.register.disk in
    let b = c.args.removed in
    let k = c.args.low.now.register.first - b in
    let n = c.loop-n.n in
    let why = c.in_err-read_live.field-0.0 in
    let reach : n ≤ b + k = omega (arith, c.loop-n-test.true, c.accepted-to.ensures, c.requires.between.0) in
    let some : 0 < b + k - n = omega (arith, c.loop-n-test.true, c.accepted-to.ensures, c.requires.between.0) in
    let fact : is_device why ≡ false → m.tells → bad_slot row d b k ≡ Some why = λ nd told.
    i.rest told k reach ∙ subst (λ (z : List ℕ). bad_slot row z n (b + k - n) ≡ Some why) (i.moves.reads told) (c.in_err-read_live.ensures.exact nd told (b + k - n) some) in
    let r = err_from_is_err_and c.from_residual.result c.from_residual.ensures.1 in
    rw (r.1, r.2) fact
