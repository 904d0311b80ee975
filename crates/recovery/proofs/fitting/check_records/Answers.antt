use Rattle.std.proofs.Common.{subst, Err, true, ℕ, ◌≡◌, ◌∙◌, ◌+◌, ap, sym, arith, false, drop, Some, None, Option}
use Rattle.std.proofs.lemmas.Bool.{false≢true}
use Rattle.std.proofs.lemmas.Result.{err_from_is_err_and}
use Rattle.disk_model.specs.declared.name.Role.TheVariants.{Recv}
use Rattle.stable_buffer.specs.Numbers.{length_at}
use Rattle.recovery.specs.Calls.{is_device}
use Rattle.recovery.specs.Moves.{IsKept, fault_of, is_blamed, too_long}
use Rattle.recovery.specs.Refusals.{told_of}
use Rattle.recovery.specs.declared.trio.MoveFault.{MoveFault}
use Rattle.recovery.specs.declared.why.Why.{Why}
use Rattle.recovery.proofs.Surveys.{kept_after}
use Rattle.recovery.proofs.Unfit.{too_long_none, pick_long, pick_short, record_step}
use Rattle.recovery.proofs.fitting.check_records.Goals as goal

pub returns-in_err-length : goal.returns-in_err-length
returns-in_err-length g c =
    let m = g.D.Disk.told in
    let i = c.loop-number.invariant in
    let f = c.in_err-length.field-0.0 in
    let e = c.in_err-length.ensures in
    let (fault, was, same) = err_from_is_err_and c.from_residual.result c.from_residual.ensures.1 in
    let is = was ∙ ap (λ d. Err d) same in
    let broken : is_device f.why ≡ true = ap is_device e.device.2 in
    record {
      fine = rw (is) tt;
      exact = rw (is) (λ fine. elim (false≢true (sym fine ∙ broken)) [ ]);
      device = rw (is) (λ _. e.device);
      kept = rw (is) (kept_after m _ _ _ _ i.kept e.kept);
    }

pub returns-then-length-to : goal.returns-then-length-to
returns-then-length-to g c =
    let m = g.D.Disk.told in
    let i = c.loop-number.invariant in
    let made = c.old_fault.ensures in
    let fine : is_device c.old_fault.result.why ≡ false = ap (λ (f : MoveFault). is_device f.why) made in
    record {
      fine = tt;
      exact = λ _ told most received count within records.
          let m = g.D.Disk.told in
          let i = c.loop-number.invariant in
          let n = c.loop-number.number in
          let l = c.in_ok-length.length in
          let to = c.args.to.now in
          let at = c.loop-number.at in
          let so_far = i.rest told most received count within records in
          let step = record_step to most n at c.args.counts.now.end l received (m.reading c.args.recv.now) i.above i.below within (omega (arith, count, c.loop-number-test.true)) so_far.0
          (c.in_ok-length.ensures.length told ∙ ap (λ z. length_at z at) (i.kept.moves.reads told)) in
          let here = so_far.1 ∙ pick_long to n l (too_long to n (drop n received)) (too_long to (n + 1) (drop (n + 1) received)) c.if-length-to.true step.long in
          ap (λ (x : Option Why). fault_of false (told_of Recv x)) here ∙ ap Some (sym c.old_fault.ensures);
      device = λ broken. elim (false≢true (sym fine ∙ broken)) [ ];
      kept = subst (λ (f : MoveFault). IsKept m c.args.recv.now c.read_length.new.disk (is_blamed {T = ℕ} false Recv (Err f))) (sym made) (kept_after m _ _ _ false i.kept c.in_ok-length.ensures.kept);
    }

pub returns-then-counts-at : goal.returns-then-counts-at
returns-then-counts-at g c =
    record {
      fine = λ told most received count within records.
          let m = g.D.Disk.told in
          let i = c.loop-number.invariant in
          let n = c.loop-number.number in
          let l = c.in_ok-length.length in
          let at = c.loop-number.at in
          let so_far = i.rest told most received count within records in
          let step = record_step c.args.to.now most n at c.args.counts.now.end l received (m.reading c.args.recv.now) i.above i.below within (omega (arith, count, c.loop-number-test.true)) so_far.0
          (c.in_ok-length.ensures.length told ∙ ap (λ z. length_at z at) (i.kept.moves.reads told)) in
          absurd {A = too_long c.args.to.now 0 received ≡ None} (omega (arith, step.within, c.if-counts-at.true));
      exact = tt;
      device = tt;
      kept = kept_after g.D.Disk.told _ _ _ false c.loop-number.invariant.kept c.in_ok-length.ensures.kept;
    }

pub loop-number-preserved : goal.loop-number-preserved
loop-number-preserved g c =
    let m = g.D.Disk.told in
    let i = c.loop-number.invariant in
    let n = c.loop-number.number in
    let l = c.in_ok-length.length in
    let to = c.args.to.now in
    let at = c.loop-number.at in
    record {
      above = omega (arith, i.above);
      below = omega (arith, i.below, c.if-counts-at.false);
      kept = kept_after m _ _ _ false i.kept c.in_ok-length.ensures.kept;
      rest = λ told most received count within records.
          let so_far = i.rest told most received count within records in
          let step = record_step to most n at c.args.counts.now.end l received (m.reading c.args.recv.now) i.above i.below within (omega (arith, count, c.loop-number-test.true)) so_far.0
          (c.in_ok-length.ensures.length told ∙ ap (λ z. length_at z at) (i.kept.moves.reads told)) in
          (step.rest, so_far.1 ∙ pick_short to n l (too_long to n (drop n received)) (too_long to (n + 1) (drop (n + 1) received)) (omega (arith, c.if-length-to.false)) step.long);
    }

pub returns : goal.returns
returns g c =
    let i = c.loop-number.invariant in
    let n = c.loop-number.number in
    record {
      fine = λ told most received count within records. (i.rest told most received count within records).1 ∙ too_long_none c.args.to.now n n received (omega (arith, count, c.loop-number-test.false));
      exact = tt;
      device = tt;
      kept = i.kept;
    }
