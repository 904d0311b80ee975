use Rattle.std.proofs.Common.{subst, Err, true, ℕ, ◌≡◌, ◌∙◌, ◌-◌, ◌+◌, ap, sym, arith, false, drop, Some, Option}
use Rattle.std.proofs.lemmas.Bool.{false≢true}
use Rattle.std.proofs.lemmas.Result.{err_from_is_err_and}
use Rattle.disk_model.specs.declared.name.Role.TheVariants.{Low}
use Rattle.stable_buffer.specs.Numbers.{length_at}
use Rattle.recovery.specs.Calls.{is_device}
use Rattle.recovery.specs.Moves.{IsKept, fault_of, is_blamed, too_long}
use Rattle.recovery.specs.Refusals.{told_of}
use Rattle.recovery.specs.declared.trio.MoveFault.{MoveFault}
use Rattle.recovery.specs.declared.why.Why.{Why}
use Rattle.recovery.proofs.Rows.{row_message}
use Rattle.recovery.proofs.Surveys.{kept_after}
use Rattle.recovery.proofs.Unfit.{too_long_none, pick_long, pick_short, slot_step}
use Rattle.recovery.proofs.fitting.check_slots.Goals as goal

pub returns-in_err-length : goal.returns-in_err-length
returns-in_err-length g c =
    let m = g.D.Disk.told in
    let i = c.loop-number.invariant in
    let f = c.in_err-length.field-0.0 in
    let e = c.in_err-length.ensures in
    let (fault, was, same) = err_from_is_err_and c.from_residual.result c.from_residual.ensures.1 in
    let is = was ∙ ap (λ d. Err d) same in
    let broken : is_device f.why ≡ true = ap is_device e.device.2 in
    record {
      fine = rw (is) tt;
      exact = rw (is) (λ fine. elim (false≢true (sym fine ∙ broken)) [ ]);
      device = rw (is) (λ _. e.device);
      kept = rw (is) (kept_after m _ _ _ _ i.kept e.kept);
    }

pub returns-then-length-to : goal.returns-then-length-to
returns-then-length-to g c =
    let m = g.D.Disk.told in
    let i = c.loop-number.invariant in
    let made = c.old_fault.ensures in
    let fine : is_device c.old_fault.result.why ≡ false = ap (λ (f : MoveFault). is_device f.why) made in
    record {
      fine = tt;
      exact = λ _ told live stands.
          let m = g.D.Disk.told in
          let i = c.loop-number.invariant in
          let n = c.loop-number.number in
          let l = c.in_ok-length.length in
          let to = c.args.to.now in
          let B = c.args.counts.now.removed in
          let step = slot_step c.args.from.now to c.args.counts.now.accepted B n l live (m.reading c.args.low.now) (row_message c.args.from.now c.requires.lawful) stands
          (omega (arith, i.above, c.requires.order.0)) (omega (arith, c.loop-number-test.true)) (c.in_ok-length.ensures.length told ∙ (λ j. length_at (i.kept.moves.reads told j) (c.place.ensures.place j))) in
          let here = i.rest told live stands ∙ pick_long to n l (too_long to n (drop (n - B) live)) (too_long to (n + 1) (drop (n + 1 - B) live)) c.if-length-to.true step in
          ap (λ (x : Option Why). fault_of false (told_of Low x)) here ∙ ap Some (sym c.old_fault.ensures);
      device = λ broken. elim (false≢true (sym fine ∙ broken)) [ ];
      kept = subst (λ (f : MoveFault). IsKept m c.args.low.now c.read_length.new.disk (is_blamed {T = ℕ} false Low (Err f))) (sym made) (kept_after m _ _ _ false i.kept c.in_ok-length.ensures.kept);
    }

pub loop-number-preserved : goal.loop-number-preserved
loop-number-preserved g c =
    let m = g.D.Disk.told in
    let i = c.loop-number.invariant in
    let n = c.loop-number.number in
    let l = c.in_ok-length.length in
    let to = c.args.to.now in
    let B = c.args.counts.now.removed in
    record {
      above = omega (arith, i.above);
      kept = kept_after m _ _ _ false i.kept c.in_ok-length.ensures.kept;
      rest = λ told live stands.
          let step = slot_step c.args.from.now to c.args.counts.now.accepted B n l live (m.reading c.args.low.now) (row_message c.args.from.now c.requires.lawful) stands
          (omega (arith, i.above, c.requires.order.0)) (omega (arith, c.loop-number-test.true)) (c.in_ok-length.ensures.length told ∙ (λ j. length_at (i.kept.moves.reads told j) (c.place.ensures.place j))) in
          i.rest told live stands ∙ pick_short to n l (too_long to n (drop (n - B) live)) (too_long to (n + 1) (drop (n + 1 - B) live)) (omega (arith, c.if-length-to.false)) step;
    }

pub returns : goal.returns
returns g c =
    let i = c.loop-number.invariant in
    let n = c.loop-number.number in
    let B = c.args.counts.now.removed in
    record {
      fine = λ told live stands. i.rest told live stands ∙ too_long_none c.args.to.now n (n - B) live (omega (arith, stands.count, c.loop-number-test.false));
      exact = tt;
      device = tt;
      kept = i.kept;
    }
