use Rattle.std.proofs.Common.{◌≡◌, ◌∙◌, false, true, refl, sym, ap, subst, arith}
use Rattle.std.proofs.lemmas.Bool.{false≢true}
use Rattle.disk_model.specs.Disk.{Moves, Same}
use Rattle.disk_model.proofs.Run.{goes_on_same, settled_same}
use Rattle.stable_buffer.specs.Log.{is_log, log_of}
use Rattle.recovery.specs.Calls.{Calls}
use Rattle.recovery.specs.declared.why.Why.TheVariants.{Device}
use Rattle.recovery.proofs.Comparing.{calls_on}
use Rattle.recovery.proofs.Openings.{refused_by_shape, refused_by_records, receiver_fine}
use Rattle.recovery.proofs.Shapes.{recv_from}
use Rattle.recovery.proofs.receiver.open_receiver.Goals as goal

pub over-requires-clause-settled : goal.over-requires-clause-settled
over-requires-clause-settled g c = settled_same g.D.Disk.told c.in-Ok.register.disk c.fill_log.new.register.disk c.in-Ok.ensures.settled c.fill_log.ensures.moves

pub over-requires-clause-stands : goal.over-requires-clause-stands
over-requires-clause-stands g c = λ told.
    let m = g.D.Disk.told in
    let v = c.value-first.result in
    let row = c.args.row.now in
    let d = m.reading c.args.disk in
    let same = c.in-Ok.ensures.same.reads told in
    let is : is_log row.message v.0 (log_of v.1 d) ≡ true = (λ i. is_log row.message v.0 (log_of v.1 (sym same i))) ∙ sym (c.in-Ok-true.ensures.answer told) ∙ c.in-Ok-true.field-0-test in
    let (ms, count, stands) = recv_from row v.0 v.1 d (m.reading c.fill_log.new.register.disk) (c.fill_log.ensures.moves.reads told ∙ same) (c.in-Ok.ensures.header told) (c.value-first.ensures ∙ c.in-Ok.ensures.value told) c.if-second-lt80.false
    (omega (arith, c.if-second-length.false, c.in-Ok.ensures.size told)) is in
    (ms, stands)

pub returns-in-Err : goal.returns-in-Err
returns-in-Err g c =
    let e = c.in-Err.ensures in
    record {
      ready = tt;
      row = tt;
      size = tt;
      value = tt;
      stands = tt;
      fine = tt;
      exact = λ nd told. refused_by_shape c.args.row.now c.args.size (g.D.Disk.told.reading c.args.disk) c.in-Err.refused.1 (e.back.exact nd told);
      device = e.back.device;
      calls = tt;
      calls_err = e.back.calls;
      same = tt;
      same_err = e.back.same;
    }

pub returns-in-Err-fill_log : goal.returns-in-Err-fill_log
returns-in-Err-fill_log g c =
    let m = g.D.Disk.told in
    let e = c.in-Ok.ensures in
    let k = c.in-Err-fill_log.ensures in
    let back = sym c.into_disk.ensures in
    record {
      ready = tt;
      row = tt;
      size = tt;
      value = tt;
      stands = tt;
      fine = tt;
      exact = λ nd. elim (false≢true (sym nd)) [ ];
      device = λ _. ap Device (k.device ∙ ap m.count back);
      calls = tt;
      calls_err = subst (λ d. Calls m c.args.disk d true) back (calls_on m c.args.disk c.in-Ok.register.disk c.fill_log.new.register.disk true e.calls k.calls);
      same = tt;
      same_err = subst (λ d. Moves m Same c.args.disk d) back (goes_on_same m Same _ _ _ e.same k.moves);
    }

pub returns-in-Ok-false : goal.returns-in-Ok-false
returns-in-Ok-false g c =
    let m = g.D.Disk.told in
    let row = c.args.row.now in
    let v = c.value-first.result in
    let e = c.in-Ok.ensures in
    let k = c.in-Ok-false.ensures in
    let back = sym c.into_disk-in-Ok-false.ensures in
    record {
      ready = tt;
      row = tt;
      size = tt;
      value = tt;
      stands = tt;
      fine = tt;
      exact = λ nd told.
          let d = m.reading c.args.disk in
          let no : is_log row.message v.0 (log_of v.1 d) ≡ false = (λ i. is_log row.message v.0 (log_of v.1 (sym (e.same.reads told) i))) ∙ sym (k.answer told) ∙ c.in-Ok-false.field-0-test in
          refused_by_records row c.args.size d v.0 v.1 (e.fine told) (c.value-first.ensures ∙ e.value told) c.if-first-gt-GREATEST_COUNT.false c.if-second-lt80.false (omega (arith, c.if-second-length.false, e.size told)) c.if-second-size.false no;
      device = λ is. elim (false≢true is) [ ];
      calls = tt;
      calls_err = subst (λ d. Calls m c.args.disk d false) back (calls_on m c.args.disk c.in-Ok.register.disk c.fill_log.new.register.disk false e.calls k.calls);
      same = tt;
      same_err = subst (λ d. Moves m Same c.args.disk d) back (goes_on_same m Same _ _ _ e.same k.moves);
    }

pub returns-in-Ok-true : goal.returns-in-Ok-true
returns-in-Ok-true g c =
    let m = g.D.Disk.told in
    let row = c.args.row.now in
    let d = m.reading c.args.disk in
    let v = c.value-first.result in
    let e = c.in-Ok.ensures in
    let k = c.in-Ok-true.ensures in
    let over = c.over.ensures in
    let value = λ (told : m.tells). c.value-first.ensures ∙ e.value told in
    let fills = λ (told : m.tells). (λ i. is_log row.message v.0 (log_of v.1 (sym (e.same.reads told) i))) ∙ sym (k.answer told) ∙ c.in-Ok-true.field-0-test in
    record {
      ready = over.ready;
      row = over.row;
      size = over.size;
      value = λ told. (λ i. (over.count i, over.end i)) ∙ k.value ∙ e.value told;
      stands = λ told. let (ms, count, stands) = recv_from row v.0 v.1 d d refl (e.header told) (value told) c.if-second-lt80.false (omega (arith, c.if-second-length.false, e.size told)) (fills told) in (ms, stands);
      fine = λ told. receiver_fine row c.args.size d v.0 v.1 (e.fine told) (value told) c.if-first-gt-GREATEST_COUNT.false c.if-second-lt80.false (omega (arith, c.if-second-length.false, e.size told)) c.if-second-size.false (fills told);
      exact = tt;
      device = tt;
      calls = subst (λ d. Calls m c.args.disk d false) (sym over.disk) (calls_on m c.args.disk c.in-Ok.register.disk c.fill_log.new.register.disk false e.calls k.calls);
      calls_err = tt;
      same = subst (λ d. Moves m Same c.args.disk d) (sym over.disk) (goes_on_same m Same _ _ _ e.same k.moves);
      same_err = tt;
    }

pub returns-then-first-gt-GREATEST_COUNT-clause-device : goal.returns-then-first-gt-GREATEST_COUNT-clause-device
returns-then-first-gt-GREATEST_COUNT-clause-device g c = λ is. elim (false≢true is) [ ]

pub returns-then-first-gt-GREATEST_COUNT-clause-calls_err : goal.returns-then-first-gt-GREATEST_COUNT-clause-calls_err
returns-then-first-gt-GREATEST_COUNT-clause-calls_err g c = subst (λ d. Calls g.D.Disk.told c.args.disk d false) (sym c.into_disk-disk.ensures) c.in-Ok.ensures.calls

pub returns-then-first-gt-GREATEST_COUNT-clause-same_err : goal.returns-then-first-gt-GREATEST_COUNT-clause-same_err
returns-then-first-gt-GREATEST_COUNT-clause-same_err g c = subst (λ d. Moves g.D.Disk.told Same c.args.disk d) (sym c.into_disk-disk.ensures) c.in-Ok.ensures.same

pub returns-then-first-gt-GREATEST_COUNT-clause-ready : goal.returns-then-first-gt-GREATEST_COUNT-clause-ready
returns-then-first-gt-GREATEST_COUNT-clause-ready g c = tt

pub returns-then-first-gt-GREATEST_COUNT-clause-row : goal.returns-then-first-gt-GREATEST_COUNT-clause-row
returns-then-first-gt-GREATEST_COUNT-clause-row g c = tt

pub returns-then-first-gt-GREATEST_COUNT-clause-size : goal.returns-then-first-gt-GREATEST_COUNT-clause-size
returns-then-first-gt-GREATEST_COUNT-clause-size g c = tt

pub returns-then-first-gt-GREATEST_COUNT-clause-value : goal.returns-then-first-gt-GREATEST_COUNT-clause-value
returns-then-first-gt-GREATEST_COUNT-clause-value g c = tt

pub returns-then-first-gt-GREATEST_COUNT-clause-stands : goal.returns-then-first-gt-GREATEST_COUNT-clause-stands
returns-then-first-gt-GREATEST_COUNT-clause-stands g c = tt

pub returns-then-first-gt-GREATEST_COUNT-clause-fine : goal.returns-then-first-gt-GREATEST_COUNT-clause-fine
returns-then-first-gt-GREATEST_COUNT-clause-fine g c = tt

pub returns-then-first-gt-GREATEST_COUNT-clause-calls : goal.returns-then-first-gt-GREATEST_COUNT-clause-calls
returns-then-first-gt-GREATEST_COUNT-clause-calls g c = tt

pub returns-then-first-gt-GREATEST_COUNT-clause-same : goal.returns-then-first-gt-GREATEST_COUNT-clause-same
returns-then-first-gt-GREATEST_COUNT-clause-same g c = tt
