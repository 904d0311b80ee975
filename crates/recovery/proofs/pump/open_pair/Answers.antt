use Rattle.std.proofs.Common.{◌≡◌, ◌≤◌, ◌⊎◌, inl, inr, ◌∙◌, false, ◌+◌, ◌<◌, refl, sym, ap, subst, arith}
use Rattle.std.proofs.lemmas.Bool.{false≢true}
use Rattle.disk_model.specs.Disk.{Moves, Same}
use Rattle.disk_model.proofs.Run.{started}
use Rattle.recovery.specs.Calls.{Calls, is_low, is_high}
use Rattle.recovery.proofs.Calls.{gone_on, stopped}
use Rattle.recovery.proofs.Openings.{refused_low, refused_high, refused_counts, refused_slots}
use Rattle.recovery.proofs.pump.open_pair.Goals as goal
use Rattle.recovery.proofs.pump.open_pair.Goals.{then-removed-accepted-via-then-removed-accepted, then-removed-accepted-via-else-removed-accepted+then-accepted-removed}

pub returns-in-Err : goal.returns-in-Err
returns-in-Err g c =
    let m = g.D.Disk.told in
    let row = c.args.row.now in
    let e = c.in-Err.ensures in
    record {
      opened = tt;
      refused = record {
        exact = λ nd told. refused_low row (m.reading c.args.low) (m.reading c.args.high) c.in-Err.why (e.back.exact nd told);
        device_low = λ is _. e.back.device is;
        device_high = λ _ role. elim (false≢true (ap is_high role)) [ ];
        role = inl refl;
        calls_low = e.back.calls;
        calls_high = inr (refl, refl, stopped m row c.args.low c.in-Err.why c.in-Err.low e.back.calls e.back.exact);
        moves_low = e.back.same;
        moves_high = started m Same (λ d. refl) c.args.high;
      };
    }

pub returns-in-Err-open_high : goal.returns-in-Err-open_high
returns-in-Err-open_high g c =
    let m = g.D.Disk.told in
    let row = c.args.row.now in
    let e = c.in-Ok.ensures in
    let f = c.in-Err-open_high.ensures in
    let low = sym c.into_disk.ensures in
    record {
      opened = tt;
      refused = record {
        exact = λ nd told. refused_high row (m.reading c.args.low) (m.reading c.args.high) c.in-Err-open_high.why (e.fine told) (f.back.exact nd told);
        device_low = λ _ role. elim (false≢true (ap is_low role)) [ ];
        device_high = λ is _. f.back.device is;
        role = inr refl;
        calls_low = subst (λ d. Calls m c.args.low d false) low e.calls;
        calls_high = inl (f.back.calls, gone_on m row c.args.low c.in-Ok.low.register.disk e.calls e.fine);
        moves_low = subst (λ d. Moves m Same c.args.low d) low e.same;
        moves_high = f.back.same;
      };
    }

pub returns-then-removed-accepted : goal.returns-then-removed-accepted
returns-then-removed-accepted g c =
    let m = g.D.Disk.told in
    let row = c.args.row.now in
    let e = c.in-Ok.ensures in
    let f = c.in-Ok-open_high.ensures in
    let r = c.removed-removed.result in
    let apart : (c.accepted-accepted.result < r) ⊎ (r + row.capacity < c.accepted-accepted.result) = elim c.then-removed-accepted.branch [
      | then-removed-accepted-via-then-removed-accepted w ↦ inl (omega (arith, w.if-removed-accepted.true))
      | then-removed-accepted-via-else-removed-accepted+then-accepted-removed w ↦ inr (omega (arith, w.if-removed-accepted.false, w.if-accepted-removed.true))
    ] in
    let low = sym c.into_disk-then-removed-accepted.ensures in
    let high = sym c.into_disk-then-removed-accepted-2.ensures in
    record {
      opened = tt;
      refused = record {
        exact = λ nd told. refused_counts row (m.reading c.args.low) (m.reading c.args.high) c.accepted-accepted.result c.removed-removed.result (e.fine told) (f.fine told)
            ((e.stands told).value ∙ (λ i. (sym c.accepted-accepted.ensures i, 0))) ((f.stands told).value ∙ (λ i. (sym c.removed-removed.ensures i, 0))) apart;
        device_low = λ _ role. elim (false≢true (ap is_low role)) [ ];
        device_high = λ is _. elim (false≢true is) [ ];
        role = inr refl;
        calls_low = subst (λ d. Calls m c.args.low d false) low e.calls;
        calls_high = inl (subst (λ d. Calls m c.args.high d false) high f.calls, gone_on m row c.args.low c.in-Ok.low.register.disk e.calls e.fine);
        moves_low = subst (λ d. Moves m Same c.args.low d) low e.same;
        moves_high = subst (λ d. Moves m Same c.args.high d) high f.same;
      };
    }

pub returns : goal.returns
returns g c =
    let m = g.D.Disk.told in
    let row = c.args.row.now in
    let e = c.in-Ok.ensures in
    let f = c.in-Ok-open_high.ensures in
    let low = m.reading c.args.low in
    let high = m.reading c.args.high in
    let next : c.accepted-accepted.result ≡ c.in-Ok.low.register.first = c.accepted-accepted.ensures in
    let gone : c.removed-removed.result ≡ c.in-Ok-open_high.high.register.first = c.removed-removed.ensures in
    let E = c.in-Ok.low.register.first in
    let B = c.in-Ok-open_high.high.register.first in
    let below : B ≤ E = omega (arith, next, gone, c.if-removed-accepted.false) in
    let above : E ≤ B + row.capacity = omega (arith, next, gone, c.if-removed-accepted.false, c.if-accepted-removed.false) in
    record {
      opened = record {
        ready_low = e.ready;
        ready_high = f.ready;
        row = e.row;
        between = (below, above);
        low_stands = e.stands;
        high_stands = f.stands;
        slots = λ told why slots. refused_slots row low high E B (e.fine told) (f.fine told) (e.stands told).value (f.stands told).value why below above slots;
        calls_low = e.calls;
        calls_high = f.calls;
        goes_on = gone_on m row c.args.low c.in-Ok.low.register.disk e.calls e.fine;
        same_low = e.same;
        same_high = f.same;
      };
      refused = tt;
    }
