use Rattle.std.proofs.Common.{◌≡◌, inl, ◌∙◌, ℕ, List, None, Some, false, ◌-◌, refl, sym, ap, subst, arith}
use Rattle.std.proofs.lemmas.Bool.{false≢true}
use Rattle.disk_model.specs.Disk.{Moves, Same}
use Rattle.disk_model.proofs.Run.{goes_on_same}
use Rattle.recovery.specs.Calls.{Calls, is_device, is_high}
use Rattle.recovery.specs.Deals.{InSlots}
use Rattle.recovery.specs.Refusals.{bad_slot}
use Rattle.recovery.specs.declared.why.Why.TheVariants.{Device}
use Rattle.stable_buffer.specs.Stands.{HighStands}
use Rattle.recovery.proofs.Comparing.{calls_on}
use Rattle.recovery.proofs.Refill.{hands_fit}
use Rattle.recovery.proofs.Rows.{row_capacity}
use Rattle.recovery.proofs.pump.open_pump_by.Goals as goal

pub returns-in-Err : goal.returns-in-Err
returns-in-Err g c =
    let e = c.in-Err.ensures.refused in
    record {
      ready_low = tt;
      ready_high = tt;
      row = tt;
      counts = tt;
      dealt = tt;
      hands = tt;
      removed = tt;
      fine = tt;
      exact = e.exact;
      device_low = e.device_low;
      device_high = e.device_high;
      role = e.role;
      calls_low = e.calls_low;
      calls_high = e.calls_high;
      moves_low = e.moves_low;
      moves_high = e.moves_high;
      ends = (refl, refl);
    }

pub returns-in-Ok-deal : goal.returns-in-Ok-deal
returns-in-Ok-deal g c =
    let m = g.D.Disk.told in
    let row = c.args.row.now in
    let e = c.in-Ok.ensures.opened in
    let k = c.in-Ok-deal.ensures in
    let low = c.in-Ok.pair.low in
    let high = c.in-Ok.pair.high in
    let n = c.accepted-next.result in
    let r = c.removed-removed.result in
    let next : n ≡ low.register.first = c.accepted-next.ensures in
    let gone : r ≡ high.register.first = c.removed-removed.ensures in
    let (ms, slots, dealt) = k.dealt in
    record {
      ready_low = k.reads.ready;
      ready_high = e.ready_high;
      row = k.reads.row ∙ e.row;
      counts = (k.reads.count ∙ sym next, sym gone);
      dealt = (
        ms,
        (λ told.
            let s = e.low_stands told in
            record {
              header = s.header;
              size = s.size;
              value = s.value ∙ (λ i. (sym next i, 0));
              kept = omega (arith, e.between.1, next, gone);
              count = omega (arith, dealt.count, next);
              slots = subst (λ (z : List ℕ). InSlots row r ms z) (e.same_low.reads told) (slots told);
            }),
        record {
          count = omega (arith, dealt.count, next);
          places = omega (arith, dealt.places, next);
          short = dealt.short;
          hands = dealt.hands;
          fills = dealt.fills;
        },
      );
      hands = hands_fit row.capacity r n ms c.in-Ok-deal.hands.high c.in-Ok-deal.hands.low (row_capacity row c.requires.lawful).0 (omega (arith, dealt.count, next)) (omega (arith, dealt.places, next)) dealt.hands;
      removed = λ told. subst (λ b. HighStands row b (m.reading c.args.high)) (sym gone) (e.high_stands told);
      fine = λ told. e.slots told None ((λ i. bad_slot row (sym (e.same_low.reads told) i) (sym gone i) (low.register.first - sym gone i)) ∙ k.fine told);
      exact = tt;
      device_low = tt;
      device_high = tt;
      role = tt;
      calls_low = calls_on m c.args.low low.register.disk c.deal.new.low.register.disk false e.calls_low k.reads.calls;
      calls_high = inl (e.calls_high, e.goes_on);
      moves_low = goes_on_same m Same _ _ _ e.same_low k.reads.moves;
      moves_high = e.same_high;
      ends = k.ends;
    }

pub returns-in-Err-deal : goal.returns-in-Err-deal
returns-in-Err-deal g c =
    let m = g.D.Disk.told in
    let row = c.args.row.now in
    let e = c.in-Ok.ensures.opened in
    let k = c.in-Err-deal.ensures in
    let first = c.in-Ok.pair.low in
    let gone : c.removed-removed.result ≡ c.in-Ok.pair.high.register.first = c.removed-removed.ensures in
    let why = c.in-Err-deal.why in
    let low = sym c.into_disk.ensures in
    let high = sym c.into_disk-in-Err-deal.ensures in
    record {
      ready_low = tt;
      ready_high = tt;
      row = tt;
      counts = tt;
      dealt = tt;
      hands = tt;
      removed = tt;
      fine = tt;
      exact = λ fine told. e.slots told (Some why) ((λ i. bad_slot row (sym (e.same_low.reads told) i) (sym gone i) (first.register.first - sym gone i)) ∙ k.exact fine told);
      device_low = λ is _. k.reads.device is ∙ ap (λ d. Device (m.count d)) low;
      device_high = λ _ role. elim (false≢true (ap is_high role)) [ ];
      role = inl refl;
      calls_low = subst (λ d. Calls m c.args.low d (is_device why)) low (calls_on m c.args.low first.register.disk c.deal.new.low.register.disk (is_device why) e.calls_low k.reads.calls);
      calls_high = inl (subst (λ d. Calls m c.args.high d false) high e.calls_high, e.goes_on);
      moves_low = subst (λ d. Moves m Same c.args.low d) low (goes_on_same m Same _ _ _ e.same_low k.reads.moves);
      moves_high = subst (λ d. Moves m Same c.args.high d) high e.same_high;
      ends = k.ends;
    }
