use Rattle.std.proofs.Common.{◌≡◌, inl, ◌∙◌, ◌-◌, ℕ, List, None, Some, false, refl, sym, ap, subst, arith}
use Rattle.recovery.specs.Deals.{InSlots}
use Rattle.recovery.specs.Moves.{IsKept}
use Rattle.recovery.specs.Calls.{is_device}
use Rattle.recovery.specs.Refusals.{bad_slot}
use Rattle.recovery.specs.declared.why.Why.TheVariants.{Device}
use Rattle.recovery.proofs.Unwritten.{kept, kept_low, kept_high, told_of_one}
use Rattle.recovery.proofs.Surveys.{kept_after}
use Rattle.recovery.proofs.survey.open_live.Goals as goal

pub returns-in-Err : goal.returns-in-Err
returns-in-Err g c =
    let m = g.D.Disk.told in
    let e = c.in-Err.ensures.refused in
    let refused = c.in-Err.refused in
    record {
      live = tt;
      fine = tt;
      exact = e.exact;
      device = λ is. told_of_one refused.role refused.why (Device (m.count refused.low)) (Device (m.count refused.high)) e.role (e.device_low is) (e.device_high is);
      low_back = kept_low m refused.role (is_device refused.why) c.args.low refused.low e.moves_low e.calls_low;
      high_back = kept_high m c.args.row.now c.args.low refused.role (is_device refused.why) c.args.high refused.high e.moves_high e.calls_high;
    }

pub returns-in-Ok-check_live : goal.returns-in-Ok-check_live
returns-in-Ok-check_live g c =
    let m = g.D.Disk.told in
    let row = c.args.row.now in
    let low = c.in-Ok.pair.low in
    let high = c.in-Ok.pair.high in
    let e = c.in-Ok.ensures.opened in
    let k = c.in-Ok-check_live.ensures in
    let gone : c.removed.result ≡ high.register.first = c.removed.ensures in
    record {
      live = record {
        ready = k.ready;
        row = k.row ∙ e.row;
        between = (omega (arith, e.between.0, k.count), omega (arith, e.between.1, k.count));
        low_stands = λ told.
            let s = e.low_stands told in
            let (live, count, slots) = k.live told in (
              live,
              record {
                header = s.header;
                size = s.size;
                value = s.value ∙ (λ i. (sym k.count i, 0));
                kept = omega (arith, e.between.1, k.count);
                count = omega (arith, count, k.count, gone);
                slots = subst (λ (z : List ℕ). InSlots row high.register.first live z) (e.same_low.reads told) (subst (λ n. InSlots row n live (m.reading low.register.disk)) gone slots);
              },
            );
        high_stands = e.high_stands;
        low_kept = kept_after m c.args.low low.register.disk c.check_live.new.low.register.disk false (kept m c.args.low low.register.disk false e.same_low e.calls_low) k.kept;
        high_kept = kept m c.args.high high.register.disk false e.same_high e.calls_high;
      };
      fine = λ told. e.slots told None ((λ i. bad_slot row (sym (e.same_low.reads told) i) (sym gone i) (low.register.first - sym gone i)) ∙ k.fine told);
      exact = tt;
      device = tt;
      low_back = tt;
      high_back = tt;
    }

pub returns-in-Err-check_live : goal.returns-in-Err-check_live
returns-in-Err-check_live g c =
    let m = g.D.Disk.told in
    let row = c.args.row.now in
    let low = c.in-Ok.pair.low in
    let high = c.in-Ok.pair.high in
    let e = c.in-Ok.ensures.opened in
    let k = c.in-Err-check_live.ensures in
    let why = c.in-Err-check_live.why in
    let gone : c.removed.result ≡ high.register.first = c.removed.ensures in
    let low_back = sym c.into_disk.ensures in
    record {
      live = tt;
      fine = tt;
      exact = λ fine told. e.slots told (Some why) ((λ i. bad_slot row (sym (e.same_low.reads told) i) (sym gone i) (low.register.first - sym gone i)) ∙ k.exact fine told);
      device = λ is. inl (refl, k.device is ∙ ap (λ d. Device (m.count d)) low_back);
      low_back = subst (λ d. IsKept m c.args.low d (is_device why)) low_back
          (kept_after m c.args.low low.register.disk c.check_live.new.low.register.disk (is_device why) (kept m c.args.low low.register.disk false e.same_low e.calls_low) k.kept);
      high_back = subst (λ d. IsKept m c.args.high d false) (sym c.into_disk-in-Err-check_live.ensures) (kept m c.args.high high.register.disk false e.same_high e.calls_high);
    }
