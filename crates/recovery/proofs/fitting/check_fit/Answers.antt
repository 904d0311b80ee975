use Rattle.std.proofs.Common.{◌≡◌, ◌∙◌, ◌-◌, ℕ, List, ap, refl, sym, subst, arith, true, false, drop, length, Err, Some, None, Option}
use Rattle.std.proofs.lemmas.Bool.{false≢true}
use Rattle.std.proofs.lemmas.Result.{err_from_is_err_and}
use Rattle.disk_model.specs.declared.name.Role.TheVariants.{Low, High, Recv}
use Rattle.stable_buffer.specs.Register.{value_of}
use Rattle.stable_buffer.specs.Stands.{LowStands}
use Rattle.stable_buffer.specs.Log.{RecvStands}
use Rattle.recovery.specs.Calls.{is_device}
use Rattle.recovery.specs.Moves.{IsKept, is_blamed, disk_of, fault_of, first_unfit, too_long}
use Rattle.recovery.specs.Refusals.{told_of}
use Rattle.recovery.specs.declared.trio.MoveFault.{MoveFault}
use Rattle.recovery.specs.declared.trio.Trio.{Trio}
use Rattle.recovery.specs.declared.why.Why.{Why}
use Rattle.recovery.specs.declared.why.Why.TheVariants.{Device, Small}
use Rattle.recovery.proofs.Blamed.{apart_kept}
use Rattle.recovery.proofs.Unwritten.{kept_still}
use Rattle.recovery.proofs.Unfit.{comes_now, fits_all, none_small, comes_second, comes_third, records_end}
use Rattle.recovery.proofs.fitting.check_fit.Goals as goal

pub returns-then-held-to : goal.returns-then-held-to
returns-then-held-to g c =
    let m = g.D.Disk.told in
    let k = c.args.counts.now in
    let to = c.args.to.now in
    let old = c.args.old.now in
    let made = c.old_fault.ensures in
    let f = c.old_fault.result in
    let fine : is_device f.why ≡ false = ap (λ (e : MoveFault). is_device e.why) made in
    let failed = λ (broken : is_device f.why ≡ true). false≢true (sym fine ∙ broken) in
    record {
      room = tt;
      fine = tt;
      exact = λ _ told live received count end lows recvs.
          let held : k.accepted - k.removed ≡ length live = omega (arith, lows.count) in
          comes_now to (length live) _ (omega (arith, held, c.if-held-to.true)) ∙ (λ i. Some (record { new = false; role = Low; why = Small (sym held i) to.capacity })) ∙ ap Some (sym made);
      device = λ broken. elim (failed broken) [ ];
      low = subst (λ (e : MoveFault). IsKept m old.low old.low (is_blamed {T = ℕ} false Low (Err e))) (sym made) (kept_still m old.low);
      high = subst (λ (e : MoveFault). IsKept m old.high old.high (is_blamed {T = ℕ} false High (Err e))) (sym made) (kept_still m old.high);
      recv = subst (λ (e : MoveFault). IsKept m old.recv old.recv (is_blamed {T = ℕ} false Recv (Err e))) (sym made) (kept_still m old.recv);
    }

pub returns-in_err-check_records : goal.returns-in_err-check_records
returns-in_err-check_records g c =
    let m = g.D.Disk.told in
    let k = c.args.counts.now in
    let to = c.args.to.now in
    let row = c.args.from.now in
    let low = m.reading c.args.old.now.low in
    let recv = m.reading c.args.old.now.recv in
    let f = c.in_err-check_records.field-0.0 in
    let fact : is_device f.why ≡ false → m.tells → (live received : List (List ℕ)) → length received ≡ k.received → (value_of recv).1 ≡ k.end → LowStands row k.accepted k.removed live low → RecvStands row received recv
    → first_unfit to k.removed live received ≡ Some f = λ nd told live received count end lows recvs.
    let ends = records_end row received k.end recv recvs end in
    comes_second _ _ _ f (none_small to (length live) (omega (arith, c.if-held-to.false, lows.count))) (c.in_err-check_records.ensures.exact nd told row.message received count ends.within ends.records) in
    let r = err_from_is_err_and c.from_residual.result c.from_residual.ensures.1 in
    let is = r.1 ∙ ap (λ d. Err d) r.2 in
    let old = c.args.old.now in
    let e = c.in_err-check_records.ensures in
    let left : Trio g.row.D.Denot = record { low = old.low; high = old.high; recv = c.check_records.new.recv } in
    let own : is_device f.why ≡ true → f.role ≡ Recv = λ broken. (e.device broken).1 in
    let device : is_device f.why ≡ true → (f.new ≡ false) × (f.why ≡ Device (m.count (disk_of left f.role))) = λ broken.
    let (side, role, count) = e.device broken in
    (side, subst (λ r. f.why ≡ Device (m.count (disk_of left r))) (sym role) count) in
    record {
      room = rw (is) tt;
      fine = rw (is) tt;
      exact = rw (is) fact;
      device = rw (is) device;
      low = rw (is) (apart_kept m Low f old.low old.low Recv own refl false (kept_still m old.low));
      high = rw (is) (apart_kept m High f old.high old.high Recv own refl false (kept_still m old.high));
      recv = rw (is) e.kept;
    }

pub returns-in_err-check_slots : goal.returns-in_err-check_slots
returns-in_err-check_slots g c =
    let m = g.D.Disk.told in
    let k = c.args.counts.now in
    let to = c.args.to.now in
    let row = c.args.from.now in
    let low = m.reading c.args.old.now.low in
    let recv = m.reading c.args.old.now.recv in
    let f = c.in_err-check_slots.field-0.0 in
    let fact : is_device f.why ≡ false → m.tells → (live received : List (List ℕ)) → length received ≡ k.received → (value_of recv).1 ≡ k.end → LowStands row k.accepted k.removed live low → RecvStands row received recv
    → first_unfit to k.removed live received ≡ Some f = λ nd told live received count end lows recvs.
    let ends = records_end row received k.end recv recvs end in
    let none : fault_of false (told_of Recv (too_long to 0 received)) ≡ None =
    ap (λ (x : Option Why). fault_of false (told_of Recv x)) (c.in_ok-check_records.ensures.fine told row.message received count ends.within ends.records) in
    comes_third _ _ _ f (none_small to (length live) (omega (arith, c.if-held-to.false, lows.count))) none
    (subst (λ n. fault_of false (told_of Low (too_long to n (drop (n - k.removed) live))) ≡ Some f) (sym count) (c.in_err-check_slots.ensures.exact nd told live lows)) in
    let r = err_from_is_err_and c.from_residual-in_err-check_slots.result c.from_residual-in_err-check_slots.ensures.1 in
    let is = r.1 ∙ ap (λ d. Err d) r.2 in
    let old = c.args.old.now in
    let one = c.in_ok-check_records.ensures in
    let e = c.in_err-check_slots.ensures in
    let left : Trio g.row.D.Denot = record { low = c.check_slots.new.low; high = old.high; recv = c.check_records.new.recv } in
    let own : is_device f.why ≡ true → f.role ≡ Low = λ broken. (e.device broken).1 in
    let device : is_device f.why ≡ true → (f.new ≡ false) × (f.why ≡ Device (m.count (disk_of left f.role))) = λ broken.
    let (side, role, count) = e.device broken in
    (side, subst (λ r. f.why ≡ Device (m.count (disk_of left r))) (sym role) count) in
    record {
      room = rw (is) tt;
      fine = rw (is) tt;
      exact = rw (is) fact;
      device = rw (is) device;
      low = rw (is) e.kept;
      high = rw (is) (apart_kept m High f old.high old.high Low own refl false (kept_still m old.high));
      recv = rw (is) (apart_kept m Recv f old.recv c.check_records.new.recv Low own refl false one.kept);
    }

pub returns : goal.returns
returns g c =
    let m = g.D.Disk.told in
    let k = c.args.counts.now in
    let to = c.args.to.now in
    let row = c.args.from.now in
    let old = c.args.old.now in
    let one = c.in_ok-check_records.ensures in
    let two = c.in_ok-check_slots.ensures in
    record {
      room = omega (arith, c.if-held-to.false, c.requires.order);
      fine = λ told live received count end lows recvs.
          let ends = records_end row received k.end (m.reading old.recv) recvs end in
          fits_all to k.removed live received (omega (arith, c.if-held-to.false, lows.count)) (one.fine told row.message received count ends.within ends.records)
          (subst (λ n. too_long to n (drop (n - k.removed) live) ≡ None) (sym count) (two.fine told live lows));
      exact = tt;
      device = tt;
      low = two.kept;
      high = kept_still m old.high;
      recv = one.kept;
    }
