use Rattle.std.proofs.Common.{◌≡◌, ◌∙◌, inl, inr, ℕ, Err, true, false, refl, sym, ap, subst, arith}
use Rattle.std.proofs.lemmas.Result.{IfOk-weaker, IfErr-weaker}
use Rattle.disk_model.specs.declared.name.Role.{Role}
use Rattle.disk_model.specs.declared.name.Role.TheVariants.{Low, High, Recv}
use Rattle.recovery.specs.Calls.{is_device}
use Rattle.recovery.specs.Moves.{AreRefused, IsKept, is_blamed, disk_of}
use Rattle.recovery.specs.declared.trio.MoveFault.{MoveFault}
use Rattle.recovery.specs.declared.trio.Trio.{Trio}
use Rattle.recovery.specs.declared.why.Why.TheVariants.{Device}
use Rattle.recovery.proofs.Unwritten.{kept, kept_still, recv_unblamed}
use Rattle.recovery.proofs.Surveys.{AreOpened, kept_after, surveyed, refused_beside}
use Rattle.recovery.proofs.survey.survey.Goals as goal

pub returns-clause-found : goal.returns-clause-found
returns-clause-found g c =
    let m = g.D.Disk.told in
    let pair = c.in-Ok.pair in
    let receiver = c.in-Ok-open_receiver.receiver in
    let o : AreOpened m c.args.row.now c.args.size pair.high.register.first pair.low receiver c.args.old = record {
      low_stands = c.in-Ok.ensures.live.low_stands;
      high_stands = c.in-Ok.ensures.live.high_stands;
      recv_stands = c.in-Ok-open_receiver.ensures.stands;
      value = c.in-Ok-open_receiver.ensures.value;
      pump = c.in-Ok.ensures.fine;
      log = c.in-Ok-open_receiver.ensures.fine;
      low_row_is = c.in-Ok.ensures.live.row;
      recv_row_is = c.in-Ok-open_receiver.ensures.row;
      low_reads = c.in-Ok.ensures.live.low_kept.moves.reads;
      recv_reads = c.in-Ok-open_receiver.ensures.same.reads;
      count = c.in-Ok.ensures.live.ready.count;
      held = c.in-Ok.ensures.live.between;
      from = c.in-Ok-open_receiver.ensures.ready.from;
      room = omega (arith, c.in-Ok-open_receiver.ensures.ready.within, c.in-Ok-open_receiver.ensures.size);
    } in
    IfOk-weaker c.compare-end.result _ _ (λ counts fits. surveyed m c.args.row.now c.args.size pair.high.register.first c.removed-removed.result pair.low receiver c.args.old o c.removed-removed.ensures counts fits)
    c.compare-end.ensures.fine

pub returns-clause-refused : goal.returns-clause-refused
returns-clause-refused g c =
    let m = g.D.Disk.told in
    let pair = c.in-Ok.pair in
    let receiver = c.in-Ok-open_receiver.receiver in
    let o : AreOpened m c.args.row.now c.args.size pair.high.register.first pair.low receiver c.args.old = record {
      low_stands = c.in-Ok.ensures.live.low_stands;
      high_stands = c.in-Ok.ensures.live.high_stands;
      recv_stands = c.in-Ok-open_receiver.ensures.stands;
      value = c.in-Ok-open_receiver.ensures.value;
      pump = c.in-Ok.ensures.fine;
      log = c.in-Ok-open_receiver.ensures.fine;
      low_row_is = c.in-Ok.ensures.live.row;
      recv_row_is = c.in-Ok-open_receiver.ensures.row;
      low_reads = c.in-Ok.ensures.live.low_kept.moves.reads;
      recv_reads = c.in-Ok-open_receiver.ensures.same.reads;
      count = c.in-Ok.ensures.live.ready.count;
      held = c.in-Ok.ensures.live.between;
      from = c.in-Ok-open_receiver.ensures.ready.from;
      room = omega (arith, c.in-Ok-open_receiver.ensures.ready.within, c.in-Ok-open_receiver.ensures.size);
    } in
    IfErr-weaker c.compare-end.result _ _
    (λ f cause nd told. let parts = cause nd told in refused_beside m c.args.row.now c.args.size pair.high.register.first c.removed-removed.result pair.low receiver c.args.old o c.removed-removed.ensures f told parts.0 parts.1)
    c.compare-end.ensures.refused

pub returns-clause-low : goal.returns-clause-low
returns-clause-low g c =
    let m = g.D.Disk.told in
    subst (λ d. IsKept m c.args.old.low d (is_blamed false Low c.compare-end.result)) (sym c.into_disk-2.ensures)
    (kept_after m c.args.old.low c.in-Ok.pair.low.register.disk c.compare-end.new.low.register.disk (is_blamed false Low c.compare-end.result) c.in-Ok.ensures.live.low_kept c.compare-end.ensures.low_kept)

pub returns-in-Err : goal.returns-in-Err
returns-in-Err g c =
    let m = g.D.Disk.told in
    let old = c.args.old in
    let back = c.in-Err.back in
    let e = c.in-Err.ensures in
    let fault = sym c.old_fault.ensures in
    let disks : Trio g.row.D.Denot = record { low = back.low; high = back.high; recv = old.recv } in
    record {
      found = tt;
      refused = subst (λ (f : MoveFault). is_device f.why ≡ false → m.tells → (f.new ≡ false) × AreRefused c.args.row.now c.args.size (m.reading old.low) (m.reading old.high) (m.reading old.recv) f.role f.why) fault (λ nd told. (refl, inl (e.exact nd told)));
      device = subst (λ (f : MoveFault). is_device f.why ≡ true → (f.new ≡ false) × (f.why ≡ Device (m.count (disk_of disks f.role)))) fault (λ is. (
        refl,
        elim (e.device is) [
          | inl low ↦ low.1 ∙ ap (λ (r : Role). Device (m.count (disk_of disks r))) (sym low.0)
          | inr high ↦ high.1 ∙ ap (λ (r : Role). Device (m.count (disk_of disks r))) (sym high.0)
        ],
      ));
      low = subst (λ (f : MoveFault). IsKept m old.low back.low (is_blamed {T = ℕ} false Low (Err f))) fault e.low_back;
      high = subst (λ (f : MoveFault). IsKept m old.high back.high (is_blamed {T = ℕ} false High (Err f))) fault e.high_back;
      recv = subst (λ (f : MoveFault). IsKept m old.recv old.recv (is_blamed {T = ℕ} false Recv (Err f))) fault
          (subst (λ b. IsKept m old.recv old.recv b) (sym (recv_unblamed back.role (is_device back.why) (λ is. elim (e.device is) [ inl low ↦ inl low.0 | inr high ↦ inr high.0 ]))) (kept_still m old.recv));
    }

pub returns-in-Err-open_receiver : goal.returns-in-Err-open_receiver
returns-in-Err-open_receiver g c =
    let m = g.D.Disk.told in
    let old = c.args.old in
    let pair = c.in-Ok.ensures in
    let recv = c.in-Err-open_receiver.recv in
    let e = c.in-Err-open_receiver.ensures in
    let fault = sym c.old_fault-in-Err-open_receiver.ensures in
    let disks : Trio g.row.D.Denot = record { low = c.into_disk.result; high = c.into_disk-in-Err-open_receiver.result; recv = recv } in
    record {
      found = tt;
      refused = subst (λ (f : MoveFault). is_device f.why ≡ false → m.tells → (f.new ≡ false) × AreRefused c.args.row.now c.args.size (m.reading old.low) (m.reading old.high) (m.reading old.recv) f.role f.why) fault (λ nd told. (refl, inr (pair.fine told, refl, inl (e.exact nd told))));
      device = subst (λ (f : MoveFault). is_device f.why ≡ true → (f.new ≡ false) × (f.why ≡ Device (m.count (disk_of disks f.role)))) fault (λ is. (refl, e.device is));
      low = subst (λ (f : MoveFault). IsKept m old.low disks.low (is_blamed {T = ℕ} false Low (Err f))) fault (subst (λ d. IsKept m old.low d false) (sym c.into_disk.ensures) pair.live.low_kept);
      high = subst (λ (f : MoveFault). IsKept m old.high disks.high (is_blamed {T = ℕ} false High (Err f))) fault (subst (λ d. IsKept m old.high d false) (sym c.into_disk-in-Err-open_receiver.ensures) pair.live.high_kept);
      recv = subst (λ (f : MoveFault). IsKept m old.recv recv (is_blamed {T = ℕ} false Recv (Err f))) fault (kept m old.recv recv (is_device c.in-Err-open_receiver.why) e.same_err e.calls_err);
    }

pub returns-clause-recv : goal.returns-clause-recv
returns-clause-recv g c =
    let m = g.D.Disk.told in
    let opened = c.in-Ok-open_receiver.ensures in
    let disk = c.in-Ok-open_receiver.receiver.register.disk in
    subst (λ d. IsKept m c.args.old.recv d (is_blamed false Recv c.compare-end.result)) (sym c.into_disk-4.ensures)
    (kept_after m c.args.old.recv disk c.compare-end.new.receiver.register.disk (is_blamed false Recv c.compare-end.result) (kept m c.args.old.recv disk false opened.same opened.calls) c.compare-end.ensures.recv_kept)
