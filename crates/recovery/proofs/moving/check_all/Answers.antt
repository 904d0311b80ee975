use Rattle.std.proofs.Common.{◌≡◌, ◌∙◌, ℕ, List, ap, sym, subst, true, false, length, Err, Some, None, Option}
use Rattle.std.proofs.lemmas.Result.{err_from_is_err_and}
use Rattle.disk_model.specs.declared.name.Role.TheVariants.{Low, High, Recv}
use Rattle.stable_buffer.specs.Register.{value_of}
use Rattle.stable_buffer.specs.Stands.{LowStands}
use Rattle.stable_buffer.specs.Log.{RecvStands}
use Rattle.recovery.specs.Calls.{is_device}
use Rattle.recovery.specs.Moves.{disk_at, first_full, first_unfit}
use Rattle.recovery.specs.Refusals.{or_else}
use Rattle.recovery.specs.declared.trio.MoveFault.{MoveFault}
use Rattle.recovery.specs.declared.why.Why.TheVariants.{Device}
use Rattle.recovery.proofs.Blamed.{old_kept, new_kept}
use Rattle.recovery.proofs.Unwritten.{kept_still}
use Rattle.recovery.proofs.moving.check_all.Goals as goal

pub returns-in_err-check_empty : goal.returns-in_err-check_empty
returns-in_err-check_empty g c =
    let m = g.D.Disk.told in
    let k = c.args.counts.now in
    let old = c.args.old.now in
    let new = c.args.new.now in
    let row = c.args.from.now in
    let to = c.args.to.now in
    let f = c.in_err-check_empty.field-0.0 in
    let fact : is_device f.why ≡ false → m.tells → (live received : List (List ℕ)) → length received ≡ k.received → (value_of (m.reading old.recv)).1 ≡ k.end → LowStands row k.accepted k.removed live (m.reading old.low)
    → RecvStands row received (m.reading old.recv) → or_else (first_full (m.reading new.low) (m.reading new.high) (m.reading new.recv)) (first_unfit to k.removed live received) ≡ Some f = λ nd told live received _ _ _ _.
    ap (λ (x : Option MoveFault). or_else x (first_unfit to k.removed live received)) (c.in_err-check_empty.ensures.exact nd told) in
    let r = err_from_is_err_and c.from_residual.result c.from_residual.ensures.1 in
    let e = c.in_err-check_empty.ensures in
    let is = r.1 ∙ ap (λ d. Err d) r.2 in
    let seen = c.check_empty.new.new in
    let side : is_device f.why ≡ true → f.new ≡ true = λ broken. (e.device broken).0 in
    let device : is_device f.why ≡ true → f.why ≡ Device (m.count (disk_at old seen f.new f.role)) = λ broken.
    let (new_one, count) = e.device broken in subst (λ b. f.why ≡ Device (m.count (disk_at old seen b f.role))) (sym new_one) count in
    record {
      room = rw (is) tt;
      empty = rw (is) tt;
      fine = rw (is) tt;
      unfit = rw (is) tt;
      exact = rw (is) fact;
      device = rw (is) device;
      old_disks = record {
        low = rw (is) (old_kept m Low f old.low old.low side (kept_still m old.low));
        high = rw (is) (old_kept m High f old.high old.high side (kept_still m old.high));
        recv = rw (is) (old_kept m Recv f old.recv old.recv side (kept_still m old.recv));
      };
      new_disks = record {
        low = rw (is) e.low;
        high = rw (is) e.high;
        recv = rw (is) e.recv;
      };
    }

pub returns-in_err-check_fit : goal.returns-in_err-check_fit
returns-in_err-check_fit g c =
    let m = g.D.Disk.told in
    let k = c.args.counts.now in
    let old = c.args.old.now in
    let new = c.args.new.now in
    let row = c.args.from.now in
    let to = c.args.to.now in
    let f = c.in_err-check_fit.field-0.0 in
    let fact : is_device f.why ≡ false → m.tells → (live received : List (List ℕ)) → length received ≡ k.received → (value_of (m.reading old.recv)).1 ≡ k.end → LowStands row k.accepted k.removed live (m.reading old.low)
    → RecvStands row received (m.reading old.recv) → or_else (first_full (m.reading new.low) (m.reading new.high) (m.reading new.recv)) (first_unfit to k.removed live received) ≡ Some f = λ nd told live received count end lows recvs.
    let (low, high, recv) = c.in_ok-check_empty.ensures.fine told in
    let empty : first_full (m.reading new.low) (m.reading new.high) (m.reading new.recv) ≡ None = λ i. first_full (low i) (high i) (recv i) in
    ap (λ (x : Option MoveFault). or_else x (first_unfit to k.removed live received)) empty ∙ c.in_err-check_fit.ensures.exact nd told live received count end lows recvs in
    let r = err_from_is_err_and c.from_residual-in_err-check_fit.result c.from_residual-in_err-check_fit.ensures.1 in
    let e = c.in_ok-check_empty.ensures in
    let k = c.in_err-check_fit.ensures in
    let is = r.1 ∙ ap (λ d. Err d) r.2 in
    let seen = c.check_empty.new.new in
    let read = c.check_fit.new.old in
    let side : is_device f.why ≡ true → f.new ≡ false = λ broken. (k.device broken).0 in
    let device : is_device f.why ≡ true → f.why ≡ Device (m.count (disk_at read seen f.new f.role)) = λ broken.
    let (old_one, count) = k.device broken in subst (λ b. f.why ≡ Device (m.count (disk_at read seen b f.role))) (sym old_one) count in
    record {
      room = rw (is) tt;
      empty = rw (is) tt;
      fine = rw (is) tt;
      unfit = rw (is) tt;
      exact = rw (is) fact;
      device = rw (is) device;
      old_disks = record {
        low = rw (is) k.low;
        high = rw (is) k.high;
        recv = rw (is) k.recv;
      };
      new_disks = record {
        low = rw (is) (new_kept m Low f new.low seen.low side e.low);
        high = rw (is) (new_kept m High f new.high seen.high side e.high);
        recv = rw (is) (new_kept m Recv f new.recv seen.recv side e.recv);
      };
    }

pub returns : goal.returns
returns g c =
    let m = g.D.Disk.told in
    let new = c.args.new.now in
    let e = c.in_ok-check_empty.ensures in
    let k = c.in_ok-check_fit.ensures in
    record {
      room = k.room;
      empty = λ told.
          let (low, high, recv) = e.fine told in
          (e.low.moves.reads told ∙ low, e.high.moves.reads told ∙ high, e.recv.moves.reads told ∙ recv);
      fine = λ told live received count end lows recvs.
          let (low, high, recv) = e.fine told in
          let empty : first_full (m.reading new.low) (m.reading new.high) (m.reading new.recv) ≡ None = λ i. first_full (low i) (high i) (recv i) in
          ap (λ (x : Option MoveFault). or_else x (first_unfit c.args.to.now c.args.counts.now.removed live received)) empty ∙ k.fine told live received count end lows recvs;
      unfit = k.fine;
      exact = tt;
      device = tt;
      old_disks = record {
        low = k.low;
        high = k.high;
        recv = k.recv;
      };
      new_disks = record {
        low = e.low;
        high = e.high;
        recv = e.recv;
      };
    }
