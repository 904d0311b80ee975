-- Each return by hand: a search at each of its clauses takes far longer.
use Rattle.std.proofs.Common.{◌≡◌, ◌∙◌, true, false, Err, Option, Some, None, refl, sym, ap, subst}
use Rattle.std.proofs.lemmas.Result.{err_from_is_err_and}
use Rattle.disk_model.specs.declared.name.Role.{Role}
use Rattle.disk_model.specs.declared.name.Role.TheVariants.{Low, High, Recv}
use Rattle.recovery.specs.Calls.{is_device}
use Rattle.recovery.specs.Moves.{disk_of, fault_of, first_full, full}
use Rattle.recovery.specs.Refusals.{or_else}
use Rattle.recovery.specs.declared.trio.MoveFault.{MoveFault}
use Rattle.recovery.specs.declared.trio.Trio.{Trio}
use Rattle.recovery.specs.declared.why.Why.{Why}
use Rattle.recovery.specs.declared.why.Why.TheVariants.{Device}
use Rattle.recovery.proofs.Blamed.{apart_kept}
use Rattle.recovery.proofs.Unwritten.{kept_still}
use Rattle.recovery.proofs.fitting.check_empty.Goals as goal

comes_first : (a b : Option (Role × Why)) (f : MoveFault) → fault_of true a ≡ Some f → fault_of true (or_else a b) ≡ Some f
comes_first None b f is = absurd (cc)
comes_first (Some x) b f is = is

pub returns-in_err-check_size : goal.returns-in_err-check_size
returns-in_err-check_size g c =
    let m = g.D.Disk.told in
    let new = c.args.new.now in
    let low = m.reading new.low in
    let high = m.reading new.high in
    let recv = m.reading new.recv in
    let f = c.in_err-check_size.field-0.0 in
    let e = c.in_err-check_size.ensures in
    let left : Trio g.row.D.Denot = record { low = c.check_size.new.disk; high = new.high; recv = new.recv } in
    let (fault, was, same) = err_from_is_err_and c.from_residual.result c.from_residual.ensures.1 in
    let is = was ∙ ap (λ d. Err d) same in
    let own : is_device f.why ≡ true → f.role ≡ Low = λ broken. (e.device broken).1 in
    let device : is_device f.why ≡ true → (f.new ≡ true) × (f.why ≡ Device (m.count (disk_of left f.role))) = λ broken.
    let (side, role, count) = e.device broken in
    (side, subst (λ r. f.why ≡ Device (m.count (disk_of left r))) (sym role) count) in
    let exact : is_device f.why ≡ false → m.tells → first_full low high recv ≡ Some f = λ fine told. comes_first (full Low low) _ f (e.exact fine told) in
    record {
      fine = rw (is) tt;
      exact = rw (is) exact;
      device = rw (is) device;
      low = rw (is) e.kept;
      high = rw (is) (apart_kept m High f new.high new.high Low own refl true (kept_still m new.high));
      recv = rw (is) (apart_kept m Recv f new.recv new.recv Low own refl true (kept_still m new.recv));
    }

pub returns-in_err-check_size-2 : goal.returns-in_err-check_size-2
returns-in_err-check_size-2 g c =
    let m = g.D.Disk.told in
    let new = c.args.new.now in
    let low = m.reading new.low in
    let high = m.reading new.high in
    let recv = m.reading new.recv in
    let one = c.in_ok-check_size.ensures in
    let f = c.in_err-check_size-2.field-0.0 in
    let e = c.in_err-check_size-2.ensures in
    let left : Trio g.row.D.Denot = record { low = c.check_size.new.disk; high = c.check_size-2.new.disk; recv = new.recv } in
    let (fault, was, same) = err_from_is_err_and c.from_residual-in_err-check_size-2.result c.from_residual-in_err-check_size-2.ensures.1 in
    let is = was ∙ ap (λ d. Err d) same in
    let own : is_device f.why ≡ true → f.role ≡ High = λ broken. (e.device broken).1 in
    let device : is_device f.why ≡ true → (f.new ≡ true) × (f.why ≡ Device (m.count (disk_of left f.role))) = λ broken.
    let (side, role, count) = e.device broken in
    (side, subst (λ r. f.why ≡ Device (m.count (disk_of left r))) (sym role) count) in
    let exact : is_device f.why ≡ false → m.tells → first_full low high recv ≡ Some f = λ fine told. (λ i. first_full (one.fine told i) high recv) ∙ comes_first (full High high) _ f (e.exact fine told) in
    record {
      fine = rw (is) tt;
      exact = rw (is) exact;
      device = rw (is) device;
      low = rw (is) (apart_kept m Low f new.low c.check_size.new.disk High own refl true one.kept);
      high = rw (is) e.kept;
      recv = rw (is) (apart_kept m Recv f new.recv new.recv High own refl true (kept_still m new.recv));
    }

pub returns-in_err-check_size-3 : goal.returns-in_err-check_size-3
returns-in_err-check_size-3 g c =
    let m = g.D.Disk.told in
    let new = c.args.new.now in
    let low = m.reading new.low in
    let high = m.reading new.high in
    let recv = m.reading new.recv in
    let one = c.in_ok-check_size.ensures in
    let two = c.in_ok-check_size-2.ensures in
    let f = c.in_err-check_size-3.field-0.0 in
    let e = c.in_err-check_size-3.ensures in
    let left : Trio g.row.D.Denot = record { low = c.check_size.new.disk; high = c.check_size-2.new.disk; recv = c.check_size-3.new.disk } in
    let (fault, was, same) = err_from_is_err_and c.from_residual-in_err-check_size-3.result c.from_residual-in_err-check_size-3.ensures.1 in
    let is = was ∙ ap (λ d. Err d) same in
    let own : is_device f.why ≡ true → f.role ≡ Recv = λ broken. (e.device broken).1 in
    let device : is_device f.why ≡ true → (f.new ≡ true) × (f.why ≡ Device (m.count (disk_of left f.role))) = λ broken.
    let (side, role, count) = e.device broken in
    (side, subst (λ r. f.why ≡ Device (m.count (disk_of left r))) (sym role) count) in
    let exact : is_device f.why ≡ false → m.tells → first_full low high recv ≡ Some f = λ fine told. (λ i. first_full (one.fine told i) (two.fine told i) recv) ∙ e.exact fine told in
    record {
      fine = rw (is) tt;
      exact = rw (is) exact;
      device = rw (is) device;
      low = rw (is) (apart_kept m Low f new.low c.check_size.new.disk Recv own refl true one.kept);
      high = rw (is) (apart_kept m High f new.high c.check_size-2.new.disk Recv own refl true two.kept);
      recv = rw (is) e.kept;
    }

pub returns : goal.returns
returns g c =
    let one = c.in_ok-check_size.ensures in
    let two = c.in_ok-check_size-2.ensures in
    let three = c.in_ok-check_size-3.ensures in
    record {
      fine = λ told. (one.fine told, two.fine told, three.fine told);
      exact = tt;
      device = tt;
      low = one.kept;
      high = two.kept;
      recv = three.kept;
    }
