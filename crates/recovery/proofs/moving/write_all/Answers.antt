-- Each return by hand: a search at each of its clauses takes far longer.
use Rattle.std.proofs.Common.{◌≡◌, ◌∙◌, inl, inr, ℕ, List, true, false, Err, refl, sym, ap, subst, arith}
use Rattle.std.proofs.lemmas.Bool.{false≢true}
use Rattle.std.proofs.lemmas.Result.{err_from_is_err_and}
use Rattle.disk_model.specs.Disk.{Meaning, Moves, Same}
use Rattle.disk_model.specs.declared.name.Role.TheVariants.{Low, High, Recv}
use Rattle.recovery.specs.Calls.{is_device}
use Rattle.recovery.specs.Fillings.{IsMadeFrom}
use Rattle.recovery.specs.Moves.{Counted, disk_at}
use Rattle.recovery.specs.declared.trio.MoveFault.{MoveFault}
use Rattle.recovery.specs.declared.trio.Trio.{Trio}
use Rattle.recovery.specs.declared.why.Why.TheVariants.{Device}
use Rattle.recovery.proofs.Blamed.{apart_kept, apart_counted, old_kept}
use Rattle.recovery.proofs.Unwritten.{kept_still}
use Rattle.recovery.proofs.moving.write_all.Goals as goal

-- a disk that no call reached
made_still : {D : Type 0} (m : Meaning D) (P : List ℕ → Type 0) (d : D) → IsMadeFrom m P d d
made_still m P d few moment le none told c since long mark = absurd (none told c since long mark)

counted_still : {D : Type 0} (m : Meaning D) (d : D) → Counted m d d false
counted_still m d = record { counts = omega arith; rose = λ is. elim (false≢true is) [ ] }

still : {D : Type 0} (m : Meaning D) (d : D) → Moves m Same d d
still m d = (kept_still m d).moves

pub returns-in_err-write_low : goal.returns-in_err-write_low
returns-in_err-write_low g c =
    let m = g.D.Disk.told in
    let old = c.args.old.now in
    let new = c.args.new.now in
    let e = c.in_err-write_low.ensures in
    let left : Trio g.row.D.Denot = record { low = c.write_low.new.source; high = old.high; recv = old.recv } in
    let made : Trio g.row.D.Denot = record { low = c.write_low.new.target; high = new.high; recv = new.recv } in
    let own : is_device c.in_err-write_low.field-0.0.why ≡ true → c.in_err-write_low.field-0.0.role ≡ Low = λ _. elim e.one [
      | inl is ↦ ap (λ (x : MoveFault). x.role) is
      | inr is ↦ ap (λ (x : MoveFault). x.role) is
    ] in
    let device : (is_device c.in_err-write_low.field-0.0.why ≡ true) × (c.in_err-write_low.field-0.0.why ≡ Device (m.count (disk_at left made c.in_err-write_low.field-0.0.new c.in_err-write_low.field-0.0.role))) = elim e.one [
      | inl is ↦ subst (λ (x : MoveFault). (is_device x.why ≡ true) × (x.why ≡ Device (m.count (disk_at left made x.new x.role)))) (sym is) (refl, refl)
      | inr is ↦ subst (λ (x : MoveFault). (is_device x.why ≡ true) × (x.why ≡ Device (m.count (disk_at left made x.new x.role)))) (sym is) (refl, refl)
    ] in
    let f = c.in_err-write_low.field-0.0 in
    let (fault, was, same) = err_from_is_err_and c.from_residual.result c.from_residual.ensures.1 in
    let is = was ∙ ap (λ d. Err d) same in
    record {
      moved = rw (is) tt;
      made = record {
        turn = rw (is) (λ live stands fits. record {
          at_low = λ low. (still m new.high, still m new.recv);
          at_high = λ high. still m new.recv;
          high = λ told. inl (still m new.high);
          recv = λ told. inl (still m new.recv);
        });
        low = e.made;
        high = made_still m _ new.high;
        recv = λ received stands value fits. made_still m _ new.recv;
      };
      device = rw (is) device;
      old_disks = record {
        low = rw (is) e.kept;
        high = rw (is) (apart_kept m High f old.high old.high Low own refl false (kept_still m old.high));
        recv = rw (is) (apart_kept m Recv f old.recv old.recv Low own refl false (kept_still m old.recv));
      };
      new_disks = record {
        low = rw (is) e.counted;
        high = rw (is) (apart_counted m High f new.high new.high Low own refl (counted_still m new.high));
        recv = rw (is) (apart_counted m Recv f new.recv new.recv Low own refl (counted_still m new.recv));
      };
    }

pub returns-in_err-write_high : goal.returns-in_err-write_high
returns-in_err-write_high g c =
    let m = g.D.Disk.told in
    let old = c.args.old.now in
    let new = c.args.new.now in
    let one = c.in_ok-write_low.ensures in
    let e = c.in_err-write_high.ensures in
    let left : Trio g.row.D.Denot = record { low = c.write_low.new.source; high = old.high; recv = old.recv } in
    let made : Trio g.row.D.Denot = record { low = c.write_low.new.target; high = c.write_high.new.target; recv = new.recv } in
    let own : is_device c.in_err-write_high.field-0.0.why ≡ true → c.in_err-write_high.field-0.0.role ≡ High = λ _. ap (λ (x : MoveFault). x.role) e.device in
    let device : (is_device c.in_err-write_high.field-0.0.why ≡ true) × (c.in_err-write_high.field-0.0.why ≡ Device (m.count (disk_at left made c.in_err-write_high.field-0.0.new c.in_err-write_high.field-0.0.role))) =
    subst (λ (x : MoveFault). (is_device x.why ≡ true) × (x.why ≡ Device (m.count (disk_at left made x.new x.role)))) (sym e.device) (refl, refl) in
    let f = c.in_err-write_high.field-0.0 in
    let (fault, was, same) = err_from_is_err_and c.from_residual-in_err-write_high.result c.from_residual-in_err-write_high.ensures.1 in
    let is = was ∙ ap (λ d. Err d) same in
    record {
      moved = rw (is) tt;
      made = record {
        turn = rw (is) (λ live stands fits. record {
          at_low = λ low. absurd (let other : High ≡ Low = sym (ap (λ (x : MoveFault). x.role) e.device) ∙ low in cc);
          at_high = λ high. still m new.recv;
          high = λ told. inr (one.bytes told live (stands told) (fits told));
          recv = λ told. inl (still m new.recv);
        });
        low = one.made;
        high = e.made;
        recv = λ received stands value fits. made_still m _ new.recv;
      };
      device = rw (is) device;
      old_disks = record {
        low = rw (is) (apart_kept m Low f old.low left.low High own refl false one.kept);
        high = rw (is) (old_kept m High f old.high old.high (λ _. ap (λ (x : MoveFault). x.new) e.device) (kept_still m old.high));
        recv = rw (is) (apart_kept m Recv f old.recv old.recv High own refl false (kept_still m old.recv));
      };
      new_disks = record {
        low = rw (is) (apart_counted m Low f new.low made.low High own refl one.counted);
        high = rw (is) e.counted;
        recv = rw (is) (apart_counted m Recv f new.recv new.recv High own refl (counted_still m new.recv));
      };
    }

pub returns-in_err-write_recv : goal.returns-in_err-write_recv
returns-in_err-write_recv g c =
    let m = g.D.Disk.told in
    let old = c.args.old.now in
    let new = c.args.new.now in
    let one = c.in_ok-write_low.ensures in
    let two = c.in_ok-write_high.ensures in
    let e = c.in_err-write_recv.ensures in
    let left : Trio g.row.D.Denot = record { low = c.write_low.new.source; high = old.high; recv = c.write_recv.new.source } in
    let made : Trio g.row.D.Denot = record { low = c.write_low.new.target; high = c.write_high.new.target; recv = c.write_recv.new.target } in
    let own : is_device c.in_err-write_recv.field-0.0.why ≡ true → c.in_err-write_recv.field-0.0.role ≡ Recv = λ _. elim e.one [
      | inl is ↦ ap (λ (x : MoveFault). x.role) is
      | inr is ↦ ap (λ (x : MoveFault). x.role) is
    ] in
    let device : (is_device c.in_err-write_recv.field-0.0.why ≡ true) × (c.in_err-write_recv.field-0.0.why ≡ Device (m.count (disk_at left made c.in_err-write_recv.field-0.0.new c.in_err-write_recv.field-0.0.role))) = elim e.one [
      | inl is ↦ subst (λ (x : MoveFault). (is_device x.why ≡ true) × (x.why ≡ Device (m.count (disk_at left made x.new x.role)))) (sym is) (refl, refl)
      | inr is ↦ subst (λ (x : MoveFault). (is_device x.why ≡ true) × (x.why ≡ Device (m.count (disk_at left made x.new x.role)))) (sym is) (refl, refl)
    ] in
    let f = c.in_err-write_recv.field-0.0 in
    let at_recv : f.role ≡ Recv = elim e.one [ inl is ↦ ap (λ (x : MoveFault). x.role) is | inr is ↦ ap (λ (x : MoveFault). x.role) is ] in
    let (fault, was, same) = err_from_is_err_and c.from_residual-in_err-write_recv.result c.from_residual-in_err-write_recv.ensures.1 in
    let is = was ∙ ap (λ d. Err d) same in
    record {
      moved = rw (is) tt;
      made = record {
        turn = rw (is) (λ live stands fits. record {
          at_low = λ low. absurd (let other : Recv ≡ Low = sym at_recv ∙ low in cc);
          at_high = λ high. absurd (let other : Recv ≡ High = sym at_recv ∙ high in cc);
          high = λ told. inr (one.bytes told live (stands told) (fits told));
          recv = λ told. inr (one.bytes told live (stands told) (fits told), two.bytes told);
        });
        low = one.made;
        high = two.made;
        recv = λ received stands value fits. e.made c.args.from.now received stands value fits;
      };
      device = rw (is) device;
      old_disks = record {
        low = rw (is) (apart_kept m Low f old.low left.low Recv own refl false one.kept);
        high = rw (is) (apart_kept m High f old.high old.high Recv own refl false (kept_still m old.high));
        recv = rw (is) e.kept;
      };
      new_disks = record {
        low = rw (is) (apart_counted m Low f new.low made.low Recv own refl one.counted);
        high = rw (is) (apart_counted m High f new.high made.high Recv own refl two.counted);
        recv = rw (is) e.counted;
      };
    }

pub returns : goal.returns
returns g c =
    let m = g.D.Disk.told in
    let old = c.args.old.now in
    let new = c.args.new.now in
    let one = c.in_ok-write_low.ensures in
    let two = c.in_ok-write_high.ensures in
    let three = c.in_ok-write_recv.ensures in
    record {
      moved = record {
        low = one.stands;
        high = two.stands;
        recv = λ told received stands value fits. three.stands told c.args.from.now received stands value fits;
        bytes = λ told live stands fits value. record { low_is = one.bytes told live stands fits; high_is = two.bytes told; recv_is = three.bytes told value };
        settled = (one.settled, two.settled, three.settled);
      };
      made = record {
        turn = λ live stands fits. record {
          at_low = tt;
          at_high = tt;
          high = λ told. inr (one.bytes told live (stands told) (fits told));
          recv = λ told. inr (one.bytes told live (stands told) (fits told), two.bytes told);
        };
        low = one.made;
        high = two.made;
        recv = λ received stands value fits. three.made c.args.from.now received stands value fits;
      };
      device = tt;
      old_disks = record {
        low = one.kept;
        high = kept_still m old.high;
        recv = three.kept;
      };
      new_disks = record {
        low = one.counted;
        high = two.counted;
        recv = three.counted;
      };
    }
