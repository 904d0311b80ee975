use Rattle.std.proofs.Common.{Some, inr, refl, sym, ap}
use Rattle.script_replay.proofs.Fresh.{opened_fresh, untaken_fresh, unopened_fresh}
use Rattle.script_replay.proofs.Opened.{lends_so, begins_so, unopened_goes, unopened_fails, untaken_fails, returns_all, never_refused, of_beginning, untaken_unprinted, untaken_unrefused}
use Rattle.script_replay.proofs.Shelving.{rose_more}
use Rattle.script_replay.proofs.applying.begin_whole.Goals as goal

pub returns-in-Ok-open-clause-begins : goal.returns-in-Ok-open-clause-begins
returns-in-Ok-open-clause-begins g c = λ told tells.
    let o = c.in-Ok-open.ensures in
    let t = c.in-Ok.ensures in
    begins_so _ _ (g.S.Shelf.told.disk c.args.shelf.now) (g.S.Shelf.told.disk c.take_disks.new.shelf) c.args.row.now _ _ _ c.in-Ok-open.pump c.requires.lawful (t.low told) (t.high told) (t.recv told) (o.opens tells) (o.stands tells) o.row o.up

pub returns-in-Err-open-clause-begins : goal.returns-in-Err-open-clause-begins
returns-in-Err-open-clause-begins g c = λ told tells.
    let t = c.in-Ok.ensures in
    rw c.outcome_at.ensures.is (unopened_goes g.S.Disk.Disk _ (g.S.Shelf.told.disk c.args.shelf.now) (g.S.Shelf.told.disk c.take_disks.new.shelf) (g.S.Shelf.told.disk c.put_disks_back.new.shelf) c.args.row.now _ _ _ c.in-Err-open.failed c.in-Err-open.ensures.back
    c.take_disks.ensures.others c.put_disks_back.ensures.others tells
    (t.low told) (t.high told) (t.recv told) (c.put_disks_back.ensures.back told) _ c.requires.lawful refl)

pub returns-in-Err-open-clause-refused : goal.returns-in-Err-open-clause-refused
returns-in-Err-open-clause-refused g c = never_refused _ _ c.in-Err-open.failed.why c.outcome_at.result c.outcome_at.ensures.is

pub returns-in-Ok-open-clause-fresh : goal.returns-in-Ok-open-clause-fresh
returns-in-Ok-open-clause-fresh g c = λ told tells.
    let o = c.in-Ok-open.ensures in
    let t = c.in-Ok.ensures in
    opened_fresh g.S.Disk.Disk.told tells (g.S.Shelf.told.disk c.args.shelf.now) (g.S.Shelf.told.disk c.take_disks.new.shelf) c.args.row.now _ _ _ c.in-Ok-open.pump o.row (t.low told) (t.high told) (t.recv told) o.low o.high o.recv

pub returns-in-Err-clause-fresh : goal.returns-in-Err-clause-fresh
returns-in-Err-clause-fresh g c = λ told tells.
    untaken_fresh g.S.Disk.Disk g.S.Disk.Disk.told (g.S.Shelf.told.disk c.args.shelf.now) (g.S.Shelf.told.disk c.take_disks.new.shelf) c.args.row.now.id c.untaken.result (c.in-Err.ensures.alike told)

pub returns-in-Err-open-clause-fresh : goal.returns-in-Err-open-clause-fresh
returns-in-Err-open-clause-fresh g c = λ told tells.
    let t = c.in-Ok.ensures in
    rw c.outcome_at.ensures.is (unopened_fresh g.S.Disk.Disk g.S.Disk.Disk.told (g.S.Shelf.told.disk c.args.shelf.now) (g.S.Shelf.told.disk c.put_disks_back.new.shelf) c.args.row.now _ _ _ c.in-Err-open.failed c.in-Err-open.ensures.back
    (t.low told) (t.high told) (t.recv told) (c.put_disks_back.ensures.back told) c.in-Err-open.failed.why refl)

pub returns-in-Ok-open-clause-begun : goal.returns-in-Ok-open-clause-begun
returns-in-Ok-open-clause-begun g c =
    let o = c.in-Ok-open.ensures in
    let t = c.in-Ok.ensures in
    record {
      lends = lends_so _ _ (g.S.Shelf.told.disk c.args.shelf.now) (g.S.Shelf.told.disk c.take_disks.new.shelf) c.args.row.now _ _ _ c.in-Ok-open.pump t.low_out t.high_out t.recv_out c.take_disks.ensures.others o.low o.high o.recv;
      up = o.up;
      id = refl;
      first = refl;
    }

pub returns-in-Err-clause-unbegun : goal.returns-in-Err-clause-unbegun
returns-in-Err-clause-unbegun g c =
    let e = c.in-Err.ensures in
    let fault = c.in-Err.not_taken.fault in
    record {
      back = λ told. (e.spared told).1;
      stops = c.untaken.ensures.line;
      unprinted = untaken_unprinted c.args.row.now.id c.in-Err.not_taken.role fault c.untaken.result c.untaken.ensures.memory c.untaken.ensures.failed;
      memory = λ is. refl;
      refused = λ is. absurd (untaken_unrefused c.args.row.now.id c.in-Err.not_taken.role fault c.untaken.result c.untaken.ensures.memory c.untaken.ensures.failed is);
      device = λ number role is.
          let fails = untaken_fails g.S.Shelf.told g.S.Disk.Disk.told c.args.shelf.now c.take_disks.new.shelf c.args.row.now.id c.in-Err.not_taken.role fault c.untaken.result c.untaken.ensures.memory c.untaken.ensures.failed e.cause e.asked number role is in
          (ap Some (sym fails.0), fails.1);
    }

pub returns-in-Err-open-clause-unbegun : goal.returns-in-Err-open-clause-unbegun
returns-in-Err-open-clause-unbegun g c =
    let t = c.in-Ok.ensures in
    let b = c.put_disks_back.ensures in
    let e = c.in-Err-open.failed in
    record {
      back = λ told. returns_all (g.S.Shelf.told.disk c.args.shelf.now) (g.S.Shelf.told.disk c.take_disks.new.shelf) (g.S.Shelf.told.disk c.put_disks_back.new.shelf) c.args.row.now.id c.take_disks.ensures.others b.others _ _ _ (b.back told);
      stops = c.outcome_at.ensures.line;
      unprinted = of_beginning _ _ e.why c.outcome_at.result c.outcome_at.ensures.is;
      memory = λ is. refl;
      refused = λ is. absurd (never_refused _ _ e.why c.outcome_at.result c.outcome_at.ensures.is is);
      device = λ number role is.
          let fails = unopened_fails g.S.Shelf.told g.S.Disk.Disk.told c.take_disks.new.shelf (g.S.Shelf.told.disk c.put_disks_back.new.shelf) c.args.row.now _ _ _ e c.in-Err-open.ensures.back t.low_out t.high_out t.recv_out b.back _ _ b.low_rises b.high_rises b.recv_rises e.why refl
          number role (rw (← c.outcome_at.ensures.is) is) in (
            ap Some (sym fails.0),
            (rose_more (g.S.Shelf.told.disk_faults c.args.shelf.now) (g.S.Shelf.told.disk_faults c.take_disks.new.shelf) (g.S.Shelf.told.disk_faults c.put_disks_back.new.shelf) c.take_disks.ensures.later fails.1, inr fails.2),
          );
    }
