use Rattle.std.proofs.Common.{inr, sym, ◌∙◌, subst}
use Rattle.script_replay.proofs.Shelving.{rose_more}
use Rattle.command_ends.specs.CommandEnds.{IsWrapEnd}
use Rattle.commands.proofs.Caused.{at_shelf, disk_cause}
use Rattle.commands.proofs.Failing.{came_back, untaken_names}
use Rattle.commands.proofs.Formatted.{rises_so}
use Rattle.commands.proofs.Wrapped.{device_rose, leaves, never_unwritten, reads_alone, wrap_disk_only, wrap_only}
use Rattle.commands.proofs.wrap.wrap_disks.Goals as goal

pub returns-clause-wraps : goal.returns-clause-wraps
returns-clause-wraps g c = λ told tells.
    let t = c.in-Ok.ensures in
    let w = c.wrap-wrapped.ensures in
    let d = c.in-Ok.disks in
    inr (
      c.wrap-wrapped.result.end,
      c.end_of_wrap.ensures,
      leaves g.S.Disk.Disk.told tells (g.S.Shelf.told.disk c.args.shelf.now) (g.S.Shelf.told.disk c.take_disks.new.shelf) (g.S.Shelf.told.disk c.put_disks_back.new.shelf) c.args.row.now
          d c.wrap-wrapped.result.disks c.take_disks.ensures.others c.put_disks_back.ensures.others (t.low told) (t.high told) (t.recv told)
          (c.put_disks_back.ensures.back told) (g.I.Source.left c.args.file.now) (g.I.Source.left c.wrap-wrapped.new.file) c.wrap-wrapped.result.end (w.whole tells) (w.ends tells) (w.opened tells) w.refused,
    )

pub returns-clause-cause : goal.returns-clause-cause
returns-clause-cause g c =
    let t = c.in-Ok.ensures in
    let b = c.put_disks_back.ensures in
    let d = c.in-Ok.disks in
    let n = c.wrap-wrapped.result.disks in
    record {
      only = subst IsWrapEnd (sym c.end_of_wrap.ensures) (wrap_only c.wrap-wrapped.result.end);
      device = λ role is.
          let rose = device_rose g.S.Disk.Disk.told d n c.wrap-wrapped.result.end role c.wrap-wrapped.ensures.cause (sym c.end_of_wrap.ensures ∙ is) in (
            rose_more (g.S.Shelf.told.disk_faults c.args.shelf.now) (g.S.Shelf.told.disk_faults c.take_disks.new.shelf) (g.S.Shelf.told.disk_faults c.put_disks_back.new.shelf) c.take_disks.ensures.later
                (rises_so g.S.Disk.Disk.told (g.S.Shelf.told.disk c.take_disks.new.shelf) c.args.row.now.id d n _ _ t.low_out t.high_out t.recv_out b.low_rises b.high_rises b.recv_rises role rose),
            inr (came_back g.S.Shelf.told g.S.Disk.Disk.told c.take_disks.new.shelf c.put_disks_back.new.shelf c.args.row.now.id d n (t.low_out, t.high_out, t.recv_out) b.back role rose),
          );
      read = λ is. c.wrap-wrapped.ensures.read (reads_alone c.wrap-wrapped.result.end (sym c.end_of_wrap.ensures ∙ is));
      unwritten = λ is. never_unwritten c.wrap-wrapped.result.end (sym c.end_of_wrap.ensures ∙ is);
    }

pub returns-in-Err-clause-cause : goal.returns-in-Err-clause-cause
returns-in-Err-clause-cause g c =
    let e = c.in-Err.ensures in
    let u = c.untaken.ensures in
    disk_cause IsWrapEnd _ _ _ c.untaken.result (at_shelf c.in-Err.not_taken.fault c.in-Err.not_taken.role c.untaken.result u.memory u.failed) wrap_disk_only
    (untaken_names g.S.Shelf.told g.S.Disk.Disk.told c.args.shelf.now c.take_disks.new.shelf c.args.row.now.id c.in-Err.not_taken.role c.in-Err.not_taken.fault c.untaken.result u.memory u.failed e.cause e.asked)
