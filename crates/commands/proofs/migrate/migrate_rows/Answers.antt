use Rattle.std.proofs.Common.{◌∙◌, Err, ap, subst}
use Rattle.command_ends.specs.Tables.{IsTableEnd}
use Rattle.command_ends.proofs.TableRows.{table_only}
use Rattle.commands.proofs.Caused.{if_halt_cause}
use Rattle.script_replay.specs.Failing.{FailsAt}
use Rattle.commands.proofs.Failing.{fails_later}
use Rattle.commands.proofs.Formatted.{if_err}
use Rattle.commands.proofs.Migrated.{migrates_so, rowless_so}
use Rattle.commands.proofs.migrate.migrate_rows.Goals as goal

pub returns-in-Ok-clause-migrates : goal.returns-in-Ok-clause-migrates
returns-in-Ok-clause-migrates g c = λ told tells.
    let r = c.in-Ok.ensures in
    migrates_so g.S.Shelf.told.tells g.S.Disk.Disk.told.tells _ _ (g.S.Shelf.told.disk c.args.shelf.now) (g.S.Shelf.told.disk c.rows_in_files.new.shelf) (g.S.Shelf.told.disk c.migrate_disks.new.shelf)
    (FailsAt g.S.Shelf.told g.S.Disk.Disk.told c.args.shelf.now c.migrate_disks.new.shelf) c.args.session c.args.new_session c.in-Ok.rows.row c.in-Ok.rows.new_row c.migrate_disks.result (r.rows told) c.rows_in_files.ensures.disks c.migrate_disks.ensures.moved c.migrate_disks.ensures.stops
    (if_err c.migrate_disks.result _ _ c.migrate_disks.ensures.device (λ halt names role is.
    fails_later g.S.Shelf.told g.S.Disk.Disk.told c.args.shelf.now c.rows_in_files.new.shelf c.migrate_disks.new.shelf halt.session role c.rows_in_files.ensures.disks c.rows_in_files.ensures.disk_faults (names role is))) told tells

pub returns-in-Err-clause-migrates : goal.returns-in-Err-clause-migrates
returns-in-Err-clause-migrates g c = λ told tells.
    rowless_so _ _ (g.S.Shelf.told.disk c.args.shelf.now) (g.S.Shelf.told.disk c.rows_in_files.new.shelf) (FailsAt g.S.Shelf.told g.S.Disk.Disk.told c.args.shelf.now c.rows_in_files.new.shelf) c.args.session c.args.new_session c.in-Err.end c.in-Err.ensures.only
    (λ why is. c.rows_in_files.ensures.none why (c.in-Err.is ∙ ap Err is) told) c.rows_in_files.ensures.disks

pub returns-in-Ok-clause-cause : goal.returns-in-Ok-clause-cause
returns-in-Ok-clause-cause g c =
    if_halt_cause c.migrate_disks.result (FailsAt g.S.Shelf.told g.S.Disk.Disk.told c.args.shelf.now c.migrate_disks.new.shelf) _ c.migrate_disks.ensures.only
    (if_err c.migrate_disks.result _ _ c.migrate_disks.ensures.device (λ halt names role is.
    fails_later g.S.Shelf.told g.S.Disk.Disk.told c.args.shelf.now c.rows_in_files.new.shelf c.migrate_disks.new.shelf halt.session role c.rows_in_files.ensures.disks c.rows_in_files.ensures.disk_faults (names role is)))

pub returns-in-Err-clause-cause : goal.returns-in-Err-clause-cause
returns-in-Err-clause-cause g c = record {
  only = table_only c.in-Err.end c.in-Err.ensures.only;
  device = λ role is. absurd (subst IsTableEnd is c.in-Err.ensures.only);
  read = λ is. c.rows_in_files.ensures.read (c.in-Err.is ∙ ap Err is);
  unwritten = λ is. absurd (subst IsTableEnd is c.in-Err.ensures.only);
}
