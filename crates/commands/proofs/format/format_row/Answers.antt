use Rattle.std.proofs.Common.{List, ℕ, subst}
use Rattle.command_ends.specs.Tables.{HasRow}
use Rattle.script_replay.specs.Failing.{FailsAt}
use Rattle.command_ends.specs.CommandEnds.{IsSessionEnd}
use Rattle.command_ends.proofs.TableRows.{table_cause, table_only}
use Rattle.commands.proofs.Caused.{if_disk_cause}
use Rattle.commands.proofs.Failing.{fails_later}
use Rattle.commands.proofs.Formatted.{formats_so}
use Rattle.commands.proofs.format.format_row.Goals as goal

pub returns-clause-cause : goal.returns-clause-cause
returns-clause-cause g c =
    let r = c.in-Ok.ensures in
    if_disk_cause c.format_disks.result _ _ c.format_disks.ensures.only (λ role is.
    subst (λ (n : ℕ). FailsAt g.S.Shelf.told g.S.Disk.Disk.told c.args.shelf.now c.format_disks.new.shelf n role) r.id
    (fails_later g.S.Shelf.told g.S.Disk.Disk.told c.args.shelf.now c.row_in_file.new.shelf c.format_disks.new.shelf c.in-Ok.row.id role c.row_in_file.ensures.disks c.row_in_file.ensures.disk_faults (c.format_disks.ensures.device role is)))

pub returns-in-Err-clause-cause : goal.returns-in-Err-clause-cause
returns-in-Err-clause-cause g c = table_cause IsSessionEnd _ _ _ _ c.in-Err.ensures.only table_only c.in-Err.ensures.read

pub returns-clause-formats : goal.returns-clause-formats
returns-clause-formats g c = λ told tells.
    let r = c.in-Ok.ensures in
    formats_so g.S.Shelf.told.tells g.S.Disk.Disk.told.tells (g.S.Shelf.told.file c.args.shelf.now c.args.table.now) (g.S.Shelf.told.disk c.args.shelf.now) (g.S.Shelf.told.disk c.row_in_file.new.shelf) (g.S.Shelf.told.disk c.format_disks.new.shelf)
    (FailsAt g.S.Shelf.told g.S.Disk.Disk.told c.args.shelf.now c.format_disks.new.shelf) c.args.session c.in-Ok.row c.format_disks.result
    (subst (λ (n : List ℕ). HasRow (g.S.Shelf.told.file c.args.shelf.now n) c.args.session c.in-Ok.row) c.as_str.ensures.value (r.row told)) r.id c.row_in_file.ensures.disks c.format_disks.ensures.formatted c.format_disks.ensures.stops
    (λ role is. subst (λ (n : ℕ). FailsAt g.S.Shelf.told g.S.Disk.Disk.told c.args.shelf.now c.format_disks.new.shelf n role) r.id
    (fails_later g.S.Shelf.told g.S.Disk.Disk.told c.args.shelf.now c.row_in_file.new.shelf c.format_disks.new.shelf c.in-Ok.row.id role c.row_in_file.ensures.disks c.row_in_file.ensures.disk_faults (c.format_disks.ensures.device role is)))
    told tells
