use Rattle.std.proofs.Common.{List, ℕ, subst}
use Rattle.command_ends.specs.Tables.{HasRow}
use Rattle.script_replay.specs.Failing.{FailsAt}
use Rattle.command_ends.specs.CommandEnds.{IsSessionEnd}
use Rattle.command_ends.proofs.TableRows.{table_cause, table_only}
use Rattle.commands.proofs.Caused.{if_disk_cause}
use Rattle.commands.proofs.Failing.{fails_later}
use Rattle.commands.proofs.Shown.{shows_so}
use Rattle.commands.proofs.show.show_row.Goals as goal

pub returns-clause-cause : goal.returns-clause-cause
returns-clause-cause g c =
    let r = c.in-Ok.ensures in
    if_disk_cause c.show_disks.result _ _ c.show_disks.ensures.only (λ role is.
    subst (λ (n : ℕ). FailsAt g.S.Shelf.told g.S.Disk.Disk.told c.args.shelf.now c.show_disks.new.shelf n role) r.id
    (fails_later g.S.Shelf.told g.S.Disk.Disk.told c.args.shelf.now c.row_in_file.new.shelf c.show_disks.new.shelf c.in-Ok.row.id role r.disks c.row_in_file.ensures.disk_faults (c.show_disks.ensures.device role is)))

pub returns-in-Err-clause-cause : goal.returns-in-Err-clause-cause
returns-in-Err-clause-cause g c = table_cause IsSessionEnd _ _ _ _ c.in-Err.ensures.only table_only c.in-Err.ensures.read

pub returns-clause-shows : goal.returns-clause-shows
returns-clause-shows g c = λ told tells.
    let r = c.in-Ok.ensures in
    shows_so g.S.Shelf.told.tells g.S.Disk.Disk.told.tells (λ text. text.items) (g.S.Shelf.told.file c.args.shelf.now c.args.table.now) (g.S.Shelf.told.disk c.args.shelf.now) (g.S.Shelf.told.disk c.row_in_file.new.shelf) (g.S.Shelf.told.disk c.show_disks.new.shelf)
    (FailsAt g.S.Shelf.told g.S.Disk.Disk.told c.args.shelf.now c.show_disks.new.shelf) c.args.session c.in-Ok.row c.show_disks.result
    (subst (λ (n : List ℕ). HasRow (g.S.Shelf.told.file c.args.shelf.now n) c.args.session c.in-Ok.row) c.as_str.ensures.value (r.row told)) r.id r.disks c.show_disks.ensures.shown c.show_disks.ensures.stops
    (λ role is. subst (λ (n : ℕ). FailsAt g.S.Shelf.told g.S.Disk.Disk.told c.args.shelf.now c.show_disks.new.shelf n role) r.id
    (fails_later g.S.Shelf.told g.S.Disk.Disk.told c.args.shelf.now c.row_in_file.new.shelf c.show_disks.new.shelf c.in-Ok.row.id role r.disks c.row_in_file.ensures.disk_faults (c.show_disks.ensures.device role is)))
    told tells
