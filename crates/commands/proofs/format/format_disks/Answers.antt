use Rattle.std.proofs.Common.{◌≡◌, inr}
use Rattle.command_ends.specs.declared.command_end.CommandEnd.TheVariants.{Failed}
use Rattle.commands.proofs.Failing.{came_back, untaken_names}
use Rattle.commands.proofs.Formatted.{on_ok, if_err, formatted_so, stops_so, rises_so, failed_at, disk_end}
use Rattle.script_replay.proofs.Shelving.{rose_more}
use Rattle.commands.proofs.format.format_disks.Goals as goal

pub returns-clause-formatted : goal.returns-clause-formatted
returns-clause-formatted g c =
    let t = c.in-Ok.ensures in
    on_ok c.format_taken-formatted.result c.format_taken-formatted.ensures.empty c.format_taken-formatted.ensures.new (λ none made told tells.
    formatted_so g.S.Disk.Disk.told tells (g.S.Shelf.told.disk c.args.shelf.now) (g.S.Shelf.told.disk c.take_disks.new.shelf) (g.S.Shelf.told.disk c.put_disks_back.new.shelf) c.args.row.now
    c.in-Ok.disks c.format_taken-formatted.new.disks c.take_disks.ensures.others c.put_disks_back.ensures.others (t.low told) (t.high told) (t.recv told) (c.put_disks_back.ensures.back told) c.requires.lawful none made)

pub returns-clause-stops : goal.returns-clause-stops
returns-clause-stops g c =
    let t = c.in-Ok.ensures in
    if_err c.format_taken-formatted.result _ _ c.format_taken-formatted.ensures.stops (λ end stops told tells.
    stops_so g.S.Disk.Disk.told tells (g.S.Shelf.told.disk c.args.shelf.now) (g.S.Shelf.told.disk c.take_disks.new.shelf) (g.S.Shelf.told.disk c.put_disks_back.new.shelf) c.args.row.now
    c.in-Ok.disks c.format_taken-formatted.new.disks c.take_disks.ensures.others c.put_disks_back.ensures.others (t.low told) (t.high told) (t.recv told) (c.put_disks_back.ensures.back told) end stops)

pub returns-clause-device : goal.returns-clause-device
returns-clause-device g c = λ role is.
    let t = c.in-Ok.ensures in
    let b = c.put_disks_back.ensures in
    let rose = failed_at g.S.Disk.Disk.told c.in-Ok.disks c.format_taken-formatted.new.disks c.format_taken-formatted.result role c.format_taken-formatted.ensures.stops is in (
      rose_more (g.S.Shelf.told.disk_faults c.args.shelf.now) (g.S.Shelf.told.disk_faults c.take_disks.new.shelf) (g.S.Shelf.told.disk_faults c.put_disks_back.new.shelf) c.take_disks.ensures.later
          (rises_so g.S.Disk.Disk.told (g.S.Shelf.told.disk c.take_disks.new.shelf) c.args.row.now.id c.in-Ok.disks c.format_taken-formatted.new.disks _ _ t.low_out t.high_out t.recv_out b.low_rises b.high_rises b.recv_rises role rose),
      inr (came_back g.S.Shelf.told g.S.Disk.Disk.told c.take_disks.new.shelf c.put_disks_back.new.shelf c.args.row.now.id c.in-Ok.disks c.format_taken-formatted.new.disks (t.low_out, t.high_out, t.recv_out) b.back role rose),
    )

pub returns-in-Err-clause-device : goal.returns-in-Err-clause-device
returns-in-Err-clause-device g c = λ role is.
    let e = c.in-Err.ensures in
    let end : c.untaken.result ≡ Failed role = cc in
    untaken_names g.S.Shelf.told g.S.Disk.Disk.told c.args.shelf.now c.take_disks.new.shelf c.args.row.now.id c.in-Err.not_taken.role c.in-Err.not_taken.fault c.untaken.result c.untaken.ensures.memory c.untaken.ensures.failed e.cause e.asked role end

pub returns-clause-only : goal.returns-clause-only
returns-clause-only g c = if_err c.format_taken-formatted.result _ _ c.format_taken-formatted.ensures.stops (λ end stops. disk_end g.S.Disk.Disk.told c.in-Ok.disks c.format_taken-formatted.new.disks end stops)
