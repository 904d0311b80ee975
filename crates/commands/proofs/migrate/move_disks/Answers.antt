use Rattle.commands.proofs.MovedDisks.{Says, moved_ok, spared, stops}
use Rattle.commands.proofs.migrate.move_disks.Goals as goal

pub returns-clause-moved : goal.returns-clause-moved
returns-clause-moved g c =
    moved_ok g.D.Disk.told c.args.row.now c.args.new_row.now c.requires.lawful c.requires.new_lawful c.args.old c.args.new c.migrate-moved.result.new
    c.migrate-moved.result.end c.counted.result c.counted.ensures c.migrate-moved.ensures.moved

pub returns-clause-stops : goal.returns-clause-stops
returns-clause-stops g c =
    let e = c.migrate-moved.ensures in
    let m = c.migrate-moved.result in
    let says : Says g.D.Disk.told c.args.row.now c.args.new_row.now c.args.old c.args.new m.old m.new m.end =
    record { refused = e.exact; low = e.old_disks.low; high = e.old_disks.high; recv = e.old_disks.recv; new_low = e.new_disks.low; new_high = e.new_disks.high; new_recv = e.new_disks.recv; unwritten = e.unwritten; turn = λ E B live received stand. (e.made E B live received stand).turn; full = e.full } in
    stops g.D.Disk.told c.args.row.now c.args.new_row.now c.args.old c.args.new m.old m.new m.end says c.counted.result c.counted.ensures

pub returns-clause-spared : goal.returns-clause-spared
returns-clause-spared g c =
    let e = c.migrate-moved.ensures in
    let m = c.migrate-moved.result in
    let says : Says g.D.Disk.told c.args.row.now c.args.new_row.now c.args.old c.args.new m.old m.new m.end =
    record { refused = e.exact; low = e.old_disks.low; high = e.old_disks.high; recv = e.old_disks.recv; new_low = e.new_disks.low; new_high = e.new_disks.high; new_recv = e.new_disks.recv; unwritten = e.unwritten; turn = λ E B live received stand. (e.made E B live received stand).turn; full = e.full } in
    spared g.D.Disk.told c.args.row.now c.args.new_row.now c.args.old c.args.new m.old m.new m.end says
