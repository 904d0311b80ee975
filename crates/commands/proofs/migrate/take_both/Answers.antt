use Rattle.std.proofs.Common.{sym}
use Rattle.commands.proofs.Failing.{second_untaken_names}
use Rattle.commands.proofs.migrate.take_both.Goals as goal

pub returns-in-Err-take_disks-clause-device : goal.returns-in-Err-take_disks-clause-device
returns-in-Err-take_disks-clause-device g c = λ role is.
    let first = c.take_disks.ensures in
    let e = c.in-Err-take_disks.ensures in
    let n = c.in-Err-take_disks.not_taken in
    let u = c.untaken-in-Err-take_disks in
    second_untaken_names g.S.Shelf.told g.S.Disk.Disk.told c.args.shelf.now c.take_disks.new.shelf c.take_disks-2.new.shelf c.put_disks_back.new.shelf c.args.session c.args.new_session n.role n.fault u.result (λ same. c.requires.two (sym same)) first.others first.later c.put_disks_back.ensures.later u.ensures.memory u.ensures.failed e.cause e.asked role is
