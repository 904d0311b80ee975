use Rattle.std.proofs.Common.{sym, subst}
use Rattle.pump_wrapper.specs.WrapEnds.{EndsEarly}
use Rattle.pump_wrapper.specs.declared.file_sender.WrapEnd.{WrapEnd}
use Rattle.two_worlds.specs.Pumps.{disk_at}
use Rattle.pump_wrapper.proofs.Unopened.{unopened, counts_opened}
use Rattle.pump_wrapper.proofs.file_sender.open.Goals as goal

pub returns-in-Ok-clause-counts : goal.returns-in-Ok-clause-counts
returns-in-Ok-clause-counts g c = (let e = c.in-Ok.ensures in counts_opened g.D.Disk.told c.args.row.now c.args.disks (λ role. disk_at role c.in-Ok.pump) e.low e.high e.recv)

pub returns-in-Ok-clause-recv : goal.returns-in-Ok-clause-recv
returns-in-Ok-clause-recv g c = c.in-Ok.ensures.recv.left

pub returns-in-Err-clause-not : goal.returns-in-Err-clause-not
returns-in-Err-clause-not g c =
    let e = c.in-Err.ensures in
    let failed = c.in-Err.failed in
    subst (λ (end : WrapEnd). EndsEarly g.D.Disk.told c.args.row.now c.args.disks end (record { low = failed.low; high = failed.high; recv = failed.recv })) (sym c.not_opened.ensures)
    (unopened g.D.Disk.told c.args.row.now c.args.disks failed.role failed.low failed.high failed.recv failed.why e.back e.stops)
