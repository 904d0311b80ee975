use Rattle.pump_chain.specs.Opening.{disk_in}
use Rattle.script_replay.specs.Lending.{IsOutAt}
use Rattle.chain_replay.proofs.Taking.{by_role, untaken_named, untaken_rose}
use Rattle.chain_replay.proofs.disks.take_trio.Goals as goal

pub returns-in-Ok-clause-out : goal.returns-in-Ok-clause-out
returns-in-Ok-clause-out g c =
    let t = c.in-Ok.ensures in
    by_role (λ role. IsOutAt (g.S.Shelf.told.disk c.take_disks.new.shelf) c.args.session role (g.S.Disk.Disk.told.count (disk_in role c.in-Ok.disks))) t.low_out t.high_out t.recv_out

pub returns-in-Err-clause-of : goal.returns-in-Err-clause-of
returns-in-Err-clause-of g c =
    untaken_named g.S.Shelf.told (g.S.Shelf.told.disk c.args.shelf.now) c.args.session c.untaken_fault.result c.in-Err.not_taken.fault c.in-Err.not_taken.role c.in-Err.ensures.asked c.untaken_fault.ensures.memory c.untaken_fault.ensures.failed

pub returns-in-Err-clause-cause : goal.returns-in-Err-clause-cause
returns-in-Err-clause-cause g c =
    untaken_rose (g.S.Shelf.told.disk_faults c.args.shelf.now) (g.S.Shelf.told.disk_faults c.take_disks.new.shelf) c.untaken_fault.result c.in-Err.not_taken.fault c.untaken_fault.ensures.memory c.in-Err.ensures.cause
