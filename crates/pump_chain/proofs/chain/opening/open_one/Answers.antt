use Rattle.pump_chain.proofs.Ending.{unopened_if, left_if}
use Rattle.pump_chain.proofs.chain.opening.open_one.Goals as goal

pub returns-clause-left : goal.returns-clause-left
returns-clause-left g c =
    let o = c.open.ensures in
    left_if g.D.Disk.told c.args.row.now c.args.disks c.open.result o.low o.high o.recv

pub returns-clause-back : goal.returns-clause-back
returns-clause-back g c = unopened_if g.D.Disk.told c.args.row.now c.args.disks c.open.result c.open.ensures.back
