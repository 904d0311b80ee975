use Rattle.pump_chain.specs.Opening.{disk_in}
use Rattle.script_replay.specs.Lending.{RisesAt}
use Rattle.chain_replay.proofs.Taking.{by_role}
use Rattle.chain_replay.proofs.disks.put_trio_back.Goals as goal

pub returns-clause-rises : goal.returns-clause-rises
returns-clause-rises g c =
    let p = c.put_disks_back.ensures in
    by_role (λ role. RisesAt (g.S.Shelf.told.disk c.args.shelf.now) c.args.session role (g.S.Disk.Disk.told.count (disk_in role c.args.disks)) (g.S.Shelf.told.disk_faults c.args.shelf.now) (g.S.Shelf.told.disk_faults c.put_disks_back.new.shelf)) p.low_rises p.high_rises p.recv_rises
