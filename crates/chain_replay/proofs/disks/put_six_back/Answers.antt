use Rattle.chain_replay.proofs.Failed.{rise_then, rise_there}
use Rattle.chain_replay.proofs.disks.put_six_back.Goals as goal

pub returns-clause-first_rises : goal.returns-clause-first_rises
returns-clause-first_rises g c =
    rise_then g.S.Disk.Disk.told (g.S.Shelf.told.disk c.args.shelf.now) c.args.one c.args.disks.first (g.S.Shelf.told.disk_faults c.args.shelf.now) (g.S.Shelf.told.disk_faults c.put_trio_back.new.shelf) (g.S.Shelf.told.disk_faults c.put_trio_back-2.new.shelf)
    c.put_trio_back-2.ensures.later c.put_trio_back.ensures.rises

pub returns-clause-second_rises : goal.returns-clause-second_rises
returns-clause-second_rises g c =
    rise_there g.S.Disk.Disk.told (g.S.Shelf.told.disk c.args.shelf.now) (g.S.Shelf.told.disk c.put_trio_back.new.shelf) c.args.one c.args.two c.requires.apart c.args.disks.second (g.S.Shelf.told.disk_faults c.args.shelf.now) (g.S.Shelf.told.disk_faults c.put_trio_back.new.shelf)
    (g.S.Shelf.told.disk_faults c.put_trio_back-2.new.shelf) c.put_trio_back.ensures.others c.put_trio_back.ensures.later c.put_trio_back-2.ensures.rises
