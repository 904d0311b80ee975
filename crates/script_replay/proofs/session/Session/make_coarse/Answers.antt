use Rattle.script_replay.proofs.Coarse.{whole_coarse, alone_coarse, coarse_with}
use Rattle.script_replay.proofs.Fresh.{coarse_fresh, alone_fresh}
use Rattle.script_replay.proofs.session.Session.make_coarse.Goals as goal

pub returns-in-Whole-clause-stands : goal.returns-in-Whole-clause-stands
returns-in-Whole-clause-stands g c =
    whole_coarse g.D.Disk.told c.args.self.now c.in-Whole.id c.in-Whole.pump c.make_coarse.new.self c.in-Whole.is c.make_coarse.ensures.row c.make_coarse.ensures.stands c.make_coarse.ensures.up

pub returns-in-Whole-clause-with : goal.returns-in-Whole-clause-with
returns-in-Whole-clause-with g c = coarse_with g.D.Disk.told c.args.self.now c.in-Whole.id c.in-Whole.pump c.make_coarse.new.self c.in-Whole.is c.make_coarse.ensures.disks

pub returns-in-Alone-clause-stands : goal.returns-in-Alone-clause-stands
returns-in-Alone-clause-stands g c =
    alone_coarse g.D.Disk.told c.args.self.now c.in-Alone.id c.in-Alone.pump c.make_coarse-in-Alone.new.self c.in-Alone.is c.make_coarse-in-Alone.ensures.row c.make_coarse-in-Alone.ensures.stands c.make_coarse-in-Alone.ensures.up

pub returns-in-Whole-clause-fresh : goal.returns-in-Whole-clause-fresh
returns-in-Whole-clause-fresh g c = coarse_fresh g.D.Disk.told c.args.self.now c.in-Whole.id c.in-Whole.pump c.make_coarse.new.self c.in-Whole.is c.make_coarse.ensures.row c.make_coarse.ensures.disks

pub returns-in-Alone-clause-fresh : goal.returns-in-Alone-clause-fresh
returns-in-Alone-clause-fresh g c = alone_fresh g.D.Disk.told c.args.self.now c.in-Alone.id c.in-Alone.pump c.make_coarse-in-Alone.new.self c.in-Alone.is
