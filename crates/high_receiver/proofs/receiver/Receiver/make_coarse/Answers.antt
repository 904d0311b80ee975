use Rattle.high_receiver.proofs.Coarse.{recv_ready}
use Rattle.high_receiver.proofs.receiver.Receiver.make_coarse.Goals as goal

pub returns-clause-ready : goal.returns-clause-ready
returns-clause-ready g c = recv_ready g.D.Disk.told c.args.self.now
