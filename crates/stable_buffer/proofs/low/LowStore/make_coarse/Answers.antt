use Rattle.stable_buffer.proofs.Coarse.{low_ready}
use Rattle.stable_buffer.proofs.low.LowStore.make_coarse.Goals as goal

pub returns-clause-ready : goal.returns-clause-ready
returns-clause-ready g c = low_ready g.D.Disk.told c.args.self.now
