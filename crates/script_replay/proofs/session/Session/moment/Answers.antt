use Rattle.script_replay.proofs.Listed.{alone_moment}
use Rattle.script_replay.proofs.session.Session.moment.Goals as goal

pub returns-in-Alone : goal.returns-in-Alone
returns-in-Alone g c = alone_moment g.D.Disk.told c.args.self.now c.in-Alone.id c.in-Alone.pump c.moment-in-Alone.result c.in-Alone.is c.moment-in-Alone.ensures
