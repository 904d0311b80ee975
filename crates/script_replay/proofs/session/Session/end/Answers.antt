use Rattle.script_replay.proofs.Finished.{alone_ends}
use Rattle.script_replay.proofs.session.Session.end.Goals as goal

pub returns-in-Alone : goal.returns-in-Alone
returns-in-Alone g c = alone_ends _ c.args.self.now c.in-Alone.id c.in-Alone.pump c.next.result c.in-Alone.is c.next.ensures
