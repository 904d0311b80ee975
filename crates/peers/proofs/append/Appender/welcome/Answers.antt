use Rattle.peers.proofs.Welcoming.{counted, unwritten}
use Rattle.peers.proofs.append.Appender.welcome.Goals as goal

pub returns-then-acknowledge-clause-takes : goal.returns-then-acknowledge-clause-takes
returns-then-acknowledge-clause-takes g c =
    counted c.args.self.now c.acknowledge.new.self c.args.number _ _ c.if-not-self.false c.if-number-self-2.false c.acknowledge.ensures.after (rw c.if-acknowledge.true at c.acknowledge.ensures.printed)

pub returns-else-acknowledge-clause-takes : goal.returns-else-acknowledge-clause-takes
returns-else-acknowledge-clause-takes g c =
    unwritten c.args.self.now c.acknowledge.new.self c.args.number _ _ c.if-not-self.false c.if-number-self-2.false c.acknowledge.ensures.after (rw c.if-acknowledge.false at c.acknowledge.ensures.printed)
