use Rattle.std.proofs.Common.{rules, refl}
use Rattle.passage.proofs.QueueSteps as queue
use Rattle.passage.proofs.HighSteps as high
use Rattle.passage.proofs.LowSteps as low
use Rattle.passage.proofs.queue_passage.QueuePassage.new.Goals as goal

pub ruled-requires-clause-rule : goal.ruled-requires-clause-rule
ruled-requires-clause-rule c = queue.begins

pub ruled-requires-2 : goal.ruled-requires-2
ruled-requires-2 c = (search rules, (search rules, low.begins _ refl))

pub ruled-requires-3 : goal.ruled-requires-3
ruled-requires-3 c = (search rules, (search rules, high.begins _ refl refl refl))
