use Rattle.passage.proofs.QueueSteps.{learns}
use Rattle.passage.proofs.meetings.learning_of_queue.Goals as goal

pub returns : goal.returns
returns c = learns _ _ c.requires.pushes c.requires.pops
