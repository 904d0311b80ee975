use Rattle.passage.proofs.QueueSteps.{forks}
use Rattle.passage.proofs.meetings.parting_queue.Goals as goal

pub returns : goal.returns
returns c = forks _ _ c.requires
