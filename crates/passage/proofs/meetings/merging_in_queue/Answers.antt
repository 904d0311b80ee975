use Rattle.passage.proofs.QueueSteps.{merges}
use Rattle.passage.proofs.meetings.merging_in_queue.Goals as goal

pub returns : goal.returns
returns c = merges _ _ _ _ c.requires.pushes c.requires.pops
