use Rattle.passage.proofs.LowSteps.{learns}
use Rattle.passage.proofs.meetings.learning_of_low.Goals as goal

pub returns : goal.returns
returns c = learns _ _ c.requires.writes c.requires.reads
