use Rattle.passage.proofs.HighSteps.{learns}
use Rattle.passage.proofs.meetings.learning_of_high.Goals as goal

pub returns : goal.returns
returns c = learns _ _ c.requires.writes c.requires.reads
