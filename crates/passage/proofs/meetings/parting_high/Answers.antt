use Rattle.passage.proofs.HighSteps.{forks}
use Rattle.passage.proofs.meetings.parting_high.Goals as goal

pub returns : goal.returns
returns c = forks _ _ c.requires
