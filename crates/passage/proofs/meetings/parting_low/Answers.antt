use Rattle.passage.proofs.LowSteps.{forks}
use Rattle.passage.proofs.meetings.parting_low.Goals as goal

pub returns : goal.returns
returns c = forks _ _
