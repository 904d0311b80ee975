use Rattle.passage.proofs.LowSteps.{merges}
use Rattle.passage.proofs.meetings.merging_low.Goals as goal

pub returns : goal.returns
returns c = merges _ _ _ _
