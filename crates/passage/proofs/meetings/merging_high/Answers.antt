use Rattle.passage.proofs.HighSteps.{merges}
use Rattle.passage.proofs.meetings.merging_high.Goals as goal

pub returns : goal.returns
returns c = merges _ _ _ _ c.requires.writes c.requires.reads
