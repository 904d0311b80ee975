use Rattle.passage.proofs.HighSteps.{reads}
use Rattle.passage.proofs.high_steps.finding_pair.Goals as goal

pub returns : goal.returns
returns c = reads _ _ c.requires.idle c.requires.reads
