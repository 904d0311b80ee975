use Rattle.passage.proofs.LowSteps.{seeks}
use Rattle.passage.proofs.low_steps.finding_forwarded.Goals as goal

pub returns : goal.returns
returns g c = seeks _ _ g.K.HighTry.taken c.requires.idle c.requires.reads
