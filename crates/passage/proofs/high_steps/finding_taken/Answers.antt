use Rattle.passage.proofs.HighSteps.{tries}
use Rattle.passage.proofs.high_steps.finding_taken.Goals as goal

pub returns : goal.returns
returns g c = tries _ _ g.K.LowTry.forwarded c.requires.idle c.requires.reads
