use Rattle.passage.proofs.HighSteps.{takes_up}
use Rattle.passage.proofs.high_steps.telling_taken.Goals as goal

pub returns : goal.returns
returns g c = takes_up _ _ g.K.RemovedTold.removed c.args.word c.requires.writes c.requires.idle c.requires.taken c.requires.count c.requires.average
