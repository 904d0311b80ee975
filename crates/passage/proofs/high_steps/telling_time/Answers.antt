use Rattle.passage.proofs.HighSteps.{publishes}
use Rattle.passage.proofs.high_steps.telling_time.Goals as goal

pub returns : goal.returns
returns g c = publishes _ _ g.K.TimeTold.micros c.args.word c.requires.writes c.requires.idle c.requires.taken c.requires.count c.requires.average
