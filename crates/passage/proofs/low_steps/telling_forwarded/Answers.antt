use Rattle.passage.proofs.LowSteps.{forwards}
use Rattle.passage.proofs.low_steps.telling_forwarded.Goals as goal

pub returns : goal.returns
returns c = forwards _ _ c.args.word c.requires.writes c.requires.idle c.requires.word
