use Rattle.passage.proofs.PlainSteps.{reads}
use Rattle.passage.proofs.plain.PlainEndsLowEnd.average.Goals as goal

pub returns-clause-step : goal.returns-clause-step
returns-clause-step c l h s = reads c.args.self.now l h c.count.result c.average.result s (c.count.ensures.times h.times s.times) (c.average.ensures.average h.times s.times)
