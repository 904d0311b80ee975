use Rattle.std.proofs.Common.{refl}
use Rattle.passage.proofs.PlainSteps.{published}
use Rattle.passage.proofs.plain.PlainEndsHighEnd.publish.Goals as goal

pub returns-clause-step : goal.returns-clause-step
returns-clause-step c l h s = published c.args.self.now _ l h c.args.micros s refl refl c.push.ensures.averaging (c.push.ensures.times h.times s.times)
