use Rattle.std.proofs.Common.{rules, refl}
use Rattle.passage.proofs.PlainSteps.{passes, refuses}
use Rattle.passage.proofs.plain.PlainEndsLowEnd.forward.Goals as goal

pub returns-in-Ok-clause-step : goal.returns-in-Ok-clause-step
returns-in-Ok-clause-step c l h s f = passes c.args.self.now _ l h refl s c.args.item refl (search rules) f

pub returns-in-Err-clause-step : goal.returns-in-Err-clause-step
returns-in-Err-clause-step c l h s f = refuses c.args.self.now _ l h refl s refl (search rules) (search rules)
