use Rattle.std.proofs.Common.{ap, ◌∙◌}
use Rattle.passage.proofs.QueueSteps.{gets}
use Rattle.passage.proofs.queue.pop.Goals as goal

pub try_pop_as-requires-clause-rule : goal.try_pop_as-requires-clause-rule
try_pop_as-requires-clause-rule g c = gets _ _ (ap (λ v. v.pops) c.loop.invariant.2 ∙ c.requires.role)
