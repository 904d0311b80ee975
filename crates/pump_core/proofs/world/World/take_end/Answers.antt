use Rattle.std.proofs.Common.{arith, rules}
use Rattle.std.proofs.lemmas.Grind.{common_steps}
use Rattle.pump_core.specs.declared.event.Event.TheVariants.{TakeEnd}
use Rattle.pump_core.specs.View.{world_of}
use Rattle.pump_core.proofs.Laws.{stays_lawful}
use Rattle.pump_core.proofs.world.World.take_end.Goals as goal

pub invariant_of-self-2 : goal.invariant_of-self-2
invariant_of-self-2 c = stays_lawful (world_of c.self.inside) TakeEnd _ c.self.invariant (search rules)

pub invariant_of-self : goal.invariant_of-self
invariant_of-self c = grind (arith, common_steps)

pub invariant_of-self-in_err-push : goal.invariant_of-self-in_err-push
invariant_of-self-in_err-push c = grind (arith, common_steps)

pub returns-clause-did : goal.returns-clause-did
returns-clause-did c = grind (arith, common_steps)

pub returns-then-not-self-clause-did : goal.returns-then-not-self-clause-did
returns-then-not-self-clause-did c = grind (arith, common_steps)

pub returns-in_default-clause-did : goal.returns-in_default-clause-did
returns-in_default-clause-did c = grind (arith, common_steps)
