use Rattle.std.proofs.Common.{arith, rules}
use Rattle.std.proofs.lemmas.Grind.{common_steps}
use Rattle.pump_core.specs.declared.event.Event.TheVariants.{Send}
use Rattle.pump_core.specs.View.{world_of}
use Rattle.pump_core.proofs.Laws.{stays_lawful}
use Rattle.pump_core.proofs.world.World.send.Goals as goal

pub invariant_of-self-2 : goal.invariant_of-self-2
invariant_of-self-2 c = stays_lawful (world_of c.self.inside) Send _ c.self.invariant (search rules)

pub returns-in_default-at-clause-did : goal.returns-in_default-at-clause-did
returns-in_default-at-clause-did c = grind (arith, common_steps)

pub returns-then-self-clause-did : goal.returns-then-self-clause-did
returns-then-self-clause-did c = grind (arith, common_steps)

pub invariant_of-self : goal.invariant_of-self
invariant_of-self c = grind (arith, common_steps)
