use Rattle.std.proofs.Common.{rules}
use Rattle.pump_core.specs.declared.event.Event.TheVariants.{CarryData}
use Rattle.pump_core.specs.View.{world_of}
use Rattle.pump_core.proofs.Laws.{stays_lawful}
use Rattle.pump_core.proofs.Stepping.{carried_here}
use Rattle.pump_core.proofs.world.World.carry.Goals as goal

pub invariant_of-self : goal.invariant_of-self
invariant_of-self c = stays_lawful (world_of c.self.inside) (CarryData c.args.which) _ c.self.invariant (search rules)

pub invariant_of-self-else-packet-taken-2 : goal.invariant_of-self-else-packet-taken-2
invariant_of-self-else-packet-taken-2 c =
    stays_lawful (world_of c.self.inside) (CarryData c.args.which) _ c.self.invariant (search (rules, carried_here))

pub returns-in_ok-push-clause-did : goal.returns-in_ok-push-clause-did
returns-in_ok-push-clause-did c = search rules

pub returns-else-packet-taken-2-clause-did : goal.returns-else-packet-taken-2-clause-did
returns-else-packet-taken-2-clause-did c = search (rules, carried_here)

pub returns-then-is_some-clause-did : goal.returns-then-is_some-clause-did
returns-then-is_some-clause-did c = search rules

pub returns-in_default-clause-did : goal.returns-in_default-clause-did
returns-in_default-clause-did c = search rules

pub invariant_of-self-in_err-push : goal.invariant_of-self-in_err-push
invariant_of-self-in_err-push c = search rules
