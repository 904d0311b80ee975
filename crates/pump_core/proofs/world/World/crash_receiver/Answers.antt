use Rattle.std.proofs.Common.{arith, rules, Some, None}
use Rattle.std.proofs.lemmas.Grind.{common_steps}
use Rattle.pump_core.specs.declared.event.Event.TheVariants.{Crash}
use Rattle.pump_core.specs.View.{world_of}
use Rattle.pump_core.proofs.Laws.{stays_lawful}
use Rattle.pump_core.proofs.world.World.crash_receiver.Goals as goal

pub invariant_of-self-2 : goal.invariant_of-self-2
invariant_of-self-2 c = stays_lawful (world_of c.self.inside) (Crash None (Some c.args.kept)) _ c.self.invariant (search rules)

pub invariant_of-self : goal.invariant_of-self
invariant_of-self c = grind (arith, common_steps)

pub invariant_of-self-in_err-reserve-2 : goal.invariant_of-self-in_err-reserve-2
invariant_of-self-in_err-reserve-2 c = grind (arith, common_steps)

pub returns-clause-did : goal.returns-clause-did
returns-clause-did c = grind (arith, common_steps)
