use Rattle.std.proofs.Common.{rules}
use Rattle.pump_core.specs.declared.event.Event.TheVariants.{ReturnTaken}
use Rattle.pump_core.specs.View.{world_of}
use Rattle.pump_core.proofs.Laws.{stays_lawful}
use Rattle.pump_core.proofs.Stepping.{answered_due}
use Rattle.pump_core.proofs.world.World.return_taken.Goals as goal

pub invariant_of-self : goal.invariant_of-self
invariant_of-self c = stays_lawful (world_of c.self.inside) (ReturnTaken c.args.which) _ c.self.invariant (search (rules, answered_due))
