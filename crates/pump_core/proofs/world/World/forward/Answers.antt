use Rattle.std.proofs.Common.{rules}
use Rattle.pump_core.specs.declared.event.Event.TheVariants.{Forward}
use Rattle.pump_core.specs.View.{world_of}
use Rattle.pump_core.proofs.Laws.{stays_lawful}
use Rattle.pump_core.proofs.world.World.forward.Goals as goal

pub invariant_of-self-2 : goal.invariant_of-self-2
invariant_of-self-2 c = stays_lawful (world_of c.self.inside) Forward _ c.self.invariant (search rules)
