use Rattle.std.proofs.Common.{rules}
use Rattle.pump_core.specs.declared.event.Event.TheVariants.{RemoveEnd}
use Rattle.pump_core.specs.View.{world_of}
use Rattle.pump_core.proofs.Laws.{stays_lawful}
use Rattle.pump_core.proofs.world.World.remove_end.Goals as goal

pub invariant_of-self : goal.invariant_of-self
invariant_of-self c = stays_lawful (world_of c.self.inside) RemoveEnd _ c.self.invariant (search rules)
