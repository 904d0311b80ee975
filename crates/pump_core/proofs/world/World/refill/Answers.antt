use Rattle.std.proofs.Common.{arith}
use Rattle.std.proofs.lemmas.Grind.{common_steps}
use Rattle.pump_core.proofs.world.World.refill.Goals as goal

pub overflow_add-removed : goal.overflow_add-removed
overflow_add-removed c = grind (arith, common_steps)

pub overflow_cast-live : goal.overflow_cast-live
overflow_cast-live c = grind (arith, common_steps)

pub overflow_sub-live : goal.overflow_sub-live
overflow_sub-live c = grind (arith, common_steps)

pub numbers_from-requires : goal.numbers_from-requires
numbers_from-requires c = grind (arith, common_steps)

pub counted-removed-requires : goal.counted-removed-requires
counted-removed-requires c = grind (arith, common_steps)

pub returns : goal.returns
returns c = grind (arith, common_steps)
