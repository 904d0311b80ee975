use Rattle.std.proofs.Common.{refl, arith}
use Rattle.pump_core.specs.Passage.{new_low, new_high}
use Rattle.relay_tests.proofs.worker_tests.items_pass_through_the_queue.Goals as goal

pub pass_items-requires-clause-low : goal.pass_items-requires-clause-low
pass_items-requires-clause-low g c κs = record { l = new_low; h = new_high; stand = c.ends-low.ensures.low new_high; follows = tt }

pub pass_items-requires-clause-high : goal.pass_items-requires-clause-high
pass_items-requires-clause-high g c κs = record { l = new_low; h = new_high; stand = c.ends-low.ensures.high new_low; above = omega arith; count = refl }
