use Rattle.std.proofs.Common.{arith}
use Rattle.std.proofs.lemmas.Grind.{common_steps}
use Rattle.pump_core.proofs.Lists.{range-push}
use Rattle.pump_core.proofs.refill.numbers_from.Goals as goal

pub loop-i-preserved : goal.loop-i-preserved
loop-i-preserved c = grind (arith, common_steps, range-push c.args.from c.loop-i.i)
