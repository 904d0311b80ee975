use Rattle.std.proofs.Common.{arith}
use Rattle.std.proofs.lemmas.Grind.{common_steps}
use Rattle.disk_model.proofs.crash.crash_into.Goals as goal

pub loop-i-preserved-in-Write : goal.loop-i-preserved-in-Write
loop-i-preserved-in-Write c = grind (arith, common_steps)

pub loop-i-preserved-in-Missed : goal.loop-i-preserved-in-Missed
loop-i-preserved-in-Missed c = grind (arith, common_steps)

pub loop-i-preserved : goal.loop-i-preserved
loop-i-preserved c = grind (arith, common_steps)
