use Rattle.std.proofs.Common.{arith}
use Rattle.std.proofs.lemmas.Grind.{common_steps}
use Rattle.disk_model.proofs.mem.MemDiskDisk.size.Goals as goal

pub returns-clause-answers : goal.returns-clause-answers
returns-clause-answers c = grind (arith, common_steps)

pub returns-then-is_next_failing-clause-answers : goal.returns-then-is_next_failing-clause-answers
returns-then-is_next_failing-clause-answers c = grind (arith, common_steps)

pub returns-clause-works : goal.returns-clause-works
returns-clause-works c = grind (arith, common_steps)

pub returns-then-is_next_failing-clause-works : goal.returns-then-is_next_failing-clause-works
returns-then-is_next_failing-clause-works c = grind (arith, common_steps)
