use Rattle.std.proofs.Common.{arith}
use Rattle.std.proofs.lemmas.Grind.{common_steps}
use Rattle.disk_model.proofs.mem.MemDiskDisk.read.Goals as goal

pub returns-then-fails-clause-fails : goal.returns-then-fails-clause-fails
returns-then-fails-clause-fails c = grind (arith, common_steps)

pub returns-then-fails-clause-works : goal.returns-then-fails-clause-works
returns-then-fails-clause-works c = grind (arith, common_steps)

pub returns-then-fails-clause-answers : goal.returns-then-fails-clause-answers
returns-then-fails-clause-answers c = grind (arith, common_steps)

pub returns-clause-bytes : goal.returns-clause-bytes
returns-clause-bytes c = grind (arith, common_steps)

pub returns-clause-within : goal.returns-clause-within
returns-clause-within c = grind (arith, common_steps)
