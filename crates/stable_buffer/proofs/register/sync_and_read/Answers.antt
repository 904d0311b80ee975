use Rattle.std.proofs.Common.{arith}
use Rattle.std.proofs.lemmas.Grind.{common_steps}
use Rattle.stable_buffer.proofs.register.sync_and_read.Goals as goal

pub returns-clause-answers : goal.returns-clause-answers
returns-clause-answers g c = grind (arith, common_steps)

pub returns-in_err-read-clause-answers : goal.returns-in_err-read-clause-answers
returns-in_err-read-clause-answers g c = grind (arith, common_steps)

pub returns-clause-moves : goal.returns-clause-moves
returns-clause-moves g c = grind (arith, common_steps)
