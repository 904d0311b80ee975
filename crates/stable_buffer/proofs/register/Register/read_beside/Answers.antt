use Rattle.std.proofs.Common.{arith}
use Rattle.std.proofs.lemmas.Grind.{common_steps}
use Rattle.stable_buffer.proofs.register.Register.read_beside.Goals as goal

pub returns-clause-answers : goal.returns-clause-answers
returns-clause-answers g c = grind (arith, common_steps)

pub returns-clause-ready : goal.returns-clause-ready
returns-clause-ready g c = grind (arith, common_steps)
