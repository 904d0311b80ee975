use Rattle.std.proofs.Common.{arith}
use Rattle.std.proofs.lemmas.Grind.{common_steps}
use Rattle.pump_link.proofs.mem_link.MemLink.put.Goals as goal

pub invariant_of-self : goal.invariant_of-self
invariant_of-self c = grind (arith, common_steps)

pub returns-clause-sent : goal.returns-clause-sent
returns-clause-sent c = grind (arith, common_steps)

pub returns-clause-all : goal.returns-clause-all
returns-clause-all c = grind (arith, common_steps)
