use Rattle.std.proofs.Common.{arith}
use Rattle.std.proofs.lemmas.Grind.{common_steps}
use Rattle.pump_link.proofs.mem_link.MemLinkLink.look.Goals as goal

pub invariant_of-self : goal.invariant_of-self
invariant_of-self c = grind (arith, common_steps)

pub invariant_of-self-else-matches : goal.invariant_of-self-else-matches
invariant_of-self-else-matches c = grind (arith, common_steps)

pub returns-then-matches-clause-gives : goal.returns-then-matches-clause-gives
returns-then-matches-clause-gives c = grind (arith, common_steps)

pub returns-else-matches-clause-gives : goal.returns-else-matches-clause-gives
returns-else-matches-clause-gives c = grind (arith, common_steps)
