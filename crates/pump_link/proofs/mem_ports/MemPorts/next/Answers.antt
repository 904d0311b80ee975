use Rattle.std.proofs.Common.{arith}
use Rattle.std.proofs.lemmas.Grind.{common_steps}
use Rattle.pump_link.proofs.mem_ports.MemPorts.next.Goals as goal

pub invariant_of-self : goal.invariant_of-self
invariant_of-self c = grind (arith, common_steps)

pub returns-then-self-len-clause-after : goal.returns-then-self-len-clause-after
returns-then-self-len-clause-after c = grind (arith, common_steps)

pub returns-then-self-len-clause-link : goal.returns-then-self-len-clause-link
returns-then-self-len-clause-link c = grind (arith, common_steps)

pub returns-else-self-len-clause-after : goal.returns-else-self-len-clause-after
returns-else-self-len-clause-after c = grind (arith, common_steps)
