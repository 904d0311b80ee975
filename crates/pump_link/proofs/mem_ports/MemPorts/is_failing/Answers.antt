use Rattle.std.proofs.Common.{arith}
use Rattle.std.proofs.lemmas.Grind.{common_steps}
use Rattle.pump_link.proofs.mem_ports.MemPorts.is_failing.Goals as goal

pub returns-then-failing-clause-failing : goal.returns-then-failing-clause-failing
returns-then-failing-clause-failing c = grind (arith, common_steps)

pub returns-else-failing-clause-failing : goal.returns-else-failing-clause-failing
returns-else-failing-clause-failing c = grind (arith, common_steps)

pub returns-then-failing-clause-after : goal.returns-then-failing-clause-after
returns-then-failing-clause-after c = grind (arith, common_steps)
