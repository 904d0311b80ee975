use Rattle.std.proofs.Common.{◌≤◌}
use Rattle.adapters.proofs.tcp_link.TcpLink.look_further.Given as goal

abbrev pub invariant-loop : goal.invariant-loop
invariant-loop l = l.fn.self.faults ≤ l.self.faults
