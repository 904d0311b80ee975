use Rattle.std.proofs.Common.{◌≡◌}
use Rattle.passage.specs.Ready.{LowReady}
use Rattle.relay_tests.proofs.worker_tests.ForwardsWork.run.Given as goal

abbrev pub invariant-loop : goal.invariant-loop
invariant-loop g l = LowReady (g.L.LowSide.stands l.self.end) l.self.next × (g.L.LowSide.place l.self.end ≡ g.L.LowSide.place l.fn.self.end)
