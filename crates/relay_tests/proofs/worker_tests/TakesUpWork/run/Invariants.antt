use Rattle.std.proofs.Common.{◌≡◌}
use Rattle.passage.specs.Ready.{HighReady}
use Rattle.relay_tests.proofs.worker_tests.TakesUpWork.run.Given as goal

abbrev pub invariant-loop : goal.invariant-loop
invariant-loop g l = HighReady (g.H.HighSide.stands l.self.end) l.self.removed 0 × (g.H.HighSide.place l.self.end ≡ g.H.HighSide.place l.fn.self.end)
