use Rattle.std.proofs.Common.{◌≡◌}
use Rattle.std.specs.Io.KnownBytes.{Keeps}
use Rattle.adapters.proofs.standard.StdSinkSink.write.Given as goal

-- an interrupted write has written nothing
abbrev pub invariant-loop : goal.invariant-loop
invariant-loop g l = Keeps (g.W.Write.contents l.fn.self.inner) (g.W.Write.contents l.self.inner)
    × (l.self.faults ≡ l.fn.self.faults)
