use Rattle.std.specs.Io.KnownBytes.{Keeps}
use Rattle.adapters.proofs.interruption.read_again.Given as goal

-- an interrupted read has taken nothing
abbrev pub invariant-loop : goal.invariant-loop
invariant-loop g l = Keeps (g.R.Read.remaining l.fn.reader) (g.R.Read.remaining l.reader)
