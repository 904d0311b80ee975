use Rattle.adapters.proofs.Keeping.{kept_as_is, kept}
use Rattle.adapters.proofs.interruption.read_again.Goals as goal

pub loop-init : goal.loop-init
loop-init g c = kept_as_is _

pub loop-preserved : goal.loop-preserved
loop-preserved g c = kept _ _ _ c.loop.invariant c.in-Err.ensures.bytes
