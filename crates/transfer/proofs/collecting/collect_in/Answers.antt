use Rattle.std.proofs.Common.{inr}
use Rattle.transfer.proofs.collecting.collect_in.Goals as goal

pub returns-in-Ok-clause-collects : goal.returns-in-Ok-clause-collects
returns-in-Ok-clause-collects g c =
    let (now, back, over) = c.collect_over.ensures.collects in
    inr (c.in-Ok.collector, now, record { ready = c.in-Ok.ensures.ready; here = c.in-Ok.ensures.here }, back, over)
