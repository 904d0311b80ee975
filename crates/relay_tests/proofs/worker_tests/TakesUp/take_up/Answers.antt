use Rattle.std.proofs.Common.{le_refl}
use Rattle.pump_core.specs.Passage.{takes}
use Rattle.relay_tests.proofs.worker_tests.TakesUp.take_up.Goals as goal

pub returns-in-Got-clause-ready : goal.returns-in-Got-clause-ready
returns-in-Got-clause-ready g c =
    let r = c.requires in
    record {
      l = r.l;
      h = takes r.h _ _;
      stand = (c.in-Got.ensures.step r.l r.h r.stand).1;
      above = le_refl _;
      count = r.count;
    }
