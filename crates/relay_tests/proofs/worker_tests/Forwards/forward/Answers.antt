use Rattle.std.proofs.Common.{refl}
use Rattle.pump_core.specs.Passage.{forwards}
use Rattle.pump_core.proofs.PassageSteps.{comes_after}
use Rattle.relay_tests.proofs.worker_tests.Forwards.forward.Goals as goal

pub returns-in-Passed-clause-ready : goal.returns-in-Passed-clause-ready
returns-in-Passed-clause-ready g c =
    let r = c.requires in
    record {
      l = forwards r.l _;
      h = r.h;
      stand = (c.in-Passed.ensures.step r.l r.h r.stand r.follows).1;
      follows = comes_after r.l.forwarded _ c.args.self.now.next refl;
    }
