use Rattle.std.proofs.Common.{◌∙◌, sym, subst}
use Rattle.pump_core.specs.Passage.{ComesNext, forwards}
use Rattle.pump_core.proofs.PassageSteps.{comes_after}
use Rattle.relay_tests.proofs.passage_tests.ApartBench.offer.Goals as goal

pub returns-in-Passed : goal.returns-in-Passed
returns-in-Passed g c =
    let r = c.requires.0 in (
      record {
        l = forwards r.l c.in-Some.item;
        h = r.h;
        stand = (c.in-Passed.ensures.step r.l r.h r.stand (subst (ComesNext r.l.forwarded) (sym c.in-Some.ensures.0) r.follows)).1;
        follows = comes_after r.l.forwarded c.in-Some.item _ c.in-Some.ensures.0;
      },
      c.requires.1,
      c.forward.ensures.place ∙ c.requires.2,
    )
