use Rattle.std.proofs.Common.{[], ◌∷◌, ◌∙◌, sym, arith}
use Rattle.std.proofs.lemmas.List.{length-append}
use Rattle.pump_core.specs.Passage.{publishes}
use Rattle.relay_tests.proofs.passage_tests.ApartBench.publish.Goals as goal

pub returns-then-may_publish : goal.returns-then-may_publish
returns-then-may_publish g c =
    let r = c.requires.1 in (
      c.requires.0,
      record {
        l = r.l;
        h = publishes r.h c.args.micros;
        stand = c.publish.ensures.step r.l r.h r.stand;
        above = r.above;
        count = omega (arith, r.count, length-append r.h.times (c.args.micros ∷ []));
      },
      c.requires.2 ∙ sym c.publish.ensures.place,
    )
