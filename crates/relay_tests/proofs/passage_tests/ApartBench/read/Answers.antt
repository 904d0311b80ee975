use Rattle.std.proofs.Common.{◌∙◌}
use Rattle.pump_core.specs.Passage.{read_pair}
use Rattle.relay_tests.proofs.passage_tests.ApartBench.read.Goals as goal

pub returns : goal.returns
returns g c =
    let r = c.requires.0 in (
      record {
        l = read_pair r.l _ _;
        h = r.h;
        stand = (c.average.ensures.step r.l r.h r.stand).2;
        follows = r.follows;
      },
      c.requires.1,
      c.average.ensures.place ∙ c.requires.2,
    )
