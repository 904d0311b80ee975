use Rattle.std.proofs.Common.{le_refl, ◌∙◌, sym}
use Rattle.pump_core.specs.Passage.{takes}
use Rattle.relay_tests.proofs.passage_tests.ApartBench.ask.Goals as goal

pub returns-in-Got : goal.returns-in-Got
returns-in-Got g c =
    let r = c.requires.1 in (
      c.requires.0,
      record {
        l = r.l;
        h = takes r.h _ _;
        stand = (c.in-Got.ensures.step r.l r.h r.stand).1;
        above = le_refl _;
        count = r.count;
      },
      c.requires.2 ∙ sym c.next.ensures.place,
    )
