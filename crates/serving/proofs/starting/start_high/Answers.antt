use Rattle.std.proofs.Common.{sym, ◌∙◌, refl, arith}
use Rattle.pump_core.specs.Passage.{new_low, new_high}
use Rattle.high_process.specs.Past.{fresh}
use Rattle.serving.proofs.starting.start_high.Goals as goal

pub returns-clause-begins : goal.returns-clause-begins
returns-clause-begins g c =
    let e = c.open-process.ensures in
    record {
      row_is = e.row;
      stood = e.stands;
      store_is = refl;
      ends_are = refl;
      fits = λ l. (c.requires.ends l, record { count = sym e.published; floor = omega arith });
    }

pub returns-clause-ready : goal.returns-clause-ready
returns-clause-ready g c =
    let e = c.open-process.ensures in
    record {
      between = e.between;
      up = e.up;
      ready = c.requires.ready;
      count = c.requires.count ∙ sym e.removed;
      t = fresh c.args.removed c.args.hand;
      past = e.stands;
      l = new_low;
      h = new_high;
      fitting = (returns-clause-begins g c).fits new_low;
    }
