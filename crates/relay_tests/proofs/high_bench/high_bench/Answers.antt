use Rattle.std.proofs.Common.{sym, ◌∙◌, arith}
use Rattle.pump_core.specs.Passage.{new_low, new_high, forwards}
use Rattle.high_process.specs.Past.{fresh}
use Rattle.relay_tests.proofs.high_bench.high_bench.Goals as goal

pub returns-in-Passed-clause-ready : goal.returns-in-Passed-clause-ready
returns-in-Passed-clause-ready g c = record {
  between = c.open.ensures.between;
  up = c.open.ensures.up;
  ready = c.in-Some.ensures.ready;
  count = c.in-Some.ensures.count ∙ sym c.open.ensures.removed;
  t = fresh c.args.count c.item-in-Passed.result;
  past = c.open.ensures.stands;
  l = forwards new_low c.in-Some-Some.next;
  h = new_high;
  fitting = (
    (c.in-Passed.ensures.step new_low new_high c.in_ok-ends.ensures.empty tt).1,
    record { count = sym c.open.ensures.published; floor = omega arith },
  );
}
