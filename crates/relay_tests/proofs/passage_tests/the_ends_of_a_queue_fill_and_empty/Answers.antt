use Rattle.std.proofs.Common.{sym, ap, arith}
use Rattle.pump_core.specs.Passage.{new_low, new_high}
use Rattle.relay_tests.proofs.passage_tests.the_ends_of_a_queue_fill_and_empty.Goals as goal

pub make-requires : goal.make-requires
make-requires g c = (
  record { l = new_low; h = new_high; stand = c.ends-low.ensures.low new_high; follows = tt },
  record { l = new_low; h = new_high; stand = c.ends-low.ensures.high new_low; above = omega arith; count = sym (ap (λ n. n.published) c.new-3.ensures) },
  c.ends-low.ensures.place,
)
