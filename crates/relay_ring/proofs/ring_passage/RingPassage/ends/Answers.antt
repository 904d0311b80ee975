use Rattle.std.proofs.Common.{ap, sym, ◌∙◌, arith}
use Rattle.relay_ring.proofs.Begins.{unparted_is}
use Rattle.relay_ring.proofs.RingSteps as ring
use Rattle.relay_ring.proofs.PairSteps as pair
use Rattle.relay_ring.proofs.ring_passage.RingPassage.ends.Goals as goal

pub split_seat-high_seat-requires : goal.split_seat-high_seat-requires
split_seat-high_seat-requires c =
    let is = unparted_is c.args.self.now c.take.result c.in-Some.unparted c.requires c.take.ensures.value c.in-Some.is in
    (is.ring, omega (arith, ap (λ z. z.words) (sym is.ring) ∙ is.table.words), ring.forks _ _ (ap (λ m. m.0.is_high) is.view))

pub split_seat-reader-requires : goal.split_seat-reader-requires
split_seat-reader-requires c =
    let is = unparted_is c.args.self.now c.take.result c.in-Some.unparted c.requires c.take.ensures.value c.in-Some.is in
    (is.pairs, omega (arith, ap (λ z. z.words) (sym is.pairs) ∙ is.width), pair.forks c.args.self.now.pairs.shared.key 0 _ _)
