use Rattle.std.proofs.Common.{◌≡◌, ℕ, [], ap, ◌∙◌, sym, subst, arith}
use Rattle.atomic_table.specs.Table.{Allows}
use Rattle.relay_ring.specs.declared.ring.RingView.{RingView}
use Rattle.relay_ring.specs.RingRule.{RingTies, ring_both, ring_high}
use Rattle.relay_ring.specs.PairRule.{pair_word, PairKept, PairTies, pair_both}
use Rattle.relay_ring.proofs.RingSteps as ring
use Rattle.relay_ring.proofs.PairSteps as pair
use Rattle.relay_ring.proofs.Joins.{two, ties_fit}
use Rattle.relay_ring.proofs.Seats.{at_me}
use Rattle.relay_ring.proofs.ring_passage.RingPassage.rejoin.Goals as goal

pub split_seat-high_view-requires : goal.split_seat-high_view-requires
split_seat-high_view-requires c =
    let low = c.requires.low.2.0 in
    let high = c.requires.high.2.is in
    (high.ring ∙ sym (two _ _ _ _ c.requires.place).0, omega (arith, ap (λ z. z.words) (sym low.ring) ∙ low.table.words), ring.forks _ _ high.role.1)

pub join_seat-requires : goal.join_seat-requires
join_seat-requires c =
    let low = c.requires.low.2.0 in
    let high = c.requires.high.2.is in
    let parted = c.split_seat-high_view.ensures in (
      low.ring,
      parted.3 ∙ high.ring ∙ sym (two _ _ _ _ c.requires.place).0,
      ap (λ m. m.1) parted.4,
      omega (arith, ap (λ z. z.words) (sym low.ring) ∙ low.table.words),
      ring.merges _ _ _ _ low.role.0 (ap (λ m. m.0.is_high) parted.4 ∙ high.role.1),
    )

pub load-requires : goal.load-requires
load-requires c =
    let low = c.requires.low.2.0 in
    let high = c.requires.high.2.is in
    let slots = c.args.low.ring.now.shared.table_id.slots in
    let seat = c.join_seat.new.seat in
    let joined = c.join_seat.ensures in (
      joined.0 ∙ low.ring,
      omega (arith, ap (λ z. z.words) (sym low.ring) ∙ low.table.words),
      ring.learns slots seat.id seat.me.0 seat.me.1 (ap (λ m. m.0.is_low) joined.2 ∙ low.role.0)
          (ap (λ m. m.0.is_high) joined.2 ∙ ap (λ m. m.0.is_high) c.split_seat-high_view.ensures.4 ∙ high.role.1),
    )

pub join_seat-requires-2 : goal.join_seat-requires-2
join_seat-requires-2 c =
    let low = c.requires.low.2.0 in
    let high = c.requires.high.2.is in
    (high.pairs ∙ sym (two _ _ _ _ c.requires.place).1, low.pairs, low.reads.2, omega (arith, ap (λ z. z.words) (sym low.pairs) ∙ low.width), pair.merges c.args.low.pairs.now.shared.key 0 _ _ _ _)

pub load-requires-2 : goal.load-requires-2
load-requires-2 c =
    let low = c.requires.low.2.0 in
    let high = c.requires.high.2.is in
    let row = c.args.low.pairs.now.shared.key in
    let slots = c.args.low.pairs.now.shared.table_id.slots in
    let seat = c.join_seat-2.new.seat in
    let joined = c.join_seat-2.ensures in (
      joined.0 ∙ high.pairs ∙ sym (two _ _ _ _ c.requires.place).1,
      omega (arith, ap (λ z. z.words) (sym low.pairs) ∙ low.width),
      at_me (λ m. Allows (PairKept row) slots seat.id m pair_word (λ n. n) (λ r m'. PairTies m.0)) seat.me [] (ap (λ m. m.1) joined.2 ∙ high.writes.2)
          (pair.learns row slots seat.id seat.me.0 (ap (λ m. m.0.writes) joined.2 ∙ high.writes.0) (ap (λ m. m.0.reads) joined.2 ∙ low.reads.1)),
    )

pub returns-clause-lawful : goal.returns-clause-lawful
returns-clause-lawful c l h a b =
    let low = c.args.low in
    let high = c.args.high in
    let slots : low.ring.now.shared.table_id.slots ≡ high.places = ap (λ z. z.slots) (two _ _ _ _ c.requires.place).0 ∙ ap (λ z. z.slots) (sym b.is.ring) ∙ b.is.table.slots in
    let both : c.join_seat.new.seat.me.0 ≡ ring_both low.seat.me.0 (ring_high high.seat.me.0) = ap (λ m. m.0) c.join_seat.ensures.2 ∙ ap (λ m. ring_both low.seat.me.0 m.0) c.split_seat-high_view.ensures.4 in
    let ring : RingTies high.places (ring_both low.seat.me.0 high.seat.me.0) = subst (λ (z : ℕ × RingView). RingTies z.0 z.1) (λ i. (slots i, both i)) c.load.ensures.2 in
    let pairs : PairTies (pair_both high.writer.me.0 low.reader.me.0) = subst (λ m. PairTies m.0) c.join_seat-2.ensures.2 c.load-2.ensures.2 in
    ties_fit low.seat.me.0 high.seat.me.0 high.writer.me.0 low.reader.me.0 l h high.places high.taken ring pairs b.is.places b.is.count b.is.each_time b.is.before a.1 b.taken b.times b.taken_before b.tries
