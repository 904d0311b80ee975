use Rattle.std.proofs.Common.{[], sym, ap, ◌∙◌, arith}
use Rattle.atomic_table.specs.Table.{Allows}
use Rattle.relay_ring.specs.PairRule.{pair_word, PairKept, SeesPair}
use Rattle.relay_ring.proofs.PairSteps.{reads}
use Rattle.relay_ring.proofs.Seats.{at_me}
use Rattle.relay_ring.proofs.pairs.read_pair.Goals as goal

pub load-word-requires : goal.load-word-requires
load-word-requires c =
    let row = c.args.table.now.shared.key in
    let slots = c.args.table.now.shared.table_id.slots in
    let id = c.args.seat.now.id in
    let me = c.args.seat.now.me in (
      c.requires.table,
      omega (arith, ap (λ z. z.words) (sym c.requires.table) ∙ c.requires.width),
      at_me (λ m. Allows (PairKept row) slots id m pair_word (λ n. n) (SeesPair m)) me [] c.requires.role.2 (reads row slots id me.0 c.requires.role.0 c.requires.role.1),
    )
