use Rattle.std.proofs.Common.{◌≡◌, ◌++◌, ◌∷◌, [], length, sym, ap, ◌∙◌, arith}
use Rattle.atomic_table.specs.Table.{Allows}
use Rattle.pump_frame.specs.Averages.{average_of}
use Rattle.relay_ring.specs.PairRule.{pair_word, pair_shape, pair_of, Mine, PairKept, with_time}
use Rattle.relay_ring.proofs.PairSteps.{stores}
use Rattle.relay_ring.proofs.Seats.{at_me}
use Rattle.relay_ring.proofs.pairs.store_pair.Goals as goal

pub store-requires : goal.store-requires
store-requires g c =
    let row = c.args.table.now.shared.key in
    let slots = c.args.table.now.shared.table_id.slots in
    let id = c.args.seat.now.id in
    let me = c.args.seat.now.me in
    let v = me.0 in
    let micros = g.K.TimeTold.micros in
    let taken = g.K.TimeTold.taken in (
      c.requires.table,
      omega (arith, ap (λ z. z.words) (sym c.requires.table) ∙ c.requires.width),
      at_me (λ m. Allows (PairKept row) slots id m pair_word (λ _. pair_of c.args.pair.count c.args.pair.average) (λ r m'. ◌≡◌ {A = Mine} m' (with_time m.0 micros taken, m.1))) me [] c.requires.role.2
          (stores row slots id v c.requires.role.0 c.requires.role.1 c.args.pair.count c.args.pair.average micros taken (c.requires.count ∙ ap (λ t. length (v.times ++ t ∷ [])) c.requires.told.0)
          (c.requires.average ∙ ap (λ t. average_of (pair_shape v).averaging (v.times ++ t ∷ [])) c.requires.told.0) c.requires.bound),
    )
