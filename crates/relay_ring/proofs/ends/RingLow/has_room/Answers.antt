use Rattle.std.proofs.Common.{◌≡◌, [], length, eq-eqb, sym, ap, ◌∙◌, arith}
use Rattle.atomic_table.specs.Table.{Allows}
use Rattle.relay_ring.specs.RingRule.{taken_word, RingKept, SeesRoom}
use Rattle.relay_ring.proofs.Places.{when_true}
use Rattle.relay_ring.proofs.RingSteps.{looks_for_room}
use Rattle.relay_ring.proofs.Seats.{at_me}
use Rattle.relay_ring.proofs.ends.RingLow.has_room.Goals as goal

pub load-taken-requires : goal.load-taken-requires
load-taken-requires c =
    let e = c.args.self.now in
    let is = c.requires.end in
    let slots = e.ring.now.shared.table_id.slots in
    let me = e.seat.me in
    let spent : me.0.limit ≡ length me.0.forwarded = sym is.limit ∙ sym c.if-self.false ∙ is.count in
    let bare : me.1 ≡ [] = when_true _ _ _ (eq-eqb _ _ (sym spent)) is.holds in (
      is.ring,
      omega (arith, ap (λ z. z.words) (sym is.ring) ∙ is.table.words),
      at_me (λ m. Allows RingKept slots e.seat.id m taken_word (λ n. n) (SeesRoom slots m)) me [] bare (looks_for_room slots e.seat.id me.0 is.role.0 is.role.1 spent),
    )
