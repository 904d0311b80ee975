use Rattle.std.proofs.Common.{◌≡◌, ◌%◌, [], length, sym, ap, ◌∙◌, arith}
use Rattle.atomic_table.specs.Table.{Allows}
use Rattle.relay_ring.specs.RingRule.{forwarded_word, RingKept, SeesItems, first_in}
use Rattle.relay_ring.proofs.RingSteps.{looks_for_items}
use Rattle.relay_ring.proofs.Seats.{at_me, none_ahead}
use Rattle.relay_ring.proofs.ends.RingHigh.has_item.Goals as goal

pub load-self-requires : goal.load-self-requires
load-self-requires c =
    let e = c.args.self.now in
    let is = c.requires.end in
    let slots = e.ring.now.shared.table_id.slots in
    let me = e.seat.me in
    let none : me.0.ahead ≡ [] = none_ahead e.taken e.limit me.0 is.limit c.if-self.false in
    let bare : me.1 ≡ [] = is.holds ∙ ap (first_in (length me.0.taken % e.places)) none in (
      is.ring,
      omega (arith, ap (λ z. z.words) (sym is.ring) ∙ is.table.words),
      at_me (λ m. Allows RingKept slots e.seat.id m forwarded_word (λ n. n) (SeesItems slots m)) me [] bare (looks_for_items slots e.seat.id me.0 is.role.1 is.role.0 none),
    )
