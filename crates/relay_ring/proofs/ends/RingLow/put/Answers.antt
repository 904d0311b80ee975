use Rattle.std.proofs.Common.{◌≡◌, ◌≢◌, ◌+◌, ◌%◌, [], ◌∷◌, length, Some, ne_eqb, sym, ap, ◌∙◌, subst, arith}
use Rattle.atomic_table.specs.Table.{Allows, rest}
use Rattle.relay_ring.specs.RingRule.{forwarded_word, RingKept, Stored, Mine}
use Rattle.relay_ring.proofs.Places.{when_false}
use Rattle.relay_ring.proofs.RingSteps.{stores_forwarded}
use Rattle.relay_ring.proofs.ends.RingLow.put.Goals as goal

pub store-requires : goal.store-requires
store-requires c =
    let e = c.args.self.now in
    let is = c.requires.end in
    let slots = e.ring.now.shared.table_id.slots in
    let me = e.seat.me in
    let v = me.0 in
    let k = e.forwarded % e.places in
    let item = c.args.item.now in
    let n : e.places ≡ slots = sym is.table.slots ∙ ap (λ z. z.slots) is.ring in
    let open' : length v.forwarded ≢ v.limit = λ q. c.requires.room (is.count ∙ q ∙ sym is.limit) in
    let has = when_false _ _ _ (ne_eqb _ _ open') is.holds in
    let bare : rest me.1 ≡ [] = ap rest has.1 in
    let filled : ◌≡◌ {A = Mine} (v, (k, c.fill.new.slot) ∷ rest me.1) (v, (k, Some item) ∷ []) = λ i. (v, (k, c.fill.ensures i) ∷ bare i) in
    let here : k ≡ length v.forwarded % slots = ap (λ z. z % e.places) is.count ∙ ap (λ z. length v.forwarded % z) n in (
      is.ring,
      omega (arith, ap (λ z. z.words) (sym is.ring) ∙ is.table.words),
      subst (λ m. Allows RingKept slots e.seat.id m forwarded_word (λ _. e.forwarded + 1) (λ _. Stored slots m)) (sym filled)
          (stores_forwarded slots e.seat.id v is.role.0 is.role.1 open' k (e.forwarded + 1) item here (ap (λ z. z + 1) is.count) c.requires.follows c.requires.number),
    )
