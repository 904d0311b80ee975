use Rattle.std.proofs.Common.{◌≡◌, ◌+◌, ◌%◌, [], ◌∷◌, length, Some, unwrap_or, sym, ap, ◌∙◌, subst, arith}
use Rattle.atomic_table.specs.Table.{Allows, rest}
use Rattle.relay_ring.specs.RingRule.{taken_word, RingKept, TookUp, Mine, in_prefix}
use Rattle.relay_ring.proofs.RingSteps.{stores_taken}
use Rattle.relay_ring.proofs.Seats.{some_ahead, slot_of_first}
use Rattle.relay_ring.proofs.ends.RingHigh.take_up.Goals as goal

pub slot_mut-slot-requires : goal.slot_mut-slot-requires
slot_mut-slot-requires g c =
    let e = c.args.self.now in
    let is = c.requires.end in
    let found = some_ahead e.taken e.limit e.seat.me.0 is.limit c.requires.item in
    let has = slot_of_first e.places e.taken e.seat.me found.0 found.1 found.2 is.holds is.count in
    (is.ring, (Some found.0, has ∙ ap (λ l. (e.taken % e.places, Some found.0) ∷ rest l) (sym has)))

pub store-requires : goal.store-requires
store-requires g c =
    let removed = g.K.RemovedTold.removed in
    let e = c.args.self.now in
    let is = c.requires.end in
    let slots = e.ring.now.shared.table_id.slots in
    let me = e.seat.me in
    let v = me.0 in
    let k = e.taken % e.places in
    let n : e.places ≡ slots = sym is.table.slots ∙ ap (λ z. z.slots) is.ring in
    let found = some_ahead e.taken e.limit v is.limit c.requires.item in
    let has = slot_of_first e.places e.taken me found.0 found.1 found.2 is.holds is.count in
    let item = c.copy_out.new.into in
    let same : Some found.0 ≡ Some item = ap in_prefix (sym has ∙ c.slot_mut-slot.ensures.value) ∙ c.copy_out.ensures in
    let held : v.ahead ≡ item ∷ found.1 = found.2 ∙ ap (λ z. z ∷ found.1) (ap (λ o. unwrap_or o found.0) same) in
    let bare : rest me.1 ≡ [] = ap rest has in
    let read : ◌≡◌ {A = Mine} (v, (k, c.slot_mut-slot.result.now) ∷ rest me.1) (v, (k, Some item) ∷ []) = λ i. (v, (k, c.copy_out.ensures i) ∷ bare i) in
    let here : k ≡ length v.taken % slots = ap (λ z. z % e.places) is.count ∙ ap (λ z. length v.taken % z) n in (
      is.ring,
      omega (arith, ap (λ z. z.words) (sym is.ring) ∙ is.table.words),
      subst (λ m. Allows RingKept slots e.seat.id m taken_word (λ _. e.taken + 1) (λ _. TookUp slots m removed m.0.ahead)) (sym read)
          (stores_taken slots e.seat.id v is.role.1 is.role.0 k (e.taken + 1) removed item found.1 held here (ap (λ z. z + 1) is.count)),
    )
