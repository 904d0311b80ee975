use Rattle.std.proofs.Common.{◌≡◌, ℕ, ◌+◌, length, ◌∙◌, ap, refl, subst, arith}
use Rattle.std.proofs.lemmas.Grind.{common_steps}
use Rattle.std.proofs.lemmas.Result.{on_ok_weaker}
use Rattle.disk_model.specs.Disk.{Torn, IsWritten}
use Rattle.disk_model.proofs.Run.{weaker}
use Rattle.stable_buffer.specs.Register.{Selects}
use Rattle.stable_buffer.specs.Stands.{CellStandsOn, slot_of, spelled}
use Rattle.stable_buffer.proofs.Slots.{slot_written, slot_torn_stands_on}
use Rattle.stable_buffer.proofs.low.LowStore.write_slot.Goals as goal

pub returns-clause-slot : goal.returns-clause-slot
returns-clause-slot g c =
    let s = c.args.self.now in
    let m = g.D.Disk.told in
    let message = c.args.payload.now in
    let number : c.value-number.result.0 ≡ s.register.first = ap (λ (v : ℕ × ℕ). v.0) c.value-number.ensures in
    let old = m.reading s.register.disk in
    on_ok_weaker c.write_message.result
    (λ written told. let new = m.reading c.write_message.new.self.disk in
    slot_written s.row s.register.first c.value-number.result.0 message (spelled message) old new
    c.requires.ready.ranges.some number refl c.requires.fits (let stands = c.requires.ready.stands told in stands.2.size)
    (subst (λ p. IsWritten old p (spelled message) new) c.slot_place-at.ensures.place (written told)))
    c.write_message.ensures.written

pub returns-clause-moves : goal.returns-clause-moves
returns-clause-moves g c =
    let s = c.args.self.now in
    let m = g.D.Disk.told in
    let r = s.register in
    let n = 2 + length c.args.payload.now in
    let place : c.slot_place-at.result ≡ slot_of s.row r.first = c.slot_place-at.ensures.place ∙ ap (λ (v : ℕ × ℕ). slot_of s.row v.0) c.value-number.ensures in
    weaker m (Selects r.parity r.first r.second) (Torn c.slot_place-at.result n) (CellStandsOn s.row) r.disk c.write_message.new.self.disk c.requires.ready.ready.each
    (λ a b is' torn. slot_torn_stands_on s.row r.parity r.first r.second n a b c.requires.ready.ranges.some (omega (arith, c.requires.fits)) is'
    (subst (λ p. Torn p n a b) place torn))
    c.write_message.ensures.moves

pub returns-clause-answers : goal.returns-clause-answers
returns-clause-answers g c = grind (arith, common_steps)

pub write_message-requires-clause-within : goal.write_message-requires-clause-within
write_message-requires-clause-within g c = grind (arith, common_steps)

pub write_message-requires-clause-beside : goal.write_message-requires-clause-beside
write_message-requires-clause-beside g c = grind (arith, common_steps)
