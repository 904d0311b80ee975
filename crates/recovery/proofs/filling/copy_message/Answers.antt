use Rattle.std.proofs.Common.{◌≡◌, ◌+◌, ◌∙◌, length, drop, take, false, ap, arith}
use Rattle.std.proofs.lemmas.Result.{IfOk-weaker}
use Rattle.disk_model.specs.declared.name.Role.TheVariants.{Low}
use Rattle.stable_buffer.specs.Numbers.{length_at}
use Rattle.recovery.specs.Moves.{is_blamed}
use Rattle.recovery.proofs.Rows.{row_capacity, row_message}
use Rattle.recovery.proofs.Slots.{slot_length}
use Rattle.recovery.proofs.Surveys.{kept_after}
use Rattle.recovery.proofs.Fillings.{others_stay, size_stays, message_copied, message_put, read_few, first_weaker}
use Rattle.recovery.proofs.filling.copy_message.Goals.{then-length-to-via-then-length-to, then-length-to-via-else-length-to+then-length-from}
use Rattle.recovery.proofs.filling.copy_message.Goals as goal

pub returns-then-length-to-clause-copied : goal.returns-then-length-to-clause-copied
returns-then-length-to-clause-copied g c = λ told message s fits.
    let m = g.D.Disk.told in
    let from = c.args.from.now in
    let is : c.in_ok-length.length ≡ length message = c.in_ok-length.ensures.length told ∙ ap (λ p. length_at (m.reading c.args.source.now) p) c.place-at.ensures.place
    ∙ slot_length from (row_message from c.requires.from) c.args.n message (m.reading c.args.source.now) s in
    let short = s.fits in
    absurd (elim c.then-length-to.branch [
      | then-length-to-via-then-length-to w ↦ omega (arith, w.if-length-to.true, is, fits)
      | then-length-to-via-else-length-to+then-length-from w ↦ omega (arith, w.if-length-from.true, is, short)
    ])

pub returns-clause-copied : goal.returns-clause-copied
returns-clause-copied g c =
    let m = g.D.Disk.told in
    let from = c.args.from.now in
    let to = c.args.to.now in
    IfOk-weaker c.copy_bytes.result _ _ (λ _ wrote told message s fits.
    message_copied from to c.args.n c.in_ok-length.length c.place-at.result c.place.result message (m.reading c.args.source.now) (m.reading c.read_length.new.disk) (m.reading c.args.target.now) (m.reading c.copy_bytes.new.target)
    (row_message from c.requires.from) (omega (arith, (row_capacity to c.requires.to).0)) (c.requires.size told) s (c.in_ok-length.ensures.length told) c.place-at.ensures.place c.place.ensures.place (c.read_length.ensures.kept.moves.reads told) fits (wrote told))
    c.copy_bytes.ensures.written

pub returns-then-length-to-clause-put : goal.returns-then-length-to-clause-put
returns-then-length-to-clause-put g c = λ told message s fits.
    let m = g.D.Disk.told in
    let from = c.args.from.now in
    let is : c.in_ok-length.length ≡ length message = c.in_ok-length.ensures.length told ∙ ap (λ p. length_at (m.reading c.args.source.now) p) c.place-at.ensures.place
    ∙ slot_length from (row_message from c.requires.from) c.args.n message (m.reading c.args.source.now) s in
    let short = s.fits in
    absurd (elim c.then-length-to.branch [
      | then-length-to-via-then-length-to w ↦ omega (arith, w.if-length-to.true, is, fits)
      | then-length-to-via-else-length-to+then-length-from w ↦ omega (arith, w.if-length-from.true, is, short)
    ])

pub returns-clause-put : goal.returns-clause-put
returns-clause-put g c =
    let m = g.D.Disk.told in
    let from = c.args.from.now in
    let to = c.args.to.now in
    IfOk-weaker c.copy_bytes.result _ _ (λ _ wrote told message s fits.
    message_put from to c.args.n c.in_ok-length.length c.place-at.result c.place.result message (m.reading c.args.source.now) (m.reading c.read_length.new.disk) (m.reading c.args.target.now) (m.reading c.copy_bytes.new.target)
    (row_message from c.requires.from) s (c.in_ok-length.ensures.length told) c.place-at.ensures.place c.place.ensures.place (c.read_length.ensures.kept.moves.reads told) (wrote told))
    c.copy_bytes.ensures.written

pub returns-clause-others : goal.returns-clause-others
returns-clause-others g c =
    let m = g.D.Disk.told in
    let to = c.args.to.now in
    let l = c.in_ok-length.length in
    let few = read_few (2 + l) c.place-at.result (m.reading c.read_length.new.disk) in
    IfOk-weaker c.copy_bytes.result _ _ (λ _ wrote told k message below near was.
    others_stay to c.args.n c.place.result (take (2 + l) (drop c.place-at.result (m.reading c.read_length.new.disk))) (m.reading c.args.target.now) (m.reading c.copy_bytes.new.target)
    (omega (arith, (row_capacity to c.requires.to).0)) (omega (arith, few, c.if-length-to.false)) c.place.ensures.place (c.requires.size told) (wrote told) k message below near was)
    c.copy_bytes.ensures.written

pub returns-clause-size : goal.returns-clause-size
returns-clause-size g c =
    let m = g.D.Disk.told in
    let to = c.args.to.now in
    let l = c.in_ok-length.length in
    let few = read_few (2 + l) c.place-at.result (m.reading c.read_length.new.disk) in
    IfOk-weaker c.copy_bytes.result _ _ (λ _ wrote told.
    size_stays to c.args.n c.place.result (take (2 + l) (drop c.place-at.result (m.reading c.read_length.new.disk))) (m.reading c.args.target.now) (m.reading c.copy_bytes.new.target)
    (omega (arith, (row_capacity to c.requires.to).0)) (omega (arith, few, c.if-length-to.false)) c.place.ensures.place (c.requires.size told) (wrote told))
    c.copy_bytes.ensures.written

pub returns-clause-moves : goal.returns-clause-moves
returns-clause-moves g c = first_weaker g.D.Disk.told 80 c.place.result _ _ (omega (arith, c.place.ensures.place)) c.copy_bytes.ensures.moves

pub returns-clause-kept : goal.returns-clause-kept
returns-clause-kept g c = kept_after g.D.Disk.told c.args.source.now c.read_length.new.disk c.copy_bytes.new.source (is_blamed false Low c.copy_bytes.result) c.in_ok-length.ensures.kept c.copy_bytes.ensures.kept
