use Rattle.std.proofs.Common.{◌≡◌, ◌∙◌, ◌+◌, ◌<◌, ap, arith, length, inl, inr}
use Rattle.folders.specs.Outboxes.{Standing}
use Rattle.file_dropper.specs.Leaving.{cut_length}
use Rattle.file_dropper.proofs.Outside.{leaves_then, leaves_is}
use Rattle.file_dropper.proofs.Resuming.{leaves_opened, settled_opened, fits_now, gives_now}
use Rattle.file_dropper.proofs.Steps.{on_weaker, on_err}
use Rattle.file_dropper.proofs.settling.Dropper+O+O+File.resume.Goals as goal

pub returns-in_err-measure-clause-behind : goal.returns-in_err-measure-clause-behind
returns-in_err-measure-clause-behind g c = λ tells messages is settled fits.
    let d = c.args.self.now in
    let m = g.O.Outbox.told in
    let left = g.O.File.Source.left in
    let sent = c.args.sent.now in
    let less : length messages < sent.start + cut_length d.message sent.size = omega (arith, c.requires.short, is) in (
      elim c.in_err-measure.ensures.err [
        | inl same ↦ leaves_is m tells messages (λ (s : Standing). s) d.outbox c.measure.new.self.outbox settled same fits
        | inr (bytes, opens) ↦ leaves_opened m tells left messages d.message sent d.outbox c.measure.new.self.outbox settled fits (c.requires.marked tells) less bytes opens
      ],
      on_err _ c.from_residual.result c.from_residual.ensures.0,
    )

pub returns-then-is_of-clause-behind : goal.returns-then-is_of-clause-behind
returns-then-is_of-clause-behind g c = λ tells messages is settled fits.
    let d = c.args.self.now in
    let m = g.O.Outbox.told in
    let left = g.O.File.Source.left in
    let sent = c.args.sent.now in
    let o = c.measure.new.self in
    let one = c.in_ok-measure.ensures in
    let (bytes, opens, measured) = one.ok.1 in
    let n1 : o.number ≡ d.number = ap (λ x. x.number) one.same in
    let less : length messages < sent.start + cut_length d.message sent.size = omega (arith, c.requires.short, is) in
    let marked = c.requires.marked tells in
    let later = c.go_on.ensures.behind tells messages (n1 ∙ is) (settled_opened m tells left messages d.message sent d.outbox o.outbox settled fits marked less bytes opens)
    (fits_now m tells left messages d.message sent d.outbox o.outbox settled fits marked less bytes opens) in (
      leaves_then m tells messages d.outbox o.outbox c.go_on.new.self.outbox (leaves_opened m tells left messages d.message sent d.outbox o.outbox settled fits marked less bytes opens) later.0,
      later.1,
    )

pub returns-else-is_of-clause-behind : goal.returns-else-is_of-clause-behind
returns-else-is_of-clause-behind g c = λ tells messages is settled fits.
    let d = c.args.self.now in
    let m = g.O.Outbox.told in
    let left = g.O.File.Source.left in
    let sent = c.args.sent.now in
    let o = c.measure.new.self in
    let one = c.in_ok-measure.ensures in
    let (bytes, opens, measured) = one.ok.1 in
    let n1 : o.number ≡ d.number = ap (λ x. x.number) one.same in
    let less : length messages < sent.start + cut_length d.message sent.size = omega (arith, c.requires.short, is) in
    let marked = c.requires.marked tells in
    let later = c.give_up_file.ensures.behind tells messages (n1 ∙ is) (settled_opened m tells left messages d.message sent d.outbox o.outbox settled fits marked less bytes opens)
    (fits_now m tells left messages d.message sent d.outbox o.outbox settled fits marked less bytes opens) (gives_now m tells left messages d.message sent d.outbox o.outbox settled fits marked less bytes opens) in (
      leaves_then m tells messages d.outbox o.outbox c.give_up_file.new.self.outbox (leaves_opened m tells left messages d.message sent d.outbox o.outbox settled fits marked less bytes opens) later.0,
      on_weaker c.give_up_file.result _ _ later.1 (λ stands unchanged. stands),
    )
