use Rattle.std.proofs.Common.{◌≡◌, ◌+◌, ◌<◌, subst, sym, arith, length}
use Rattle.file_dropper.specs.Leaving.{cut_length}
use Rattle.file_dropper.specs.Works.{StandsBehind}
use Rattle.file_dropper.proofs.Resuming.{gives_marked, gives_none, leaves_removed, stands_removed}
use Rattle.file_dropper.proofs.Steps.{on_weaker, on_err}
use Rattle.file_dropper.proofs.settling.Dropper+O+O+File.settle_sending.Goals as goal

pub returns-in_err-remove-clause-behind : goal.returns-in_err-remove-clause-behind
returns-in_err-remove-clause-behind g c = λ tells messages is settled fits.
    let d = c.args.self.now in
    let m = g.O.Outbox.told in
    let s = m.stands d.outbox in
    let all : length messages ≡ c.args.sent.now.start + cut_length c.args.message c.args.sent.now.size = omega (arith, is, c.cut_length.ensures.value, c.if-end-accepted-2.true) in
    let gives = gives_marked c.args.message c.args.sent.now s.removed messages s.marked (c.requires.marked tells) fits all in (
      leaves_removed m tells g.O.File.Source.left messages d.outbox c.remove.new.self.outbox settled fits gives c.remove.ensures.moves,
      on_err _ c.from_residual.result c.from_residual.ensures.0,
    )

pub returns-then-end-accepted-2-clause-behind : goal.returns-then-end-accepted-2-clause-behind
returns-then-end-accepted-2-clause-behind g c = λ tells messages is settled fits.
    let d = c.args.self.now in
    let m = g.O.Outbox.told in
    let left = g.O.File.Source.left in
    let s = m.stands d.outbox in
    let new = c.remove.new.self in
    let all : length messages ≡ c.args.sent.now.start + cut_length c.args.message c.args.sent.now.size = omega (arith, is, c.cut_length.ensures.value, c.if-end-accepted-2.true) in
    let gives = gives_marked c.args.message c.args.sent.now s.removed messages s.marked (c.requires.marked tells) fits all in (
      leaves_removed m tells left messages d.outbox new.outbox settled fits gives c.remove.ensures.moves,
      λ unchanged.
          subst (λ x. StandsBehind m left x messages) (sym c.remove.ensures.same)
          (stands_removed m tells left messages d.outbox new.outbox settled fits gives c.remove.ensures.moves c.in_ok-remove.ensures.ok d.message d.number d.awaited c.requires.may.not_awaited is),
    )

pub returns-else-message-self-clause-behind : goal.returns-else-message-self-clause-behind
returns-else-message-self-clause-behind g c = λ tells messages is settled fits.
    let d = c.args.self.now in
    let s = g.O.Outbox.told.stands d.outbox in
    let sent = c.args.sent.now in
    let less : length messages < sent.start + cut_length c.args.message sent.size = omega (arith, is, c.cut_length.ensures.value, c.if-end-accepted.false, c.if-end-accepted-2.false) in
    let later = c.give_up_file.ensures.behind tells messages is settled fits (gives_none c.args.message sent s.removed messages s.marked (c.requires.marked tells) fits less) in
    (later.0, on_weaker c.give_up_file.result _ _ later.1 (λ stands unchanged. stands))

pub returns-then-end-accepted-2-clause-answer : goal.returns-then-end-accepted-2-clause-answer
returns-then-end-accepted-2-clause-answer g c = λ tells. (c.args.message, c.requires.marked tells)
