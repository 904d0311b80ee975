use Rattle.std.proofs.Common.{◌∙◌, false, refl, sym, subst}
use Rattle.file_dropper.specs.Works.{StandsBehind}
use Rattle.file_dropper.proofs.Resuming.{leaves_removed, stands_removed}
use Rattle.file_dropper.proofs.Steps.{on_err}
use Rattle.file_dropper.proofs.Answering.{asks_again, ended_fits, ended_gives, counted_on}
use Rattle.file_dropper.proofs.dropper.Dropper+O+O+File.acknowledged.Goals as goal

pub returns-in_default-clause-ask : goal.returns-in_default-clause-ask
returns-in_default-clause-ask g c =
    (asks_again g.O.Outbox.told c.args.self.now c.requires.may c.args.number c.requires.number (sym c.ended.ensures ∙ c.in_default.is), refl)

pub returns-in_err-remove-clause-behind : goal.returns-in_err-remove-clause-behind
returns-in_err-remove-clause-behind g c = λ tells messages stands.
    let d = c.args.self.now in
    let m = g.O.Outbox.told in
    let left = g.O.File.Source.left in
    let ended = sym c.ended.ensures ∙ c.in-Some.is in (
      leaves_removed m tells left messages d.outbox c.remove.new.self.outbox stands.settled
          (ended_fits m d c.requires.may c.in-Some.sent ended tells left messages stands) (ended_gives m d c.requires.may c.in-Some.sent ended tells left messages stands) c.remove.ensures.moves,
      on_err _ c.from_residual.result c.from_residual.ensures.0,
    )

pub returns-clause-behind : goal.returns-clause-behind
returns-clause-behind g c = λ tells messages stands.
    let d = c.args.self.now in
    let m = g.O.Outbox.told in
    let left = g.O.File.Source.left in
    let ended = sym c.ended.ensures ∙ c.in-Some.is in
    let fits = ended_fits m d c.requires.may c.in-Some.sent ended tells left messages stands in
    let gives = ended_gives m d c.requires.may c.in-Some.sent ended tells left messages stands in
    let new = c.remove.new.self in (
      leaves_removed m tells left messages d.outbox new.outbox stands.settled fits gives c.remove.ensures.moves,
      subst (λ x. StandsBehind m left x messages) (sym c.remove.ensures.same)
          (stands_removed m tells left messages d.outbox new.outbox stands.settled fits gives c.remove.ensures.moves c.in_ok-remove.ensures.ok d.message _ false refl
          (counted_on m d c.requires.may left messages c.args.number c.requires.number stands)),
    )
