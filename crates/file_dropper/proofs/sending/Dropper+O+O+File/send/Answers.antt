use Rattle.std.proofs.Common.{◌∷◌, ◌∙◌, true, refl, sym, arith}
use Rattle.file_dropper.specs.declared.work.Work.TheVariants.{Sending}
use Rattle.file_dropper.proofs.Steps.{gives_message, gave, counted}
use Rattle.file_dropper.proofs.Passing.{begun, not_begun}
use Rattle.file_dropper.proofs.sending.Dropper+O+O+File.send.Goals as goal

pub returns-else-sender-clause-behind : goal.returns-else-sender-clause-behind
returns-else-sender-clause-behind g c = λ tells messages stands.
    let d = c.args.self.now in
    let old = c.args.sender in
    let new = record old { started = true } in
    let left = g.O.File.Source.left in
    let is = counted g.O.Outbox.told tells left messages (record d { work = Sending old }) c.requires.may.not_awaited stands.count in
    let first = c.requires.may.on.work.first c.if-sender.false in
    gave g.O.Outbox.told tells left messages d c.send_start.new.self (record d { work = Sending new; awaited = true }) c.send_start.new.into _ c.send_start.result d.number
    c.send_start.ensures.value c.send_start.ensures.message refl
    (gives_message g.O.Outbox.told tells left messages d.outbox d.message d.number old new stands.work.read c.send_start.new.into is stands.settled stands.work refl stands.work.reading
    (not_begun left old c.if-sender.false ∙ (λ i. sym c.send_start.ensures.start i ∷ sym (begun left new refl) i)) (omega (arith, first)))
