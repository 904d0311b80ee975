use Rattle.std.proofs.Common.{◌∙◌, refl, [], true, sym}
use Rattle.file_dropper.specs.Works.{bytes_of}
use Rattle.file_dropper.specs.declared.work.Work.TheVariants.{Ended}
use Rattle.file_dropper.proofs.Behind.{sends_none_more}
use Rattle.file_dropper.proofs.Steps.{marked_fits, gives_end, gave}
use Rattle.file_dropper.proofs.sending.Dropper+O+O+File.send_end.Goals as goal

pub returns-then-not-is_of-clause-behind : goal.returns-then-not-is_of-clause-behind
returns-then-not-is_of-clause-behind g c = λ tells messages is settled measured upto.
    let s = g.O.Outbox.told.stands c.args.self.now.outbox in
    let d = c.args.self.now in
    c.stop.ensures.behind tells messages is settled
    (marked_fits d.message c.args.sent.now s.marked s.removed messages [] c.requires.may.least (c.requires.may.marked tells) upto)
    (sends_none_more d.message c.args.sent.now (bytes_of s.marked) s.removed messages [] upto)
    (λ same. absurd (let told = c.is_of.ensures.1 (measured.0 ∙ same.0, measured.1 ∙ same.1) in let bad = sym c.if-not-is_of.true ∙ told in cc))

pub returns-clause-behind : goal.returns-clause-behind
returns-clause-behind g c = λ tells messages is settled measured upto.
    let d = c.args.self.now in
    gave g.O.Outbox.told tells g.O.File.Source.left messages d c.give.new.self (record d { work = Ended c.args.sent.now; awaited = true }) c.put_end.new.into _ c.give.result d.number
    c.give.ensures.value c.give.ensures.message refl
    (gives_end g.O.Outbox.told tells g.O.File.Source.left messages d.outbox d.message d.number c.args.sent.now c.args.measure.now c.put_end.new.into is settled upto measured (c.is_of.ensures.0 c.if-not-is_of.false) c.put_end.ensures.message)
