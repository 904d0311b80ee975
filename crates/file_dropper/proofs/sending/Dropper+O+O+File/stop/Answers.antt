use Rattle.std.proofs.Common.{◌∙◌, ap, refl}
use Rattle.file_dropper.proofs.Steps.{stops}
use Rattle.file_dropper.proofs.sending.Dropper+O+O+File.stop.Goals as goal

pub returns-clause-behind : goal.returns-clause-behind
returns-clause-behind g c = λ tells messages is settled fits none other.
    let both = stops g.O.Outbox.told tells g.O.File.Source.left messages c.args.self.now.outbox c.mark_stopped.new.self.outbox c.mark_stopped.new.self.message c.mark_stopped.new.self.number
    c.args.sent.now c.put_abandon.new.into (ap (λ d. d.number) c.mark_stopped.ensures.same ∙ is) settled fits none c.mark_stopped.ensures.moves c.in_ok-mark_stopped.ensures.ok c.put_abandon.ensures in
    (both.0, (both.1, (other, (refl, refl))))
