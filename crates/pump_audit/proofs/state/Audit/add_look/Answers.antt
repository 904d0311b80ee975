use Rattle.std.proofs.Common.{inl, inr, refl, sym, ◌∙◌}
use Rattle.pump_audit.proofs.AuditLaws.{look_goes, look_broken, look_untold, look_adds}
use Rattle.pump_audit.proofs.state.Audit.add_look.Goals as goal

pub returns-in_default-clause-is : goal.returns-in_default-clause-is
returns-in_default-clause-is c r was = inl (refl, look_broken c.args.self.now r was c.args.line.now (λ f lets. c.in_default.not-Some f (c.feedback.ensures.only f lets)))

pub returns-then-is_some-clause-is : goal.returns-then-is_some-clause-is
returns-then-is_some-clause-is c r was =
    inr (refl, c.in-Some.feedback, look_goes c.args.self.now r was c.args.line.now c.in-Some.feedback c.in-Some.ensures.some, look_untold c.args.self.now r was c.args.line.now (sym c.is_some.ensures ∙ c.if-is_some.true))

pub returns-clause-is : goal.returns-clause-is
returns-clause-is c r was =
    let step = c.step-self.ensures in
    look_adds c.args.self.now r was c.args.line.now _ c.in-Some.feedback (sym c.is_some.ensures ∙ c.if-is_some.false) c.requires.place c.in-Some.ensures.some
    step.state step.last step.row step.reply c.in_ok-hear.ensures.keeps c.in_ok-hear.ensures.fell c.in_ok-hear.ensures.met refl refl refl refl refl refl refl refl
