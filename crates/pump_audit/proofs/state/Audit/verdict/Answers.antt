use Rattle.std.proofs.Common.{◌∙◌, sym}
use Rattle.pump_audit.proofs.AuditLaws.{uncommented}
use Rattle.pump_audit.proofs.EndLaws.{cut_short, claims_wrong, numbers_wrong, all_right}
use Rattle.pump_audit.proofs.state.Audit.verdict.Goals as goal

pub returns-then-not-may_end : goal.returns-then-not-may_end
returns-then-not-may_end c r was =
    cut_short c.args.self.now r was c.from-behind.result c.from-behind.ensures (sym c.may_end.ensures ∙ c.if-not-may_end.true)

pub returns-then-is_some : goal.returns-then-is_some
returns-then-is_some c r was =
    uncommented c.args.self.now r was c.from-behind.result c.from-behind.ensures (sym c.may_end.ensures ∙ c.if-not-may_end.false) (sym c.is_some.ensures ∙ c.if-is_some.true)

pub returns-in-Some : goal.returns-in-Some
returns-in-Some c r was =
    claims_wrong c.args.self.now r was c.from.result c.in-Some.line c.from.ensures (sym c.may_end.ensures ∙ c.if-not-may_end.false) (sym c.is_some.ensures ∙ c.if-is_some.false) (c.in-Some.ensures r was)

pub returns-then-ends_wrong : goal.returns-then-ends_wrong
returns-then-ends_wrong c r was =
    numbers_wrong c.args.self.now r was c.from-then-ends_wrong.result c.from-then-ends_wrong.ensures (sym c.may_end.ensures ∙ c.if-not-may_end.false) (sym c.is_some.ensures ∙ c.if-is_some.false)
    (c.in_default.ensures r was) (c.if-ends_wrong.ensures r was)

pub returns : goal.returns
returns c r was =
    all_right c.args.self.now r was c.from-2.result (c.from-2.ensures ∙ c.count.ensures.times r.times was.held.holds) (sym c.may_end.ensures ∙ c.if-not-may_end.false) (sym c.is_some.ensures ∙ c.if-is_some.false)
    (c.in_default.ensures r was) (c.if-ends_wrong.ensures r was)
