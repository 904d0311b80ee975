use Rattle.std.proofs.Common.{◌∙◌, sym}
use Rattle.pump_audit.proofs.AuditLaws.{ends_if, no_end}
use Rattle.pump_audit.proofs.state.Audit.ends_wrong.Goals as goal

pub returns-then-not-is_end : goal.returns-then-not-is_end
returns-then-not-is_end c r was = no_end c.args.self.now r was (sym c.is_end.ensures ∙ c.if-not-is_end.true)

pub returns : goal.returns
returns c r was = ends_if c.args.self.now r was c.ends_right.result c.ends_right.ensures.yes c.ends_right.ensures.no (sym c.is_end.ensures ∙ c.if-not-is_end.false)
