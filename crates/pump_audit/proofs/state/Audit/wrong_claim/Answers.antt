use Rattle.std.proofs.Common.{◌∙◌, sym}
use Rattle.pump_audit.proofs.AuditLaws.{claims_at_end, claims_open}
use Rattle.pump_audit.proofs.state.Audit.wrong_claim.Goals as goal

pub returns-then-is_end : goal.returns-then-is_end
returns-then-is_end c r was = claims_at_end c.args.self.now r was c.unmet.result c.unmet.ensures (sym c.is_end.ensures ∙ c.if-is_end.true)

pub returns-else-is_end : goal.returns-else-is_end
returns-else-is_end c r was = claims_open c.args.self.now r was (sym c.is_end.ensures ∙ c.if-is_end.false)
