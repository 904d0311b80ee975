use Rattle.std.proofs.Common.{◌≡◌, true, rules}
use Rattle.std.specs.Prelude.{is_some}
use Rattle.std.proofs.lemmas.Result.{IfOk-weaker}
use Rattle.pump_audit.specs.Auditing.{form_of_audit}
use Rattle.pump_audit.specs.Places.{behind_line}
use Rattle.pump_audit.proofs.AuditLaws.{text_is}
use Rattle.pump_audit.proofs.state.Audit.add.Goals as goal

pub returns-clause-is : goal.returns-clause-is
returns-clause-is c =
    let place : is_some (behind_line (form_of_audit c.args.self.now) c.in-Some.entry) ≡ true = search rules in
    IfOk-weaker c.add_entry.result _ _ (λ cause h r was. text_is c.args.self.now r was c.in-Some.entry c.args.text.now c.add_entry.new.self cause c.in-Some.ensures.found place (h r was)) c.add_entry.ensures.is
