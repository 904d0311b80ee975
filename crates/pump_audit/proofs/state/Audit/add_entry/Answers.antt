use Rattle.std.proofs.lemmas.Result.{IfOk-weaker}
use Rattle.pump_audit.proofs.AuditLaws.{entry_look, entry_note}
use Rattle.pump_audit.proofs.state.Audit.add_entry.Goals as goal

pub returns-in-Look-clause-is : goal.returns-in-Look-clause-is
returns-in-Look-clause-is c =
    let place = rw c.in-Look.is at c.requires.place in
    rw c.in-Look.is (IfOk-weaker c.add_look.result _ _ (λ cause h r was. entry_look c.args.self.now r was c.in-Look.line c.add_look.new.self cause place (h r was)) c.add_look.ensures.is)

pub returns-in-Comment-clause-is : goal.returns-in-Comment-clause-is
returns-in-Comment-clause-is c r was =
    let place = rw c.in-Comment.is at c.requires.place in
    rw c.in-Comment.is (entry_note c.args.self.now r was c.in-Comment.note c.add_note.new.self c.add_note.result place (c.add_note.ensures.is r was))
