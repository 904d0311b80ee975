use Rattle.script_reader.proofs.LineEnds.{held_come}
use Rattle.pump_audit.proofs.TextLaws.{at_end_is, first_came, first_is, long_line, never_failed}
use Rattle.pump_audit.proofs.texts.Texts.next.Goals as goal

pub returns-in-Ended-clause-next : goal.returns-in-Ended-clause-next
returns-in-Ended-clause-next g c =
    rw (← c.self.view_is) (first_is _ _ c.first_line.new.self c.first.new.self c.in-Ended.len c.first.new.text.items c.first.result c.first_line.ensures.kept c.in-Ended.ensures.first c.first.ensures)

pub returns-in-Ended-clause-failed : goal.returns-in-Ended-clause-failed
returns-in-Ended-clause-failed g c = λ failed. absurd (first_came c.first_line.new.self c.first.new.self c.in-Ended.len c.first.new.text.items c.first.result c.first.ensures failed)

pub returns-in-Long-clause-next : goal.returns-in-Long-clause-next
returns-in-Long-clause-next g c =
    let is = c.in-Long.ensures.first in
    rw (← c.self.view_is) (long_line _ _ c.first_line.new.self (held_come _ _ c.first_line.new.self c.first_line.ensures.kept) is.0 is.1)

pub returns-in-Unended-clause-next : goal.returns-in-Unended-clause-next
returns-in-Unended-clause-next g c =
    let is = c.in-Unended.ensures.first in
    rw (← c.self.view_is) (at_end_is _ _ _ c.first_line.new.self _ c.at_end.result (held_come _ _ c.first_line.new.self c.first_line.ensures.kept) is.1 is.0 (rw (← c.held.ensures.held) c.at_end.ensures))

pub returns-in-Unended-clause-failed : goal.returns-in-Unended-clause-failed
returns-in-Unended-clause-failed g c = λ failed. absurd (never_failed c.held.result.now c.at_end.result c.at_end.ensures failed)
