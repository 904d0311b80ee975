use Rattle.std.proofs.Common.{◌∙◌, sym, ap}
use Rattle.pump_audit.specs.Places.{behind_line}
use Rattle.pump_audit.proofs.SideLaws.{goes_by}
use Rattle.pump_audit.proofs.side.Side.add.Goals as goal

pub returns-in_ok-add_entry-in-Some-behind_line : goal.returns-in_ok-add_entry-in-Some-behind_line
returns-in_ok-add_entry-in-Some-behind_line c first s was =
    let added = rw c.in_ok-add_entry-in-Some-behind_line.was at c.add_entry.ensures in
    let place = sym (ap (λ f. behind_line f c.in-Some.entry) c.form.ensures) ∙ sym c.behind_line.ensures ∙ c.in-Some-behind_line.is in
    goes_by first c.args.self.now s was c.in-Some.entry c.args.text.now c.in-Some.ensures.found c.in-Some-behind_line.form place c.add_entry.new.self (added first s was)
