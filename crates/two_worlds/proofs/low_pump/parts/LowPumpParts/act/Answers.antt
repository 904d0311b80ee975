use Rattle.script_reader.specs.Heads.{arriving_with, act_with}
use Rattle.std.proofs.Common.{◌≡◌, ap, true, subst, sym, ◌∙◌}
use Rattle.script_reader.specs.declared.line.Line.{Line}
use Rattle.script_reader.specs.Alone.{is_apt_alone, IsRefusedAlone, StepAlone}
use Rattle.two_worlds.specs.LowPumpParts.{EndsBy}
use Rattle.two_worlds.proofs.Told.Lines.{applies_told, applies_gone, on_time, on_time_and}
use Rattle.two_worlds.specs.Printing.{lines_in}
use Rattle.two_worlds.proofs.low_pump.parts.LowPumpParts.act.Goals as goal

pub returns-in-Told-clause-ends : goal.returns-in-Told-clause-ends
returns-in-Told-clause-ends c = λ p was.
    let s = c.args.self.now in
    let i = c.in-Told in
    subst (λ (line : Line). EndsBy (IsRefusedAlone s.row p line) (λ is_fault q printed. (is_apt_alone s.row p line ≡ true) × StepAlone s.row p line is_fault q printed) s c.told.new.self (lines_in c.told.new.out.items) c.told.result)
    (sym (ap (act_with c.args.bytes.now s.row.id c.args.moment) i.is))
    (applies_told s p was s.row.id c.args.moment i.word i.fault i.feedback (arriving_with c.args.bytes.now i.arrival) c.told.new.self (lines_in c.told.new.out.items) c.told.result
    (on_time_and s c.args.moment c.requires.order _ ∙ sym c.if-tells_level.ensures) (c.told.ensures.ends p was))

pub returns-in-Gone-clause-ends : goal.returns-in-Gone-clause-ends
returns-in-Gone-clause-ends c = λ p was.
    let s = c.args.self.now in
    subst (λ (line : Line). EndsBy (IsRefusedAlone s.row p line) (λ is_fault q printed. (is_apt_alone s.row p line ≡ true) × StepAlone s.row p line is_fault q printed) s c.gone.new.self (lines_in c.gone.new.out.items) c.gone.result)
    (sym (ap (act_with c.args.bytes.now s.row.id c.args.moment) c.in-Gone.is))
    (applies_gone s p was s.row.id c.args.moment c.gone.new.self (lines_in c.gone.new.out.items) c.gone.result (on_time s c.args.moment c.requires.order) (c.gone.ensures.ends p was))
