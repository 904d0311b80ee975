use Rattle.std.proofs.Common.{◌≡◌, ℕ, ap, subst, sym, ◌∙◌}
use Rattle.std.specs.Prelude.{◌==◌}
use Rattle.std.proofs.lemmas.Bool.{and_parts, eqb-true}
use Rattle.script_reader.specs.Heads.{act_with, line_with}
use Rattle.script_reader.specs.declared.line.Line.{Line}
use Rattle.two_worlds.specs.LowPumpParts.{EndsLine}
use Rattle.two_worlds.specs.Printing.{lines_in}
use Rattle.two_worlds.proofs.low_pump.parts.LowPumpParts.apply.Goals as goal

pub returns-in-At-clause-ends : goal.returns-in-At-clause-ends
returns-in-At-clause-ends c =
    let at = c.in-At in
    let s = c.args.self.now in
    let own : at.session ≡ s.row.id = eqb-true at.session s.row.id (and_parts (at.session == s.row.id) _ (sym c.if-is_timely.ensures)).0 in
    let is = ap (line_with c.args.bytes.now) at.is ∙ ap (λ (n : ℕ). act_with c.args.bytes.now n at.moment at.act) own in
    subst (λ (line : Line). EndsLine s c.act.new.self line (lines_in c.act.new.out.items) c.act.result) (sym is) c.act.ensures.ends
