use Rattle.std.proofs.Common.{sym, ap, ◌∙◌}
use Rattle.std.specs.Prelude.{position}
use Rattle.script_reader.specs.Lines.{is_end}
use Rattle.script_reader.proofs.LineEnds.{ready_here, ready_by_length}
use Rattle.script_reader.proofs.held_lines.HeldLines.is_ready.Goals as goal

pub returns-then-is_some : goal.returns-then-is_some
returns-then-is_some c =
    let ready = ready_here c.args.self.now c.line_end.result c.line_end.ensures.at (sym c.is_some.ensures ∙ c.if-is_some.true) in
    (λ h. ready, λ h. c.if-is_some.true)

pub returns-else-is_some : goal.returns-else-is_some
returns-else-is_some c =
    let at = c.line_end.ensures.at ∙ ap (position is_end) (sym c.held.ensures.held) in
    rw (← c.held.ensures.held) (ready_by_length c.held.result.now c.line_end.result at (sym c.is_some.ensures ∙ c.if-is_some.false))
