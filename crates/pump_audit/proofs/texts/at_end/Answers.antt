use Rattle.std.proofs.Common.{◌∙◌, sym}
use Rattle.std.proofs.lemmas.Bool.{eqb-true}
use Rattle.pump_audit.proofs.TextLaws.{ends_empty, ends_cut, not_zero}
use Rattle.pump_audit.proofs.texts.at_end.Goals as goal

pub returns-then-is_empty : goal.returns-then-is_empty
returns-then-is_empty c = ends_empty c.args.held.now (eqb-true _ _ (sym c.is_empty.ensures ∙ c.if-is_empty.true))

pub returns-else-is_empty : goal.returns-else-is_empty
returns-else-is_empty c = ends_cut c.args.held.now (not_zero _ (sym c.is_empty.ensures ∙ c.if-is_empty.false))
