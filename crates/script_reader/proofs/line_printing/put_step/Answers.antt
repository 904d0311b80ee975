use Rattle.script_reader.proofs.Behind.{field_put}
use Rattle.script_reader.proofs.line_printing.put_step.Goals as goal

pub returns-clause-fields : goal.returns-clause-fields
returns-clause-fields g c = field_put _ _ _ _ _ _ c.put_prefix.ensures.fields c.put_word.ensures.items
