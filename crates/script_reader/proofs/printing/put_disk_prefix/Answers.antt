use Rattle.script_reader.proofs.Behind.{word_put, field_put}
use Rattle.script_reader.proofs.printing.put_disk_prefix.Goals as goal

pub returns-clause-fields : goal.returns-clause-fields
returns-clause-fields g c = field_put _ _ _ _ _ _ (field_put _ _ _ _ _ _ (word_put _ _ _ c.put.ensures.items) (rw c.from.ensures at c.put_field.ensures.items)) c.put_role.ensures.items
