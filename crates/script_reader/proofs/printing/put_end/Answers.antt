use Rattle.script_reader.proofs.Behind.{field_put, end_put}
use Rattle.script_reader.proofs.printing.put_end.Goals as goal

pub returns-in-None : goal.returns-in-None
returns-in-None g c = rw c.in-None.is (end_put _ _ _ _ _ (field_put _ _ _ _ _ _ c.put_prefix.ensures.fields c.put.ensures.items) c.put-in-None.ensures.items)
