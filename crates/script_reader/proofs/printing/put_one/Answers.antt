use Rattle.script_reader.proofs.Behind.{word_put, field_put, end_put}
use Rattle.script_reader.proofs.printing.put_one.Goals as goal

pub returns : goal.returns
returns g c = end_put _ _ _ _ _ (field_put _ _ _ _ _ _ (word_put _ _ _ c.put.ensures.items) c.put_field.ensures.items) c.put-2.ensures.items
