use Rattle.script_reader.proofs.Behind.{field_put, end_put}
use Rattle.script_reader.proofs.printing.put_disk.Goals as goal

pub returns : goal.returns
returns g c = end_put _ _ _ _ _ (field_put _ _ _ _ _ _ (field_put _ _ _ _ _ _ (field_put _ _ _ _ _ _ c.put_disk_prefix.ensures.fields (rw c.from.ensures at c.put_field.ensures.items)) c.put_field-2.ensures.items) c.put_field-3.ensures.items) c.put.ensures.items
