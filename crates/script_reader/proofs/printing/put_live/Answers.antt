use Rattle.script_reader.proofs.Behind.{field_put, end_put}
use Rattle.script_reader.proofs.printing.put_live.Goals as goal

pub returns : goal.returns
returns g c = end_put _ _ _ _ _ (field_put _ _ _ _ _ _ c.put_prefix.ensures.fields (rw c.as_slice.ensures.value at c.put_hex.ensures.items)) c.put.ensures.items
