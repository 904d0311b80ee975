use Rattle.script_reader.proofs.Behind.{end_put}
use Rattle.script_reader.proofs.printing.put_device.Goals as goal

pub returns : goal.returns
returns g c = end_put _ _ _ _ _ c.put_disk_prefix.ensures.fields c.put.ensures.items
