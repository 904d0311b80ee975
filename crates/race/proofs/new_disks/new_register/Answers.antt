use Rattle.std.proofs.Common.{◌∙◌}
use Rattle.race.proofs.NewDisks.{new_value}
use Rattle.race.proofs.new_disks.new_register.Goals as goal

pub returns-clause-value : goal.returns-clause-value
returns-clause-value c = c.in-Ok-open.ensures.found tt ∙ new_value c.args.row.now c.args.role c.format.new.disk.bytes (c.in-Ok.ensures.stands tt)
