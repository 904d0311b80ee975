use Rattle.commands.specs.Telling.{bytes_in}
use Rattle.commands.proofs.Told.{each_pump}
use Rattle.commands.proofs.status.disks_told.Goals as goal

pub returns-in-Err-clause-refused : goal.returns-in-Err-clause-refused
returns-in-Err-clause-refused c = each_pump c.args.row.now c.args.disks.low.bytes c.args.disks.high.bytes (bytes_in c.args.disks.recv) c.in-Err.end c.in-Err.ensures.refused
