use Rattle.script_reader.proofs.Opened.{new_disks_can, new_disks}
use Rattle.script_reader.proofs.laws.new_disks_open_empty.Goals as goal

pub returns-clause-can : goal.returns-clause-can
returns-clause-can c = new_disks_can

pub returns-clause-world : goal.returns-clause-world
returns-clause-world c = new_disks
