use Rattle.command_line.proofs.Sole.{answered}
use Rattle.command_line.proofs.find.command_of.Goals as goal

pub returns-clause-command : goal.returns-clause-command
returns-clause-command c = answered c.found.result _ c.found.ensures.found c.found.ensures.refused
