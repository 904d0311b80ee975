use Rattle.pump_frame.proofs.Names.{names_are_one}
use Rattle.pump_frame.proofs.laws.names_are_one.Goals as goal

pub returns : goal.returns
returns c = names_are_one
