use Rattle.pump_core.proofs.Cuts.{one_cut}
use Rattle.pump_core.proofs.histories.cuts_are_one.Goals as goal

pub returns : goal.returns
returns c = one_cut
