use Rattle.pump_frame.proofs.Exact.{free}
use Rattle.pump_frame.proofs.laws.spellings_are_free.Goals as goal

pub returns : goal.returns
returns c = free
