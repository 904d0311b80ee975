use Rattle.pump_wrapper.proofs.Wrapping.{each_fits}
use Rattle.pump_wrapper.proofs.laws.messages_fit.Goals as goal

pub returns : goal.returns
returns c = each_fits
