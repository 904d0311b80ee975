use Rattle.file_messages.proofs.Fitting.{cut_fits}
use Rattle.file_messages.proofs.laws.messages_fit.Goals as goal

pub returns : goal.returns
returns c = cut_fits
