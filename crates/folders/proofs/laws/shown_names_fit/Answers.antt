use Rattle.folders.proofs.Lengths.{shown_length}
use Rattle.folders.proofs.laws.shown_names_fit.Goals as goal

pub returns : goal.returns
returns c = shown_length
