use Rattle.folders.proofs.Lengths.{hidden_length}
use Rattle.folders.proofs.laws.hidden_names_fit.Goals as goal

pub returns : goal.returns
returns c = hidden_length
