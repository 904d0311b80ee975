use Rattle.folders.proofs.One.{dotted}
use Rattle.folders.proofs.laws.hidden_names_are_no_file_names.Goals as goal

pub returns : goal.returns
returns c session mark h = dotted _ h
