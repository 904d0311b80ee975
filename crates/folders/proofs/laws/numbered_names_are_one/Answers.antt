use Rattle.folders.proofs.Tildes.{numbered_one}
use Rattle.folders.proofs.laws.numbered_names_are_one.Goals as goal

pub returns : goal.returns
returns c = numbered_one
