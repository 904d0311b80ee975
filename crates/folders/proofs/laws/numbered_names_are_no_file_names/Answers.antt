use Rattle.folders.proofs.Tildes.{numbered_no_name}
use Rattle.folders.proofs.laws.numbered_names_are_no_file_names.Goals as goal

pub returns : goal.returns
returns c = numbered_no_name
