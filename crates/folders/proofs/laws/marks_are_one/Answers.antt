use Rattle.folders.proofs.One.{marks_one}
use Rattle.folders.proofs.laws.marks_are_one.Goals as goal

pub returns : goal.returns
returns c = marks_one
