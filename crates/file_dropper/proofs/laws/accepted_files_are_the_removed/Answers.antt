use Rattle.file_dropper.proofs.Whole.{fitting_gives}
use Rattle.file_dropper.proofs.laws.accepted_files_are_the_removed.Goals as goal

pub returns : goal.returns
returns c = fitting_gives
