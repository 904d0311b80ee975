use Rattle.file_messages.proofs.Taking.{whole_given}
use Rattle.file_messages.proofs.laws.whole_files_are_given.Goals as goal

pub returns : goal.returns
returns c = whole_given
