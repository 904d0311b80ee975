use Rattle.file_messages.proofs.Wholes.{files_of_cuts, between_cuts}
use Rattle.file_messages.proofs.laws.cuts_give_the_files.Goals as goal

pub returns-clause-files : goal.returns-clause-files
returns-clause-files c = files_of_cuts

pub returns-clause-between : goal.returns-clause-between
returns-clause-between c = between_cuts
