use Rattle.file_messages.proofs.Firsts.{first_files}
use Rattle.file_messages.proofs.laws.first_messages_give_the_first_files.Goals as goal

pub returns : goal.returns
returns c = first_files
