use Rattle.file_messages.specs.Files.{Between}
use Rattle.file_messages.proofs.Runs.{files_on}
use Rattle.file_messages.proofs.laws.files_stay.Goals as goal

pub returns : goal.returns
returns c = files_on Between
