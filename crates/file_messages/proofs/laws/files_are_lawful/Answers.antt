use Rattle.file_messages.specs.Files.{Between}
use Rattle.file_messages.proofs.Lawful.{files_told}
use Rattle.file_messages.proofs.laws.files_are_lawful.Goals as goal

pub returns : goal.returns
returns c = λ messages. files_told Between messages tt
