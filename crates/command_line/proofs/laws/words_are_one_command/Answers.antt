use Rattle.command_line.proofs.Sole.{words_of_one}
use Rattle.command_line.proofs.laws.words_are_one_command.Goals as goal

pub returns : goal.returns
returns c = words_of_one
