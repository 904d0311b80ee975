use Rattle.pump_wrapper.proofs.Files.{prefix_given, all_given}
use Rattle.pump_wrapper.proofs.laws.gathered_bytes_are_the_file.Goals as goal

pub returns-clause-prefix : goal.returns-clause-prefix
returns-clause-prefix c = prefix_given

pub returns-clause-all : goal.returns-clause-all
returns-clause-all c = all_given
