use Rattle.pump_wrapper.proofs.Wrapping.{prefix_of_file, unwrapped_file}
use Rattle.pump_wrapper.proofs.laws.messages_have_the_bytes.Goals as goal

pub returns-clause-prefix : goal.returns-clause-prefix
returns-clause-prefix c = prefix_of_file

pub returns-clause-all : goal.returns-clause-all
returns-clause-all c = unwrapped_file
