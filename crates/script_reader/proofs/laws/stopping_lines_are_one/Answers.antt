use Rattle.script_reader.proofs.Stopping.{no_transcript, one_stop}
use Rattle.script_reader.proofs.laws.stopping_lines_are_one.Goals as goal

pub returns-clause-apart : goal.returns-clause-apart
returns-clause-apart c = no_transcript

pub returns-clause-one : goal.returns-clause-one
returns-clause-one c = one_stop
