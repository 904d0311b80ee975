use Rattle.script_reader.proofs.OneWhole.{no_script_transcript, one_script_stop}
use Rattle.script_reader.proofs.laws.lines_stop_whole_scripts_in_one_way.Goals as goal

pub returns-clause-apart : goal.returns-clause-apart
returns-clause-apart c = no_script_transcript

pub returns-clause-one : goal.returns-clause-one
returns-clause-one c = one_script_stop
