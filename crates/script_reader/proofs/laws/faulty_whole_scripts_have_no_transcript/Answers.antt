use Rattle.script_reader.proofs.OneWhole.{faulty_whole_scripts}
use Rattle.script_reader.proofs.laws.faulty_whole_scripts_have_no_transcript.Goals as goal

pub returns : goal.returns
returns c = faulty_whole_scripts
