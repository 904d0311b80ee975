use Rattle.script_reader.proofs.OneEnd.{faulty_scripts}
use Rattle.script_reader.proofs.laws.faulty_scripts_have_no_transcript.Goals as goal

pub returns : goal.returns
returns c = faulty_scripts
