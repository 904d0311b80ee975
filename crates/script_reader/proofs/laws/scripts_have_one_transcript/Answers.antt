use Rattle.script_reader.proofs.OneWhole.{script_transcript_one}
use Rattle.script_reader.proofs.laws.scripts_have_one_transcript.Goals as goal

pub returns : goal.returns
returns c = script_transcript_one
