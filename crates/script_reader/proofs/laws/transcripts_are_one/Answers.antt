use Rattle.script_reader.proofs.OneScript.{transcript_one}
use Rattle.script_reader.proofs.laws.transcripts_are_one.Goals as goal

pub returns : goal.returns
returns c = transcript_one
