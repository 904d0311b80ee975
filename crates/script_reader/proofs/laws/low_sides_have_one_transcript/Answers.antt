use Rattle.script_reader.proofs.LowAlone.{one_alone}
use Rattle.script_reader.proofs.laws.low_sides_have_one_transcript.Goals as goal

pub returns : goal.returns
returns c = one_alone
