use Rattle.std.proofs.Common.{[], None, Some, refl}
use Rattle.script_reader.proofs.Replying.{lead_so}
use Rattle.script_reader.proofs.laws.low_lines_are_replies.Goals as goal

pub returns : goal.returns
returns c = λ o script s printed h. lead_so o None script (Some s) printed [] h refl
