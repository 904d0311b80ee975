use Rattle.std.proofs.Common.{None, Some}
use Rattle.script_reader.proofs.Bounds.{lead_so, bounds}
use Rattle.script_reader.proofs.laws.transcripts_are_bounded.Goals as goal

pub returns : goal.returns
returns c = λ o script s printed h. bounds s (lead_so o None script (Some s) printed h tt)
