use Rattle.pump_audit.proofs.ComparedLaws.{compared_once}
use Rattle.pump_audit.proofs.laws.comparisons_are_one.Goals as goal

pub returns : goal.returns
returns c bytes v w few h k = compared_once bytes few v w h k
