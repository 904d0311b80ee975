use Rattle.pump_audit.proofs.OnceLaws.{pair_once}
use Rattle.pump_audit.proofs.laws.pairs_are_one.Goals as goal

pub returns : goal.returns
returns c = λ bytes a b c d h k. pair_once bytes a b c d h k
