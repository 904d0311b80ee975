use Rattle.pump_audit.proofs.VerdictLaws.{verdict_once}
use Rattle.pump_audit.proofs.laws.verdicts_are_one.Goals as goal

pub returns : goal.returns
returns c bytes v w h k = verdict_once bytes v w h k
