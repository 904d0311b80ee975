use Rattle.std.proofs.Common.{map, refl}
use Rattle.pump_audit.specs.Siding.{tells}
use Rattle.pump_audit.proofs.SideLaws.{nothing_met}
use Rattle.pump_audit.proofs.side.Matching.new.Goals as goal

pub returns : goal.returns
returns c = (refl, (nothing_met (map tells c.args.first.items), refl))
