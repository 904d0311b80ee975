use Rattle.std.proofs.Common.{refl}
use Rattle.pump_wrapper.proofs.Following.{none_taken}
use Rattle.pump_wrapper.proofs.gathering.Gathering.new.Goals as goal

pub returns-clause-taken : goal.returns-clause-taken
returns-clause-taken c = none_taken c.args.message _ refl refl refl
