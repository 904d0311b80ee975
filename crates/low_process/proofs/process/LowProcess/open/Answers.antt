use Rattle.std.proofs.Common.{[], refl, sym, append-nil}
use Rattle.low_process.proofs.process.LowProcess.open.Goals as goal

pub returns-clause-replies : goal.returns-clause-replies
returns-clause-replies c = λ h before was. (before, [], was, ([], record { are_parts = tt; looks = refl }, refl), sym (append-nil before))
