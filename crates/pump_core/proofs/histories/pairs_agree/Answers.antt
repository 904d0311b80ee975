use Rattle.std.proofs.Common.{◌∷◌}
use Rattle.pump_core.proofs.Agreement.{same_lives}
use Rattle.pump_core.proofs.histories.pairs_agree.Goals as goal

pub returns : goal.returns
returns c = λ row h k xs ys same a b. same_lives row (h.life ∷ h.earlier) (k.life ∷ k.earlier) xs ys same a b
