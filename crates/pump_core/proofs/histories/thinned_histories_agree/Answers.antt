use Rattle.std.proofs.Common.{◌∷◌}
use Rattle.pump_core.proofs.Thinning.{thinned_lives}
use Rattle.pump_core.proofs.histories.thinned_histories_agree.Goals as goal

pub returns : goal.returns
returns c = λ row h k xs ys thinned a b. thinned_lives row (h.life ∷ h.earlier) (k.life ∷ k.earlier) xs ys thinned a b
