use Rattle.std.proofs.Common.{◌∷◌}
use Rattle.pump_core.proofs.Sides.{one_side_of_lives}
use Rattle.pump_core.proofs.histories.sides_decide.Goals as goal

pub returns : goal.returns
returns c = λ row sides h k xs ys a b p q. one_side_of_lives row sides (h.life ∷ h.earlier) (k.life ∷ k.earlier) xs ys a b p q
