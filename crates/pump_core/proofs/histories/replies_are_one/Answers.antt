use Rattle.std.proofs.Common.{◌∷◌}
use Rattle.pump_core.proofs.Runs.{one_list_of_lives}
use Rattle.pump_core.proofs.histories.replies_are_one.Goals as goal

pub returns : goal.returns
returns c = λ row h xs ys a b. one_list_of_lives row (h.life ∷ h.earlier) xs ys a b
