use Rattle.std.proofs.Common.{List, map, subst, sym}
use Rattle.pump_core.specs.Comings.{Side, HasSides}
use Rattle.pump_core.specs.Pairs.{uncounted}
use Rattle.pump_core.specs.Runs.{side_with, sides}
use Rattle.world_laws.proofs.Runs.Pairs.{same_low}
use Rattle.world_laws.proofs.pairs_agree.Goals as goal

pub returns : goal.returns
returns c = λ row steps others t u h k xs ys one other agree p q.
    c.sides_decide.ensures row (map (side_with uncounted) (sides t)) h k xs ys one.low (subst (λ (ss : List Side). HasSides row ss k) (sym (same_low t u agree)) other.low) p q
