use Rattle.std.proofs.Common.{List, [], ◌∷◌, ◌++◌, ℕ, ap, subst, sym}
use Rattle.pump_core.specs.Comings.{Side, HasSides}
use Rattle.pump_core.specs.Runs.{sides}
use Rattle.world_laws.proofs.Runs.Listed.{plain_sides, all_lives, have_cuts}
use Rattle.world_laws.proofs.averages_decide.Goals as goal

pub returns : goal.returns
returns c = λ row steps others t u h k xs ys one other agree p q.
    let same = all_lives row (sides t) (sides u) (h.life ∷ h.earlier) (k.life ∷ k.earlier) [] [] one.low other.low
    (have_cuts row (h.life ∷ h.earlier) xs p) (have_cuts row (k.life ∷ k.earlier) ys q) agree.own (ap (λ (l : List ℕ). l ++ []) agree.averages) in
    c.sides_decide.ensures row (plain_sides (sides t)) h k xs ys one.low (subst (λ (ss : List Side). HasSides row ss k) (sym same.0) other.low) p q
