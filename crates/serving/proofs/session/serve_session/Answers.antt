use Rattle.std.proofs.Common.{sym, ap, subst, ◌∙◌}
use Rattle.std.specs.List.{All}
use Rattle.pump_core.specs.Passage.{Shape, Low, new_high}
use Rattle.relay_ring.specs.PairRule.{IsAveraged}
use Rattle.serving.proofs.session.serve_session.Goals as goal

pub serve_over-end-requires-clause-low_end : goal.serve_over-end-requires-clause-low_end
serve_over-end-requires-clause-low_end g c κs within = c.ends-low_ring.ensures.low new_high

pub serve_over-end-requires-clause-averages : goal.serve_over-end-requires-clause-averages
serve_over-end-requires-clause-averages g c κs within = (
  (λ e l h stands. subst (λ (z : Low). All (λ p. IsAveraged (e.ends.0).averaging p.1) z.pairs) (sym stands.1) stands.0.averaged),
  ap (λ (s : Shape). s.averaging) (c.ends-low_ring.ensures.low_shape ∙ c.in-Ok.ensures.shape),
)
