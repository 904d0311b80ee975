use Rattle.std.proofs.Common.{◌∙◌}
use Rattle.exercises.proofs.Exercised.{sums_up}
use Rattle.exercises.proofs.exercising.exercise.Goals as goal

pub returns-in-Ok-write_all-clause-done : goal.returns-in-Ok-write_all-clause-done
returns-in-Ok-write_all-clause-done g c = λ e.
    (c.as_bytes.result.now, sums_up c.args.seed c.args.count c.in-Ok.tally c.as_bytes.result.now c.in-Ok.ensures (c.as_bytes.ensures.value ∙ c.in-Ok-summary.ensures), c.in-Ok-write_all.ensures.ok)

pub returns-clause-write : goal.returns-clause-write
returns-clause-write g c = λ e. (
  c.in-Err.ensures.cause.failed,
  (c.as_bytes.result.now, sums_up c.args.seed c.args.count c.in-Ok.tally c.as_bytes.result.now c.in-Ok.ensures (c.as_bytes.ensures.value ∙ c.in-Ok-summary.ensures), c.in-Err.ensures.err),
)
