use Rattle.pump_core.proofs.Laws.{begins_bounded, runs_bounded}
use Rattle.world_laws.proofs.forged_worlds_are_bounded.Goals as goal

pub returns : goal.returns
returns c = λ start end events begins run. runs_bounded start events end (begins_bounded start begins) run
