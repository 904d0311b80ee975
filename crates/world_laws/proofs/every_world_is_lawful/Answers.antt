use Rattle.pump_core.proofs.Laws.{begins_lawful, runs_lawfully}
use Rattle.world_laws.proofs.every_world_is_lawful.Goals as goal

pub returns : goal.returns
returns c = λ start end events begins run. runs_lawfully start events end (begins_lawful start begins) run
