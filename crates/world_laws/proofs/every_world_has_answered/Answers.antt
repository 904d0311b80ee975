use Rattle.world_laws.proofs.Answered.{runs_answered}
use Rattle.world_laws.proofs.every_world_has_answered.Goals as goal

pub returns : goal.returns
returns c = runs_answered
