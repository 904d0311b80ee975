use Rattle.world_laws.proofs.Timeline.Scripts.{line_is_steps}
use Rattle.world_laws.proofs.lines_are_steps.Goals as goal

pub returns : goal.returns
returns c = line_is_steps
