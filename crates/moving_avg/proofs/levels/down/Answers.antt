use Rattle.std.proofs.Common.{rules}
use Rattle.pump_frame.specs.Averages.{down}
use Rattle.moving_avg.proofs.levels.down.Goals as goal

pub returns-then-averaging-clause-value : goal.returns-then-averaging-clause-value
unfolding down
returns-then-averaging-clause-value c = search rules

pub returns-else-averaging-clause-value : goal.returns-else-averaging-clause-value
unfolding down
returns-else-averaging-clause-value c = search rules
