use Rattle.world_laws.proofs.Timeline.Alone.{low_line_is_events}
use Rattle.world_laws.proofs.low_lines_are_events.Goals as goal

pub returns : goal.returns
returns c = low_line_is_events
