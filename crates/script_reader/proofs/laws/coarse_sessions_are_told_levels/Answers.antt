use Rattle.script_reader.proofs.Levels.{told_levels}
use Rattle.script_reader.proofs.laws.coarse_sessions_are_told_levels.Goals as goal

pub returns : goal.returns
returns c = told_levels
