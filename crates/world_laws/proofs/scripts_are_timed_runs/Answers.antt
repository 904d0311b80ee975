use Rattle.std.proofs.Common.{None, Some}
use Rattle.script_reader.specs.Scripts.{Whole}
use Rattle.world_laws.proofs.Timeline.Scripts.{script_runs}
use Rattle.world_laws.proofs.scripts_are_timed_runs.Goals as goal

pub returns : goal.returns
returns c = λ o script s printed h. script_runs o None script (Some (Whole s)) printed h tt
