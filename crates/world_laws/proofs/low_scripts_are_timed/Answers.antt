use Rattle.std.proofs.Common.{None, Some}
use Rattle.script_reader.specs.Scripts.{Alone}
use Rattle.world_laws.proofs.Timeline.Alone.{script_events}
use Rattle.world_laws.proofs.low_scripts_are_timed.Goals as goal

pub returns : goal.returns
returns c = λ o script s printed h. script_events o None script (Some (Alone s)) printed h tt
