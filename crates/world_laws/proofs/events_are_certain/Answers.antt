use Rattle.pump_core.proofs.Once.{happens_once}
use Rattle.world_laws.proofs.events_are_certain.Goals as goal

pub returns : goal.returns
returns c = λ w u v event to_u to_v. happens_once w event u v to_u to_v
