use Rattle.world_laws.proofs.Runs.Acknowledged.{run_acks}
use Rattle.world_laws.proofs.acknowledged_is_accepted.Goals as goal

pub returns : goal.returns
returns c = λ row steps t h replies run is. run_acks row steps t h replies run is
