use Rattle.world_laws.proofs.Runs.Outliving.{run_keeps}
use Rattle.world_laws.proofs.acknowledged_outlives.Goals as goal

pub returns : goal.returns
returns c = λ row steps t h replies low high recv run is left. run_keeps row steps t h replies low high recv run is left
