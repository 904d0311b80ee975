use Rattle.world_laws.proofs.Runs.Outliving.{keeps_messages}
use Rattle.world_laws.proofs.accepted_outlives.Goals as goal

pub returns : goal.returns
returns c = λ row w low high recv lawful left. keeps_messages row w low high recv lawful left
