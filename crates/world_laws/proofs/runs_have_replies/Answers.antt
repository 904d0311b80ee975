use Rattle.world_laws.proofs.Replied.{run_has}
use Rattle.world_laws.proofs.runs_have_replies.Goals as goal

pub returns : goal.returns
returns c = λ row steps t h run. run_has row steps t h run
