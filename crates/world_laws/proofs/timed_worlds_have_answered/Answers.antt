use Rattle.world_laws.proofs.Answered.{leads_answered}
use Rattle.world_laws.proofs.timed_worlds_have_answered.Goals as goal

pub returns : goal.returns
returns c = λ row steps t h run. leads_answered row steps t run.leads
