use Rattle.world_laws.proofs.Runs.Worlds.{leads_lawfully}
use Rattle.world_laws.proofs.timed_worlds_are_lawful.Goals as goal

pub returns : goal.returns
returns c = λ row steps t h run. leads_lawfully row steps t run.leads
