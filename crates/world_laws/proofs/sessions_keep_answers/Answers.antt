use Rattle.world_laws.proofs.Answered.{sessions_keep}
use Rattle.world_laws.proofs.sessions_keep_answers.Goals as goal

pub returns : goal.returns
returns c = sessions_keep
