use Rattle.script_reader.proofs.NewSessions.{begins_new}
use Rattle.script_reader.proofs.laws.sessions_begin_new.Goals as goal

pub returns : goal.returns
returns c = begins_new
