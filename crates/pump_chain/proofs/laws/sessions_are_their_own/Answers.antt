use Rattle.pump_chain.proofs.Owning.{first_own, second_own}
use Rattle.pump_chain.proofs.laws.sessions_are_their_own.Goals as goal

pub returns-clause-first : goal.returns-clause-first
returns-clause-first c = λ o one two script d printed can leads. first_own o one two script d printed can leads (c.chains_are_scripts.ensures o one two script d printed can leads)

pub returns-clause-second : goal.returns-clause-second
returns-clause-second c = λ o one two script d printed can leads. second_own o one two script d printed can leads (c.chains_are_scripts.ensures o one two script d printed can leads)
