use Rattle.pump_chain.proofs.Scripting.{chain_leads}
use Rattle.pump_chain.proofs.laws.chains_are_scripts.Goals as goal

pub returns : goal.returns
returns c = λ o one two script d printed can leads. chain_leads o one two can script d printed leads
