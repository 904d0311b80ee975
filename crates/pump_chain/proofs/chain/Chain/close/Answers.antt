use Rattle.pump_chain.proofs.chain.Chain.close.Goals as goal

pub returns-clause-left : goal.returns-clause-left
returns-clause-left g c = λ s either. (c.close_one.ensures.left s.first.past either.first, c.close_one-2.ensures.left s.second.past either.second)
