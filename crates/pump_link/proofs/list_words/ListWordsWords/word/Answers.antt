use Rattle.std.proofs.Common.{arith}
use Rattle.std.proofs.lemmas.Grind.{common_steps}
use Rattle.pump_link.proofs.list_words.ListWordsWords.word.Goals as goal

pub invariant_of-self : goal.invariant_of-self
invariant_of-self c = grind (arith, common_steps)

pub returns-then-self-len-clause-gives : goal.returns-then-self-len-clause-gives
returns-then-self-len-clause-gives c = grind (arith, common_steps)

pub returns-else-self-len-clause-gives : goal.returns-else-self-len-clause-gives
returns-else-self-len-clause-gives c = grind (arith, common_steps)

pub returns-then-self-len-clause-word : goal.returns-then-self-len-clause-word
returns-then-self-len-clause-word c = grind (arith, common_steps)
