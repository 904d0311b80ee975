use Rattle.std.proofs.Common.{inl, inr, arith, rules, ap}
use Rattle.std.proofs.lemmas.Grind.{common_steps}
use Rattle.pump_link.proofs.memory.MemSinkSink.write.Goals.{then-self-len-via-then-self-len, then-self-len-via-else-self-len+then-contains}
use Rattle.pump_link.proofs.memory.MemSinkSink.write.Goals as goal

pub returns-then-self-len-clause-fails : goal.returns-then-self-len-clause-fails
returns-then-self-len-clause-fails c = (
  λ _. elim c.then-self-len.branch [
    | then-self-len-via-then-self-len w ↦ inl (omega (arith, ap (λ s. s.room) c.self.view_is))
    | then-self-len-via-else-self-len+then-contains w ↦ inr (grind (arith, common_steps))
  ],
  λ _. search rules,
)

pub invariant_of-self-2 : goal.invariant_of-self-2
invariant_of-self-2 c = grind (arith, common_steps)
