use Rattle.pump_chain.proofs.Placing.{first_place}
use Rattle.pump_chain.proofs.chain.Chain.go_back.Goals as goal

pub invariant_of-self : goal.invariant_of-self
invariant_of-self g c = record { keeps = ∣ (λ told p stands. first_place c.first-self.result p.world.received c.first-self.ensures.0 c.first-self.ensures.1) ∣₁ }
