use Rattle.std.proofs.Common.{◌≡◌, ◌-◌, ◌≤◌, List, ℕ, length}
use Rattle.pump_frame.specs.declared.averaging.Averaging.{Averaging}
use Rattle.pump_frame.specs.Averages.{average_of}
use Rattle.pump_audit.specs.Pairs.{Meets}
use Rattle.pump_audit.proofs.claims.Claims.meet.Given as goal

abbrev pub invariant-loop-self : goal.invariant-loop-self
invariant-loop-self l = record {
  meets : (a : Averaging) (times : List ℕ) → l.count ≡ length times → l.average ≡ average_of a times
      → Meets a times l.count l.fn.self.pairs.items l.fn.self.met → Meets a times l.count l.self.pairs.items l.self.met;
  pairs : l.self.pairs ≡ l.fn.self.pairs;
  few : l.self.met ≤ length l.self.pairs.items;
  greatest : l.self.greatest ≡ l.fn.self.greatest;
  fall : l.self.fall ≡ l.fn.self.fall;
}

abbrev pub decreases-loop-self : goal.decreases-loop-self
decreases-loop-self l = length l.self.pairs.items - l.self.met
