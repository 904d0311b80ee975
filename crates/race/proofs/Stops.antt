-- How a gate counts the stops of a worker.
use Rattle.std.proofs.Common.{◌≡◌, ℕ, Bool, true, false, ◌∙◌, subst}
use Rattle.pump_frame.specs.Counts.{Rose}
use Rattle.race.specs.Turns.{CountsStop}

pub none_counted : (b : Bool) (before now : ℕ) → b ≡ false → now ≡ before → CountsStop b before now
none_counted true before now going same = absurd (cc)
none_counted false before now going same = same

-- it lets the worker go on
pub goes_on : (b : Bool) (before was now : ℕ) → b ≡ false → now ≡ was → CountsStop b before was → CountsStop b before now
goes_on true before was now going passed counts = absurd (cc)
goes_on false before was now going passed counts = passed ∙ counts

-- it stops the worker
pub stops_here : (b : Bool) (before was now : ℕ) → b ≡ false → CountsStop b before was → Rose was now → Rose before now
stops_here true before was now going counts rose = absurd (cc)
stops_here false before was now going counts rose = subst (λ (n : ℕ). Rose n now) counts rose
