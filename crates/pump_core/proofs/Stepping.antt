-- Lemmas for the code of a step.
use Rattle.std.proofs.Common.{◌≡◌, ℕ, ◌≤◌, true, refl, Some, length}
use Rattle.std.proofs.lemmas.Bool.{cond-false, le-ltb, eq-eqb}
use Rattle.std.specs.Prelude.{nat_lt}
use Rattle.pump_frame.specs.declared.frame.Item.{Item}
use Rattle.pump_core.specs.World.{World}
use Rattle.pump_core.specs.Events.{carried, holds, answered}

pub carried_here : (w : World) (d : Item) → length w.received ≤ d.number
    → carried w d ≡ record w { packet = Some d.payload }
carried_here w d le =
    cond-false (nat_lt d.number (length w.received)) _ _ (le-ltb d.number (length w.received) le)

pub answered_due : (w : World) (n : ℕ) → n ≡ w.removed → holds w.high_hand n ≡ true
    → answered w n ≡ record w { due = true }
answered_due w n same held = rw (eq-eqb n w.removed same, held) refl
