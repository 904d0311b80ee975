-- Whether low's disk and the receiver's agree.
use Rattle.std.specs.Prelude.{◌≡◌, ◌⊎◌, ℕ, ◌<◌, ◌≤◌, List, [], slice_index_or}
use Rattle.pump_frame.specs.declared.row.SessionRow.{SessionRow}
use Rattle.stable_buffer.specs.Stands.{InSlot}
use Rattle.recovery.specs.declared.why.Why.{Why}
use Rattle.recovery.specs.declared.why.Why.TheVariants.{Device, NotABuffer, WrongShape, BadRegister, Mismatch, BadSlot}
use Rattle.recovery.specs.declared.why.Why.TheVariants.{Apart, Differs, NotEmpty, Small, TooLong}

-- the receiver's messages from `removed` to before `count` stand in low's slots
abbrev pub SlotsAgree : SessionRow → ℕ → ℕ → List (List ℕ) → List ℕ → Type 0
SlotsAgree row removed count messages low = (n : ℕ) → removed ≤ n → n < count
    → InSlot row n (slice_index_or messages n []) low

-- The receiver has fewer than are removed, or more than are accepted; or the least of its messages that stands
-- otherwise in low's slot is this.
abbrev pub Disagrees : SessionRow → ℕ → ℕ → ℕ → List (List ℕ) → List ℕ → Why → Type 0
Disagrees row removed count accepted messages low (Apart found bound) =
    (found ≡ count) × (((count < removed) × (bound ≡ removed)) ⊎ ((removed ≤ count) × (accepted < count)
    × (bound ≡ accepted)))
Disagrees row removed count accepted messages low (Differs n) =
    (removed ≤ count) × (count ≤ accepted) × (removed ≤ n) × (n < count) × SlotsAgree row removed n messages low
    × (InSlot row n (slice_index_or messages n []) low → ⊥)
Disagrees row removed count accepted messages low (Device faults) = ⊥
Disagrees row removed count accepted messages low (NotABuffer size bytes) = ⊥
Disagrees row removed count accepted messages low (WrongShape field one other) = ⊥
Disagrees row removed count accepted messages low (BadRegister first second) = ⊥
Disagrees row removed count accepted messages low (Mismatch one other) = ⊥
Disagrees row removed count accepted messages low (BadSlot number length) = ⊥
Disagrees row removed count accepted messages low (NotEmpty size) = ⊥
Disagrees row removed count accepted messages low (Small held capacity) = ⊥
Disagrees row removed count accepted messages low (TooLong number length) = ⊥
