-- An image of a disk whose last call may be unfinished stands for the world with it kept or not.
use Rattle.std.specs.Prelude.{◌≡◌, ℕ, Bool, true, List, length, drop, Some}
use Rattle.pump_core.specs.World.{World}
use Rattle.pump_core.specs.Lawful.{IsLawful}
use Rattle.stable_buffer.specs.Stands.{LowStands, HighStands, MayGain, MayRemove}
use Rattle.stable_buffer.specs.Log.{RecvStands}
use Rattle.high_receiver.specs.Steps.{MayTake}
use Rattle.pump_frame.specs.declared.row.SessionRow.{SessionRow}
use Rattle.recovery.specs.Joint.{accepted_if, removed_if, received_if}

-- low's disk, during a store
abbrev pub StoredImages : Type 0
StoredImages = (row : SessionRow) (w : World) (p old image : List ℕ) → IsLawful w → row.capacity ≡ w.capacity
    → w.storing ≡ Some p
    → LowStands row (length w.accepted) w.removed (drop w.removed w.accepted) old → MayGain row p old image
    → (kept : Bool) × LowStands row (length (accepted_if w kept)) w.removed (drop w.removed (accepted_if w kept)) image

-- high's, during a removal
abbrev pub RemovedImages : Type 0
RemovedImages = (row : SessionRow) (w : World) (old image : List ℕ) → w.removing ≡ true → HighStands row w.removed old
    → MayRemove old image → (kept : Bool) × HighStands row (removed_if w kept) image

-- the receiver's, during a taking
abbrev pub TakenImages : Type 0
TakenImages = (row : SessionRow) (w : World) (p old image : List ℕ) → w.taking ≡ true → w.packet ≡ Some p
    → RecvStands row w.received old → MayTake row p old image → (kept : Bool)
    × RecvStands row (received_if w kept) image
