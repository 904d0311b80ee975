-- What the two workers of a session have in common.
use Rattle.std.specs.Prelude.{◌≡◌, ℕ, Bool, true, List, [], ◌++◌, Option, Some}
use Rattle.pump_frame.specs.Counts.{Rose}
use Rattle.pump_link.specs.Tells.{Grows}
use Rattle.pump_link.specs.Doors.{DoorStep, NoLink, FailedAccept}
use Rattle.relay_threads.specs.declared.rounds_end.RoundsEnd.{RoundsEnd}
use Rattle.relay_threads.specs.declared.rounds_end.RoundsEnd.TheVariants.{Device}

-- of a link that tells what was sent: a prefix of the bytes was sent, and all of them where `whole` holds
abbrev pub SendsPrefix : (List ℕ → Type 0) → (List ℕ → Type 0) → Bool → List ℕ → Type 0
SendsPrefix old new whole bytes = (prefix : List ℕ) × (rest : List ℕ) × (bytes ≡ prefix ++ rest)
    × (whole ≡ true → rest ≡ []) × Grows old new prefix

-- the door had no link for a round: a call of it that failed counts as one that found nobody
abbrev pub IsNobody : {L : Type 0} → DoorStep L → Type 0
IsNobody NoLink = Unit {0}
IsNobody FailedAccept = Unit {0}
IsNobody _ = ⊥

-- a fault of the disk that ended a worker carries the disk's count, which rose
abbrev pub CountsEnd : Option RoundsEnd → ℕ → ℕ → Type 0
CountsEnd (Some (Device faults)) before now = (faults ≡ now) × Rose before now
CountsEnd _ before now = Unit {0}
