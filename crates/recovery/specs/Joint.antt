-- The three disks of a session as a crash may leave them, and the world that they come from.
use Rattle.std.specs.Prelude.{◌≡◌, ℕ, ◌+◌, ◌^◌, ◌<◌, ◌≤◌, Bool, true, false, if◌then◌else◌, ◌&&◌, List, [], ◌∷◌, ◌++◌}
use Rattle.std.specs.Prelude.{length, drop, Option, Some, None}
use Rattle.pump_core.specs.World.{World}
use Rattle.pump_core.specs.Lawful.{IsLawful}
use Rattle.stable_buffer.specs.Stands.{LowStands, HighStands}
use Rattle.stable_buffer.specs.Log.{RecvStands}
use Rattle.pump_frame.specs.Rows.{IsLawfulRow}
use Rattle.pump_frame.specs.declared.row.SessionRow.{SessionRow}
use Rattle.stable_buffer.specs.Register.{value_of}
use Rattle.recovery.specs.Refusals.{refused_pump, refused_receiver}
use Rattle.recovery.specs.Agreement.{SlotsAgree, Disagrees}
use Rattle.recovery.specs.declared.why.Why.{Why}

-- an unfinished message is kept or not
abbrev pub kept_with : Bool → Option (List ℕ) → List (List ℕ) → List (List ℕ)
kept_with true (Some p) ps = ps ++ p ∷ []
kept_with true None ps = ps
kept_with false x ps = ps

-- the message whose taking is unfinished
abbrev pub taking_of : World → Option (List ℕ)
taking_of w = if w.taking then w.packet else None

-- what low's disk, high's and the receiver's may be found to have
abbrev pub accepted_if : World → Bool → List (List ℕ)
accepted_if w kept = kept_with kept w.storing w.accepted

abbrev pub removed_if : World → Bool → ℕ
removed_if w kept = if kept && w.removing then w.removed + 1 else w.removed

abbrev pub received_if : World → Bool → List (List ℕ)
received_if w kept = kept_with kept (taking_of w) w.received

-- the disks stand for the world with each unfinished call kept or not
pub record Stand (row : SessionRow) (w : World) (stored removed taken : Bool) (low high recv : List ℕ) : Type 0 where
  pub low_stands : LowStands row (length (accepted_if w stored)) w.removed (drop w.removed (accepted_if w stored)) low
  pub high_stands : HighStands row (removed_if w removed) high
  pub recv_stands : RecvStands row (received_if w taken) recv

-- the row is the world's, its counts are in range, and the receiver's records end within the given size
pub record IsRow (row : SessionRow) (w : World) (size : ℕ) (recv : List ℕ) : Type 0 where
  pub capacity : row.capacity ≡ w.capacity
  pub message : row.message ≤ 1024
  pub session : row.id < 2 ^ 32
  pub count : length (accepted_if w true) ≤ 2 ^ 48
  pub room : (value_of recv).1 ≤ size

-- nothing is refused, neither of one disk nor where they are compared, and the counts found are these: E accepted, B
-- removed, R received
pub record OpensJointly (row : SessionRow) (size E B R : ℕ) (received : List (List ℕ)) (low high recv : List ℕ)
    : Type 0 where
  pub found : ((value_of low).0 ≡ E) × ((value_of high).0 ≡ B) × ((value_of recv).0 ≡ R)
  pub pump : refused_pump row low high ≡ None
  pub receiver : refused_receiver row size recv ≡ None
  pub order : (B ≤ R) × (R ≤ E)
  pub agree : SlotsAgree row B R received low
  pub never : (why : Why) → Disagrees row B R E received low why → ⊥

-- Disks of one lawful world, each with its unfinished call kept or not, are refused for nothing and agree.
abbrev pub EachTripleOpens : Type 0
EachTripleOpens = (row : SessionRow) (w : World) (size : ℕ) (stored removed taken : Bool) (low high recv : List ℕ)
    → IsLawful w → IsRow row w size recv → Stand row w stored removed taken low high recv
    → OpensJointly row size (length (accepted_if w stored)) (removed_if w removed) (length (received_if w taken))
    (received_if w taken) low high recv

-- three readings that stand for a lawful world of the row as it is; its counts and its records fit the disks
pub record StandForWorld (row : SessionRow) (w : World) (size : ℕ) (low high recv : List ℕ) : Type 0 where
  pub lawful : IsLawful w
  pub capacity : w.capacity ≡ row.capacity
  pub count : length w.accepted ≤ 2 ^ 48
  pub room : (value_of recv).1 ≤ size
  pub low_stands : LowStands row (length w.accepted) w.removed (drop w.removed w.accepted) low
  pub high_stands : HighStands row w.removed high
  pub recv_stands : RecvStands row w.received recv

-- Disks that stand for one lawful world are refused for nothing.
abbrev pub EachWorldOpens : Type 0
EachWorldOpens = (row : SessionRow) (w : World) (size : ℕ) (low high recv : List ℕ) → IsLawfulRow row → row.id < 2 ^ 32
    → StandForWorld row w size low high recv
    → OpensJointly row size (length w.accepted) w.removed (length w.received) w.received low high recv
