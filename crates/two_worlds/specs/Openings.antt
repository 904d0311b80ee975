-- What an opening of a pump does with its three disks.
use Rattle.std.specs.Prelude.{◌≡◌, ◌⊎◌, ℕ, Bool, true, false, ◌&&◌, List, [], ◌∷◌, length, drop, Option, Some, None}
use Rattle.std.specs.Prelude.{IfSome}
use Rattle.disk_model.specs.Disk.{Meaning, Moves, Same}
use Rattle.disk_model.specs.declared.name.Role.{Role}
use Rattle.disk_model.specs.declared.name.Role.TheVariants as roles
use Rattle.pump_frame.specs.declared.row.SessionRow.{SessionRow}
use Rattle.stable_buffer.specs.Format.{new_bytes, size_of, receiver_size}
use Rattle.stable_buffer.specs.Log.{RecvStands}
use Rattle.stable_buffer.specs.Register.{value_of}
use Rattle.stable_buffer.specs.Stands.{LowStands, HighStands}
use Rattle.recovery.specs.Agreement.{Disagrees}
use Rattle.recovery.specs.Calls.{is_device}
use Rattle.recovery.specs.Refusals.{refused_pump, refused_receiver}
use Rattle.recovery.specs.declared.why.Why.{Why}
use Rattle.recovery.specs.declared.why.Why.TheVariants.{Device}
use Rattle.script_reader.specs.Openings.{Found, CanOpen, accepted_in}
use Rattle.two_worlds.specs.Rooms.{Serves, is_role}
use Rattle.two_worlds.specs.declared.not_open.NotOpen.{NotOpen}

-- ---- what the disks stand for ----

-- what is read of a disk once it is formatted where it is empty
abbrev pub readied : SessionRow → Role → List ℕ → List ℕ
readied row role [] = new_bytes row role 0
readied row role (byte ∷ bytes) = byte ∷ bytes

-- three readings stand for this, and a session of the row can begin on it
pub record StandForFound (row : SessionRow) (f : Found) (low high recv : List ℕ) : Type 0 where
  pub can_open : CanOpen row f
  pub low_is : LowStands row (length (accepted_in f)) f.removed (drop f.removed (accepted_in f)) low
  pub high_is : HighStands row f.removed high
  pub recv_is : RecvStands row f.received recv

-- the three disks, each formatted where it is empty, stand for this
abbrev pub DisksStandFor : {D : Type 0} → Meaning D → SessionRow → D → D → D → Found → Type 0
DisksStandFor m row low high recv f = StandForFound row f (readied row roles.Low (m.reading low))
    (readied row roles.High (m.reading high)) (readied row roles.Recv (m.reading recv))

-- ---- why they are refused ----

-- the receiver's messages are otherwise than low's, and this is the cause
abbrev pub DiffersFor : SessionRow → List ℕ → List ℕ → List ℕ → Why → Type 0
DiffersFor row low high recv why = (messages : List (List ℕ)) → RecvStands row messages recv
    → Disagrees row (value_of high).0 (value_of recv).0 (value_of low).0 messages low why

-- the first cause for which three readings are refused: of the two of the pump, else of the receiver's
-- alone, else of the receiver's beside low's
abbrev pub IsRefused : SessionRow → List ℕ → List ℕ → List ℕ → Role → Why → Type 0
IsRefused row low high recv role why =
    (refused_pump row low high ≡ Some (role, why))
    ⊎ ((refused_pump row low high ≡ None) × (role ≡ roles.Recv)
    × ((refused_receiver row receiver_size recv ≡ Some why)
    ⊎ ((refused_receiver row receiver_size recv ≡ None) × DiffersFor row low high recv why)))

-- ---- the disks after it ----

-- a disk that is as it was; or it was empty, and unless its own call failed it is a new one
abbrev pub IsLeft : {D : Type 0} → Meaning D → SessionRow → Role → D → D → Bool → Type 0
IsLeft m row role old new is_fault =
    Moves m Same old new
    ⊎ (m.tells → (m.reading old ≡ []) × (is_fault ≡ false → m.reading new ≡ new_bytes row role 0))

-- no call of the disk was made, or calls were made of which one failed or none; they fit where it has
-- room for its format
pub record LeavesDisk {D : Type 0} (m : Meaning D) (row : SessionRow) (role : Role) (old new : D) (is_fault : Bool) :
    Type 0 where
  pub serves : Serves m (size_of row role) old new is_fault
  pub left : IsLeft m row role old new is_fault

-- the disk of a role that comes back
abbrev pub disk_back : {D : Type 0} → Role → NotOpen D → D
disk_back roles.Low e = e.low
disk_back roles.High e = e.high
disk_back roles.Recv e = e.recv

-- a call of a disk is the cause
abbrev pub is_for_device : Option Why → Bool
is_for_device None = false
is_for_device (Some why) = is_device why

-- a call of this role's disk failed
abbrev pub failed_at : {D : Type 0} → Role → NotOpen D → Bool
failed_at role e = is_for_device e.why && is_role role e.role

-- The disks that come back. A call of one of them failed; or they are refused for the first cause that
-- there is; or memory was wanting, and none was called.
pub record ComeBack {D : Type 0} (m : Meaning D) (row : SessionRow) (low high recv : D) (e : NotOpen D) : Type 0 where
  pub low_disk : LeavesDisk m row roles.Low low e.low (failed_at roles.Low e)
  pub high_disk : LeavesDisk m row roles.High high e.high (failed_at roles.High e)
  pub recv_disk : LeavesDisk m row roles.Recv recv e.recv (failed_at roles.Recv e)
  pub counted : IfSome e.why (λ why. is_device why ≡ true → why ≡ Device (m.count (disk_back e.role e)))
  pub refused : IfSome e.why (λ why. is_device why ≡ false → m.tells
      → IsRefused row (readied row roles.Low (m.reading low))
      (readied row roles.High (m.reading high)) (readied row roles.Recv (m.reading recv)) e.role why)
  pub memory : e.why ≡ None → (e.role ≡ roles.Low) × (e.low ≡ low) × (e.high ≡ high) × (e.recv ≡ recv)
