-- Moving the disks of a session to three new ones, for another row.
use Rattle.std.specs.Prelude.{◌≡◌, ◌⊎◌, ℕ, ◌++◌, IfErr, take, ◌+◌, ◌-◌, ◌<◌, ◌≤◌, ◌&&◌, nat_lt, not, if◌then◌else◌}
use Rattle.std.specs.Prelude.{Bool, true, false, List, [], ◌∷◌, length, drop, Option, Some, None, Result, Ok, Err}
use Rattle.pump_frame.specs.Counts.{Rose}
use Rattle.pump_frame.specs.declared.row.SessionRow.{SessionRow}
use Rattle.disk_model.specs.Disk.{Meaning, Moves, Same, Leaves}
use Rattle.disk_model.specs.DiskNames.{same_role}
use Rattle.disk_model.specs.declared.name.Role.{Role}
use Rattle.disk_model.specs.declared.name.Role.TheVariants.{Low, High, Recv}
use Rattle.stable_buffer.specs.Register.{value_of}
use Rattle.stable_buffer.specs.Format.{bare_bytes}
use Rattle.stable_buffer.specs.Stands.{LowStands, HighStands, slot_of, spelled}
use Rattle.stable_buffer.specs.Log.{RecvStands, log_of}
use Rattle.stable_buffer.specs.Making.{IsNoneOr}
use Rattle.recovery.specs.Agreement.{Disagrees, SlotsAgree}
use Rattle.recovery.specs.Calls.{is_device}
use Rattle.recovery.specs.Refusals.{or_else, told_of, refused_pump, refused_receiver}
use Rattle.recovery.specs.declared.why.Why.{Why}
use Rattle.recovery.specs.declared.why.Why.TheVariants.{NotEmpty, Small, TooLong}
use Rattle.recovery.specs.declared.trio.Trio.{Trio}
use Rattle.recovery.specs.declared.trio.MoveFault.{MoveFault}

-- ---- what three disks stand for ----

-- E messages were accepted and B of them removed, the rest are these, and high's receiver has those
pub record StandFor (row : SessionRow) (E B : ℕ) (live received : List (List ℕ)) (low high recv : List ℕ) : Type 0 where
  pub low_stands : LowStands row E B live low
  pub high_stands : HighStands row B high
  pub recv_stands : RecvStands row received recv

-- .. and nothing is refused of them
pub record AreFound (row : SessionRow) (size E B : ℕ) (live received : List (List ℕ)) (low high recv : List ℕ) : Type 0
  where
    pub stand : StandFor row E B live received low high recv
    pub pump : refused_pump row low high ≡ None
    pub receiver : refused_receiver row size recv ≡ None
    pub order : (B ≤ length received) × (length received ≤ E)
    pub agree : SlotsAgree row B (length received) received low

-- ---- the new disks, byte by byte ----

-- a disk with a message in its slot
abbrev pub with_message : SessionRow → ℕ → List ℕ → List ℕ → List ℕ
with_message row n message disk = take (slot_of row n) disk ++ spelled message ++ drop
    (slot_of row n + length (spelled message)) disk

-- .. with these messages, numbered from n on, in their slots
abbrev pub with_messages : SessionRow → ℕ → List (List ℕ) → List ℕ → List ℕ
with_messages row n [] disk = disk
with_messages row n (message ∷ messages) disk = with_messages row (n + 1) messages (with_message row n message disk)

-- low's new disk: a header of the newest version, these messages in their slots, and zeros wherever none stands
abbrev pub low_bytes : SessionRow → ℕ → ℕ → List (List ℕ) → List ℕ
low_bytes row E B live = with_messages row B live (bare_bytes row Low E 0)

-- high's: such a header
abbrev pub high_bytes : SessionRow → ℕ → List ℕ
high_bytes row B = bare_bytes row High B 0

-- the receiver's: such a header, the records of the old disk as they stand there, and nothing behind them
abbrev pub recv_bytes : SessionRow → ℕ → List ℕ → List ℕ
recv_bytes row R old = bare_bytes row Recv R (value_of old).1 ++ log_of (value_of old).1 old

-- the three
pub record AreWritten (row : SessionRow) (E B R : ℕ) (live : List (List ℕ)) (old_recv low high recv : List ℕ) : Type 0
  where
    pub low_is : low ≡ low_bytes row E B live
    pub high_is : high ≡ high_bytes row B
    pub recv_is : recv ≡ recv_bytes row R old_recv

-- ---- the order of refusals ----

-- the old disks: the first cause of the two of the pump, else of the receiver's alone, else of the receiver's beside
-- low's
abbrev pub AreRefused : SessionRow → ℕ → List ℕ → List ℕ → List ℕ → Role → Why → Type 0
AreRefused row size low high recv role why =
    (refused_pump row low high ≡ Some (role, why))
    ⊎ ((refused_pump row low high ≡ None) × (role ≡ Recv)
    × ((refused_receiver row size recv ≡ Some why)
    ⊎ ((refused_receiver row size recv ≡ None)
    × ((messages : List (List ℕ)) → RecvStands row messages recv
    → Disagrees row (value_of high).0 (value_of recv).0 (value_of low).0 messages low why))))

-- a new disk that isn't empty
abbrev pub full : Role → List ℕ → Option (Role × Why)
full role [] = None
full role (byte ∷ bytes) = Some (role, NotEmpty (length (byte ∷ bytes)))

-- more messages than the new row has places for
abbrev pub small : SessionRow → ℕ → Option Why
small to held = if nat_lt to.capacity held then Some (Small held to.capacity) else None

-- the first message, numbered from n on, that is longer than the new row lets it be
abbrev pub too_long : SessionRow → ℕ → List (List ℕ) → Option Why
too_long to n [] = None
too_long to n (m ∷ ms) = if nat_lt to.message (length m) then Some (TooLong n (length m)) else too_long to (n + 1) ms

-- a cause with the disk that has it, one of the new or of the old
abbrev pub fault_of : Bool → Option (Role × Why) → Option MoveFault
fault_of new None = None
fault_of new (Some told) = Some (record { new = new; role = told.0; why = told.1 })

-- of the new disks' sizes, the first that isn't 0
abbrev pub first_full : List ℕ → List ℕ → List ℕ → Option MoveFault
first_full low high recv = fault_of true (or_else (full Low low) (or_else (full High high) (full Recv recv)))

-- Old disks stand for this: what doesn't fit the new row. The receiver has the first messages; the others are low's.
abbrev pub first_unfit : SessionRow → ℕ → List (List ℕ) → List (List ℕ) → Option MoveFault
first_unfit to B live received =
    or_else (fault_of false (told_of Low (small to (length live))))
    (or_else (fault_of false (told_of Recv (too_long to 0 received)))
    (fault_of false (told_of Low (too_long to (length received) (drop (length received - B) live)))))

-- The first cause: of the old disks, else of the new ones, else of what doesn't fit.
abbrev pub IsMoveRefused : SessionRow → SessionRow → ℕ → List ℕ → List ℕ → List ℕ → List ℕ → List ℕ → List ℕ → MoveFault
    → Type 0
IsMoveRefused from to size low high recv new_low new_high new_recv fault =
    ((fault.new ≡ false) × AreRefused from size low high recv fault.role fault.why)
    ⊎ ((E B : ℕ) × (live received : List (List ℕ)) × AreFound from size E B live received low high recv
    × (or_else (first_full new_low new_high new_recv) (first_unfit to B live received) ≡ Some fault))

-- ---- the disks after it ----

-- the fault is that a call of this disk failed
abbrev pub is_blamed : {T : Type 0} → Bool → Role → Result T MoveFault → Bool
is_blamed new role (Ok value) = false
is_blamed true role (Err fault) = fault.new && same_role fault.role role && is_device fault.why
is_blamed false role (Err fault) = not fault.new && same_role fault.role role && is_device fault.why

-- its count of failures never falls, and rose where it failed
pub record Counted {D : Type 0} (m : Meaning D) (old now : D) (failed : Bool) : Type 0 where
  pub counts : m.count old ≤ m.count now
  pub rose : failed ≡ true → Rose (m.count old) (m.count now)

-- An old disk is never written.
pub record IsKept {D : Type 0} (m : Meaning D) (old now : D) (failed : Bool) : Type 0 where
  pub moves : Moves m Same old now
  pub counted : Counted m old now failed

-- Where a new disk was empty, and a crash before would have left fewer than 80 bytes of it, a crash at any moment
-- since leaves no buffer or one that stands for just this.
abbrev pub IsMade : {D : Type 0} → Meaning D → (List ℕ → Type 0) → D → D → Type 0
IsMade m Stands old now = (m.reading old ≡ []) → ((c : List ℕ) → m.images old c → length c < 80)
    → Leaves m old now (IsNoneOr Stands)

-- The new disks are written in turn, low's, high's and the receiver's. One is written only where those before it are
-- whole, and none after the one at which a fault ended it.
pub record AreWrittenInTurn {D T : Type 0} (m : Meaning D) (low_is high_is : List ℕ) (old now : Trio D)
    (result : Result T MoveFault) : Type 0 where
  pub at_low : IfErr result (λ f. f.role ≡ Low → Moves m Same old.high now.high × Moves m Same old.recv now.recv)
  pub at_high : IfErr result (λ f. f.role ≡ High → Moves m Same old.recv now.recv)
  pub high : m.tells → Moves m Same old.high now.high ⊎ (m.reading now.low ≡ low_is)
  pub recv : m.tells → Moves m Same old.recv now.recv ⊎ ((m.reading now.low ≡ low_is) × (m.reading now.high ≡ high_is))

-- the disk that a fault is of
abbrev pub disk_of : {D : Type 0} → Trio D → Role → D
disk_of trio Low = trio.low
disk_of trio High = trio.high
disk_of trio Recv = trio.recv

abbrev pub disk_at : {D : Type 0} → Trio D → Trio D → Bool → Role → D
disk_at old new true role = disk_of new role
disk_at old new false role = disk_of old role
