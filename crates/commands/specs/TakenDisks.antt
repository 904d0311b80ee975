-- What a command does with the three disks of a session that are off the shelf. It serves the private functions and the
-- proofs. `d` is what the disks tell.
use Rattle.std.specs.Prelude.{◌≡◌, ◌≤◌, ℕ, List, [], length, Some}
use Rattle.disk_model.specs.Disk.{Meaning}
use Rattle.disk_model.specs.declared.name.Role.{Role}
use Rattle.disk_model.specs.declared.name.Role.TheVariants as roles
use Rattle.pump_frame.specs.Counts.{Rose}
use Rattle.recovery.specs.declared.why.Why.TheVariants.{NotEmpty}
use Rattle.commands.specs.Formatting.{first_full}
use Rattle.command_ends.specs.declared.command_end.CommandEnd.{CommandEnd}
use Rattle.command_ends.specs.declared.command_end.CommandEnd.TheVariants.{Failed, Refused}
use Rattle.script_replay.specs.Lending.{ReadAt, IsOutAt, RisesAt}
use Rattle.script_replay.specs.Shelves.{Places}
use Rattle.recovery.specs.declared.trio.Trio.{Trio}

-- ---- each of the three ----

abbrev pub IsEach : {D : Type 0} → (Role → D → Type 0) → Trio D → Type 0
IsEach Holds disks = Holds roles.Low disks.low × Holds roles.High disks.high × Holds roles.Recv disks.recv

abbrev pub GoesEach : {D : Type 0} → (D → D → Type 0) → Trio D → Trio D → Type 0
GoesEach Goes old new = Goes old.low new.low × Goes old.high new.high × Goes old.recv new.recv

abbrev pub HasBytes : {D : Type 0} → Meaning D → (Role → List ℕ) → Trio D → Type 0
HasBytes d bytes disks = d.tells → IsEach (λ role disk. d.reading disk ≡ bytes role) disks

-- none has failed less often
abbrev pub CountOn : {D : Type 0} → Meaning D → Trio D → Trio D → Type 0
CountOn d = GoesEach (λ old new. d.count old ≤ d.count new)

-- each reads as it did; or does if it was not empty
abbrev pub ReadOn : {D : Type 0} → Meaning D → Trio D → Trio D → Type 0
ReadOn d old new = d.tells → GoesEach (λ a b. d.reading b ≡ d.reading a) old new

abbrev pub SpareOn : {D : Type 0} → Meaning D → Trio D → Trio D → Type 0
SpareOn d old new = d.tells → GoesEach (λ a b. (d.reading a ≡ [] → ⊥) → d.reading b ≡ d.reading a) old new

-- the disk of this role failed
abbrev pub RoseAt : {D : Type 0} → Meaning D → Role → Trio D → Trio D → Type 0
RoseAt d roles.Low old new = Rose (d.count old.low) (d.count new.low)
RoseAt d roles.High old new = Rose (d.count old.high) (d.count new.high)
RoseAt d roles.Recv old new = Rose (d.count old.recv) (d.count new.recv)

-- ---- on the shelf and off it ----

-- each was there to be taken, and reads what was read there; it is off the shelf; and where its count rose, so does
-- the shelf's
abbrev pub AreReadAt : {D : Type 0} → Meaning D → Places → ℕ → Trio D → Type 0
AreReadAt d places session disks = IsEach (λ role disk. ReadAt places session role (d.reading disk)) disks

abbrev pub AreOutAt : {D : Type 0} → Meaning D → Places → ℕ → Trio D → Type 0
AreOutAt d places session disks = IsEach (λ role disk. IsOutAt places session role (d.count disk)) disks

abbrev pub RiseAt : {D : Type 0} → Meaning D → Places → ℕ → ℕ → ℕ → Trio D → Type 0
RiseAt d places session before now disks = IsEach (λ role disk. RisesAt places session role (d.count disk) before now)
    disks

-- ---- formatting ----

-- the disk of this role failed, or is not empty
abbrev pub IsNotEmpty : {D : Type 0} → Meaning D → Role → D → D → CommandEnd → Type 0
IsNotEmpty d role old new (Failed other) = (other ≡ role) × Rose (d.count old) (d.count new)
IsNotEmpty d role old new (Refused other why) = (other ≡ role) × (d.tells → (d.reading old ≡ [] → ⊥)
    × (why ≡ NotEmpty (length (d.reading old))))
IsNotEmpty d role old new end = ⊥

-- one of the three did, or this is the first that is not empty
abbrev pub AreNotEmpty : {D : Type 0} → Meaning D → Trio D → Trio D → CommandEnd → Type 0
AreNotEmpty d old new (Failed role) = RoseAt d role old new
AreNotEmpty d old new (Refused role why) = d.tells
    → first_full (d.reading old.low) (d.reading old.high) (d.reading old.recv) ≡ Some (role, why)
AreNotEmpty d old new end = ⊥

-- one failed
abbrev pub FailsAmong : {D : Type 0} → Meaning D → Trio D → Trio D → CommandEnd → Type 0
FailsAmong d old new (Failed role) = RoseAt d role old new
FailsAmong d old new end = ⊥

-- they were not formatted
abbrev pub StopsFormat : {D : Type 0} → Meaning D → Trio D → Trio D → CommandEnd → Type 0
StopsFormat d old new (Failed role) = RoseAt d role old new × SpareOn d old new
StopsFormat d old new (Refused role why) = AreNotEmpty d old new (Refused role why) × ReadOn d old new
StopsFormat d old new end = ⊥
