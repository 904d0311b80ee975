-- What a comparison reads of two pumps, and why it ends.
use Rattle.std.specs.Prelude.{◌≡◌, ◌⊎◌, ℕ, List, Option, Some, None}
use Rattle.disk_model.specs.Disk.{Meaning, Moves, Same}
use Rattle.disk_model.specs.declared.name.Role.{Role}
use Rattle.disk_model.specs.declared.name.Role.TheVariants as roles
use Rattle.pump_frame.specs.declared.payload.Payload.{Payload}
use Rattle.recovery.specs.declared.why.Why.TheVariants.{Device}
use Rattle.two_worlds.specs.declared.pump.Pump.{Pump}
use Rattle.two_worlds.specs.Pumps.{disk_at, row_of}
use Rattle.two_worlds.specs.Reads.{ReadsOn, FailsReading}
use Rattle.two_worlds.specs.Rooms.{Serves}
use Rattle.pump_chain.specs.Comparing.{DifferAt}
use Rattle.pump_chain.specs.Opening.{is_failed}
use Rattle.pump_chain.specs.declared.not_chained.ChainWhy.{ChainWhy}
use Rattle.pump_chain.specs.declared.not_chained.ChainWhy.TheVariants as reasons

-- from a number on this message is the first one that differs, or a disk failed
abbrev pub IsUnlike : ℕ → List Payload → List Payload → ChainWhy → Type 0
IsUnlike from accepted received (reasons.Unlike number) = DifferAt from number accepted received
IsUnlike from accepted received why = Unit {0}

-- of the first pump the receiver's disk was read, and of the second one that of this role; one of them failed and is
-- the cause, or none did
abbrev pub EndsReading : {D : Type 0} {g : _} → Meaning D → Role → Pump D g → Pump D g → Pump D g → Pump D g → ChainWhy
    → Type 0
EndsReading m other first first_now second second_now reasons.Memory = ⊥
EndsReading m other first first_now second second_now (reasons.Pump session role why) =
    ((session ≡ (row_of first).id) × (role ≡ roles.Recv) × FailsReading m roles.Recv first first_now
    × ReadsOn m other second second_now
    × (why ≡ Device (m.count (disk_at roles.Recv first_now))))
    ⊎ ((session ≡ (row_of second).id) × (role ≡ other) × ReadsOn m roles.Recv first first_now
    × FailsReading m other second second_now
    × (why ≡ Device (m.count (disk_at other second_now))))
EndsReading m other first first_now second second_now (reasons.Link count bound) = ⊥
EndsReading m other first first_now second second_now (reasons.Unlike number) = ReadsOn m roles.Recv first first_now
    × ReadsOn m other second second_now

-- no byte of a disk of the pump was changed; a call of one failed, or none did
pub record IsRead {D : Type 0} {g : _} (m : Meaning D) (s t : Pump D g) (failed : Option Role) : Type 0 where
  pub row : row_of t ≡ row_of s
  pub same : (role : Role) → Moves m Same (disk_at role s) (disk_at role t)
  pub serves : (role : Role) → Serves m 0 (disk_at role s) (disk_at role t) (is_failed role failed)

-- so of two pumps; a disk that failed is the cause
abbrev pub AreRead : {D : Type 0} {g : _} → Meaning D → Pump D g → Pump D g → Pump D g → Pump D g → ChainWhy → Type 0
AreRead m first first_now second second_now reasons.Memory = ⊥
AreRead m first first_now second second_now (reasons.Pump session role why) =
    ((session ≡ (row_of first).id) × (role ≡ roles.Recv) × IsRead m first first_now (Some role)
    × IsRead m second second_now None
    × (why ≡ Device (m.count (disk_at role first_now))))
    ⊎ ((session ≡ (row_of second).id) × ((role ≡ roles.Low) ⊎ (role ≡ roles.Recv)) × IsRead m first first_now None
    × IsRead m second second_now (Some role)
    × (why ≡ Device (m.count (disk_at role second_now))))
AreRead m first first_now second second_now why = IsRead m first first_now None × IsRead m second second_now None
