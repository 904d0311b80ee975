-- What the three disks of a session stand for, by its world.
use Rattle.std.specs.Prelude.{◌≡◌, ◌⊎◌, ℕ, ◌+◌, ◌^◌, ◌≤◌, Bool, true, List, [], ◌∷◌, ◌++◌, length, drop, Some}
use Rattle.disk_model.specs.Disk.{Meaning, Each, Leaves}
use Rattle.pump_frame.specs.declared.payload.Payload.{Payload}
use Rattle.pump_frame.specs.declared.row.SessionRow.{SessionRow}
use Rattle.stable_buffer.specs.Register.{value_of}
use Rattle.stable_buffer.specs.Stands.{LowStands, HighStands}
use Rattle.stable_buffer.specs.Log.{RecvStands}
use Rattle.pump_core.specs.World.{World}
use Rattle.pump_core.specs.Events.{with_kept, pump_crashed, receiver_crashed}
use Rattle.pump_core.specs.Lawful.{IsLawful}
use Rattle.recovery.specs.Joint.{OpensJointly as IsFound}
use Rattle.script_reader.specs.Highs.{log_end, receiver_size}

-- the accepted messages that are not removed
abbrev pub live_messages : World → List Payload
live_messages w = drop w.removed w.accepted

-- a low disk stands for the live messages, or where a store is unfinished for that one too
abbrev pub LowFits : SessionRow → World → List ℕ → Type 0
LowFits row w disk =
    LowStands row (length w.accepted) w.removed (live_messages w) disk
    ⊎ ((p : Payload) × (w.storing ≡ Some p)
    × LowStands row (length w.accepted + 1) w.removed (live_messages w ++ p ∷ []) disk)

-- a high disk stands for the number removed, or where a removal is unfinished for one more
abbrev pub HighFits : SessionRow → World → List ℕ → Type 0
HighFits row w disk =
    HighStands row w.removed disk ⊎ ((w.removing ≡ true) × HighStands row (w.removed + 1) disk)

-- a receiver's disk stands for its list, or where a taking is unfinished for that message too
abbrev pub RecvFits : SessionRow → World → List ℕ → Type 0
RecvFits row w disk =
    RecvStands row w.received disk
    ⊎ ((p : Payload) × (w.packet ≡ Some p) × (w.taking ≡ true)
    × RecvStands row (w.received ++ p ∷ []) disk)

-- what is read of each disk, and what a crash may leave of it, stand for what the world has: a call
-- that is unfinished was kept or not
pub record DisksFit {D : Type 0} (m : Meaning D) (row : SessionRow) (low high recv : D) (w : World) : Type 0 where
  pub low_disk : Each m (LowFits row w) low
  pub high_disk : Each m (HighFits row w) high
  pub recv_disk : Each m (RecvFits row w) recv

-- the disks hold some lawful world, in which a call may be unfinished
pub record Hold {D : Type 0} (m : Meaning D) (row : SessionRow) (low high recv : D) : Type 0 where
  pub world : World
  pub lawful : IsLawful world
  pub disks : DisksFit m row low high recv world

-- three readings that stand for one lawful world in which nothing is unfinished: no message that was
-- accepted is lost, and the receiver has a prefix of them
pub record DisksOpen (row : SessionRow) (low high recv : List ℕ) : Type 0 where
  pub world : World
  pub lawful : IsLawful world
  pub low_is : LowStands row (length world.accepted) world.removed (live_messages world) low
  pub high_is : HighStands row world.removed high
  pub recv_is : RecvStands row world.received recv

-- whatever crashes leave of the three disks opens
abbrev pub CrashesOpen : {D : Type 0} → Meaning D → SessionRow → D → D → D → Type 0
CrashesOpen m row low high recv = m.tells_images → (a b c : List ℕ)
    → m.images low a → m.images high b → m.images recv c → DisksOpen row a b c

-- ---- the disks that are handed back ----

-- the world is one of the row, and its counts and its records fit the disks, also where a crash keeps
-- each unfinished message
pub record FitsRow (row : SessionRow) (w : World) : Type 0 where
  pub capacity : w.capacity ≡ row.capacity
  pub count : length (with_kept true w.storing w.accepted) ≤ 2 ^ 48
  pub end : log_end (with_kept w.taking w.packet w.received) ≤ receiver_size

-- the world after a crash of the pump and of the receiver, which kept or lost an unfinished store, an
-- unfinished removal and an unfinished taking
abbrev pub crashed : World → Bool → Bool → Bool → World
crashed w stored removed taken = receiver_crashed (pump_crashed w (Some (stored, removed))) (Some taken)

-- three readings stand for a lawful world of the row, and its counts and its records fit the disks
pub record StandFor (row : SessionRow) (w : World) (low high recv : List ℕ) : Type 0 where
  pub lawful : IsLawful w
  pub capacity : w.capacity ≡ row.capacity
  pub count : length w.accepted ≤ 2 ^ 48
  pub end : log_end w.received ≤ receiver_size
  pub low_is : LowStands row (length w.accepted) w.removed (live_messages w) low
  pub high_is : HighStands row w.removed high
  pub recv_is : RecvStands row w.received recv

-- .. for this world after a crash: each call that is unfinished was kept or lost, whatever became of the
-- calls of the other disks
abbrev pub StandForLeft : SessionRow → World → List ℕ → List ℕ → List ℕ → Type 0
StandForLeft row w low high recv =
    (stored : Bool) × (removed : Bool) × (taken : Bool) × StandFor row (crashed w stored removed taken) low high recv

-- three readings are refused for nothing, neither by the openings nor where the receiver's list is compared
-- with low's, and the counts found are those of this world
abbrev pub AreFound : SessionRow → World → List ℕ → List ℕ → List ℕ → Type 0
AreFound row w low high recv =
    IsFound row receiver_size (length w.accepted) w.removed (length w.received) w.received low high recv

-- .. of this world after a crash, for which they stand: each call that is unfinished was kept or lost
abbrev pub AreFoundAgain : SessionRow → World → List ℕ → List ℕ → List ℕ → Type 0
AreFoundAgain row w low high recv =
    (stored : Bool) × (removed : Bool) × (taken : Bool)
    × StandFor row (crashed w stored removed taken) low high recv
    × AreFound row (crashed w stored removed taken) low high recv

-- whatever crashes leave of each of three disks is found again
abbrev pub OpenAgain : {D : Type 0} → Meaning D → SessionRow → World → D → D → D → Type 0
OpenAgain m row w low high recv = m.tells_images → (a b c : List ℕ)
    → m.images low a → m.images high b → m.images recv c → AreFoundAgain row w a b c

-- what is read of three disks, and whatever crashes leave of each of them, stands for what a crash leaves
-- of this world
pub record LeaveWorld {D : Type 0} (m : Meaning D) (row : SessionRow) (w : World) (low high recv : D) : Type 0 where
  pub readings : m.tells → StandForLeft row w (m.reading low) (m.reading high) (m.reading recv)
  pub crashes : m.tells_images → (a b c : List ℕ)
      → m.images low a → m.images high b → m.images recv c → StandForLeft row w a b c

-- no crash since the high disk was `old` leaves more removed than any crash leaves taken
abbrev pub RemovesBehind : {D : Type 0} → Meaning D → D → D → D → Type 0
RemovesBehind m old new recv = Leaves m old new (λ b. (c : List ℕ) → m.images recv c
    → (value_of b).0 ≤ (value_of c).0)
