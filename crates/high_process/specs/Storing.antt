-- What a look does with the store.
use Rattle.std.specs.Prelude.{◌≡◌, ◌⊎◌, ℕ, ◌+◌, ◌≤◌, true, false, List, Option, Some, None, Result, Err, OnOk, OnErr}
use Rattle.std.specs.Prelude.{IfErr}
use Rattle.disk_model.specs.Disk.{Meaning, Moves, Answers, Leaves}
use Rattle.stable_buffer.specs.High.{IsHighReady, high_disk, high_count, high_is_open, removal_end}
use Rattle.stable_buffer.specs.Stands.{HighStands, MayRemove, Removes}
use Rattle.stable_buffer.specs.declared.high.HighStore.{HighStore}
use Rattle.pump_frame.specs.declared.frame.Frame.{Frame}
use Rattle.pump_frame.specs.declared.frame.Kind.TheVariants.{Taken, Attach}
use Rattle.pump_frame.specs.declared.row.SessionRow.{SessionRow}
use Rattle.high_process.specs.declared.values.HighFault.{HighFault}
use Rattle.high_process.specs.declared.values.HighFault.TheVariants.{Device, Ahead, Behind}
use Rattle.high_process.specs.declared.values.Task.{Task}
use Rattle.high_process.specs.declared.values.Task.TheVariants.{Refuse, Remove, Keep}
use Rattle.high_process.specs.declared.process.HighProcess.{HighProcess}
use Rattle.high_process.specs.States.{row_of, removed_of, hand_of, published_of, last_of, is_down}

-- one message more is removed, or the device failed: a crash at any moment leaves the count from
-- before, or one more; a store that failed is no longer open
pub record Removing {D T : Type 0} (m : Meaning D) (old new : HighStore D) (result : Result T HighFault) : Type 0 where
  pub moves : Moves m MayRemove (high_disk old) (high_disk new)
  pub removed : OnOk result (m.tells → Removes (m.reading (high_disk old)) (m.reading (high_disk new)))
  pub ready : OnOk result (IsHighReady m new)
  pub count : OnOk result (high_count new ≡ high_count old + 1)
  pub closed : OnErr result (high_is_open new ≡ false)
  pub answers : Answers m (removal_end old ≤ m.room (high_disk old)) (high_disk old) (high_disk new) result
  pub fault : IfErr result (λ e. e ≡ Device (m.count (high_disk new)))

-- what becomes of the process and its store, by what the frame asks: a refusal changes neither, and
-- the disk is called for a removal alone, after whose fault the process is down
abbrev pub Fares : {D T : Type 0} → Meaning D → Task → HighProcess → HighProcess → HighStore D → HighStore D
    → Result T HighFault → Type 0
Fares m (Refuse e) p q old new result = (result ≡ Err e) × (q ≡ p) × (new ≡ old)
Fares m Keep p q old new result = OnErr result ⊥ × (new ≡ old)
Fares m Remove p q old new result = Removing m old new result × OnErr result (is_down q ≡ true)

-- a receiver of the session has the message with this number: a TAKEN of it, or an ATTACH that counts it last
abbrev pub GivenBack : ℕ → ℕ → Option Frame → Type 0
GivenBack session removed None = ⊥
GivenBack session removed (Some f) = (f.session ≡ session) × (((f.kind ≡ Taken) × (f.number ≡ removed))
    ⊎ ((f.kind ≡ Attach) × (f.number ≡ removed + 1)))

-- a disk stands for this count, or for one more where a receiver has the message
abbrev pub StandsOrRemoved : SessionRow → ℕ → ℕ → Option Frame → List ℕ → Type 0
StandsOrRemoved row session removed frame disk = HighStands row removed disk ⊎ (GivenBack session removed frame
    × HighStands row (removed + 1) disk)

-- where the disk stood for the process's count, a crash at any moment since leaves what stands for it, or
-- for one more where a receiver has the message
abbrev pub LeavesCounted : {D : Type 0} → Meaning D → HighProcess → HighStore D → HighStore D → Option Frame → Type 0
LeavesCounted m p old new frame =
    (row : SessionRow) → (m.tells → HighStands row (removed_of p) (m.reading (high_disk old)))
    → Leaves m (high_disk old) (high_disk new) (StandsOrRemoved row (row_of p).id (removed_of p) frame)

-- what a fault leaves of the process: a refused frame changes nothing; after a device fault in a removal
-- it is down, its count, its hand and the times published are as before, and the look was made
pub record IsBroken (p q : HighProcess) (m : ℕ) : Type 0 where
  pub down : is_down q ≡ true
  pub removed : removed_of q ≡ removed_of p
  pub hand : hand_of q ≡ hand_of p
  pub published : published_of q ≡ published_of p
  pub last : last_of q ≡ m

abbrev pub IsAfter : HighFault → HighProcess → HighProcess → ℕ → Type 0
IsAfter (Device faults) p q m = IsBroken p q m
IsAfter (Ahead number next) p q m = q ≡ p
IsAfter (Behind count removed) p q m = q ≡ p
