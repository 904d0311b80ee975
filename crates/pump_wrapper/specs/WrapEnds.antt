-- How the sending of a file ends, and what the session's disks stand for then.
use Rattle.std.specs.Prelude.{◌≡◌, ◌≢◌, ◌⊎◌, ℕ, ◌+◌, ◌^◌, ◌<◌, ◌≤◌, true, false, List, [], ◌++◌, length, take, Option}
use Rattle.std.specs.Prelude.{None, Some, Result, Ok}
use Rattle.std.specs.Io.KnownBytes.{Consumes}
use Rattle.disk_model.specs.Disk.{Meaning}
use Rattle.disk_model.specs.declared.name.Role.{Role}
use Rattle.disk_model.specs.declared.name.Role.TheVariants as roles
use Rattle.pump_frame.specs.Counts.{Rose}
use Rattle.pump_frame.specs.declared.payload.Payload.{Payload}
use Rattle.pump_frame.specs.declared.row.SessionRow.{SessionRow}
use Rattle.recovery.specs.Calls.{is_device}
use Rattle.recovery.specs.Moves.{disk_of}
use Rattle.recovery.specs.Refusals.{refused_receiver}
use Rattle.recovery.specs.declared.trio.Trio.{Trio}
use Rattle.recovery.specs.declared.why.Why.{Why}
use Rattle.recovery.specs.declared.why.Why.TheVariants as whys
use Rattle.script_reader.specs.Highs.{receiver_size}
use Rattle.script_reader.specs.Openings.{Found, accepted_in}
use Rattle.stable_buffer.specs.Log.{RecvStands}
use Rattle.two_worlds.specs.Openings.{DisksStandFor, IsLeft, IsRefused, readied}
use Rattle.two_worlds.specs.declared.applied.Stop.{Stop}
use Rattle.two_worlds.specs.declared.applied.Stop.TheVariants as stops
use Rattle.pump_wrapper.specs.Comparing.{Begins, FirstDiffer}
use Rattle.pump_wrapper.specs.Crashes.{KeepsPrefix, LeavesPrefix}
use Rattle.pump_wrapper.specs.Cutting.{cut_bytes}
use Rattle.pump_wrapper.specs.Halting.{HasNoRoom}
use Rattle.pump_wrapper.specs.Wrapped.{wrapped}
use Rattle.pump_wrapper.specs.Wraps.{AreFirst, HasAll, is_long_in}
use Rattle.pump_wrapper.specs.declared.cutter.Cutter.{Cutter}
use Rattle.pump_wrapper.specs.declared.file_sender.WrapEnd.{WrapEnd}
use Rattle.pump_wrapper.specs.declared.file_sender.WrapEnd.TheVariants as ends

-- ---- causes ----

-- the count of failed calls of this role's disk rose, and is this now
abbrev pub HasFailed : {D : Type 0} → Meaning D → Role → ℕ → Trio D → Trio D → Type 0
HasFailed m role faults old new = (faults ≡ m.count (disk_of new role))
    × Rose (m.count (disk_of old role)) (m.count (disk_of new role))

-- a disk is the cause only where its count rose
abbrev pub HasDiskCause : {D : Type 0} → Meaning D → Trio D → Trio D → WrapEnd → Type 0
HasDiskCause m old new (ends.Refused role (whys.Device faults)) = HasFailed m role faults old new
HasDiskCause m old new (ends.Stopped (stops.Device role faults)) = HasFailed m role faults old new
HasDiskCause m old new end = Unit {0}

-- no disk's count fell
abbrev pub CountOn : {D : Type 0} → Meaning D → Trio D → Trio D → Type 0
CountOn m old new = (role : Role) → m.count (disk_of old role) ≤ m.count (disk_of new role)

-- ---- the bytes of the file ----

-- messages are the first ones of the file, where its bytes are told
abbrev pub BeginFile : SessionRow → Option (List ℕ) → List Payload → Type 0
BeginFile row None messages = Unit {0}
BeginFile row (Some file) messages = Begins messages (wrapped row.message file)

-- the first n messages are so, and the first n + 1 are not
abbrev pub DifferAt : SessionRow → Option (List ℕ) → List Payload → ℕ → Type 0
DifferAt row None messages n = Unit {0}
DifferAt row (Some file) messages n =
    (n < length messages) × Begins (take n messages) (wrapped row.message file)
    × (Begins (take (n + 1) messages) (wrapped row.message file) → ⊥)

-- ---- what the disks stand for ----

-- the receiver has all messages, and all are removed
pub record IsEmptied (f : Found) : Type 0 where
  pub later : f.later ≡ []
  pub removed : f.removed ≡ length f.received

-- a line that can be applied was stopped, by a disk's device or for want of room
abbrev pub IsStopped : Found → Stop → Type 0
IsStopped now stops.Line = ⊥
IsStopped now (stops.Device role faults) = Unit {0}
IsStopped now (stops.Full end size_of_message size) = HasNoRoom now end size_of_message size
IsStopped now (stops.Disk role why) = ⊥

-- disks of a session that had accepted these messages stand for this now, by the answer
abbrev pub EndsAt : SessionRow → Option (List ℕ) → List Payload → Found → WrapEnd → Type 0
EndsAt row left accepted now (ends.Done bytes messages) = IsEmptied now
EndsAt row left accepted now ends.Memory = accepted_in now ≡ accepted
EndsAt row left accepted now ends.Read = IsEmptied now
EndsAt row left accepted now ends.TooLong = IsEmptied now
EndsAt row left accepted now (ends.Differs number) = IsEmptied now × (accepted_in now ≡ accepted)
    × DifferAt row left accepted number
EndsAt row left accepted now (ends.Refused role why) = (is_device why ≡ true) × (accepted_in now ≡ accepted)
EndsAt row left accepted now (ends.Stopped stop) = IsStopped now stop

-- The disks stand for a session again. No message is lost or put before another, and where one was
-- added all are the first messages of the file.
pub record EndsOn {D : Type 0} (m : Meaning D) (row : SessionRow) (left : Option (List ℕ)) (accepted : List Payload)
    (end : WrapEnd) (disks : Trio D) : Type 0 where
  pub now : Found
  pub stand : DisksStandFor m row disks.low disks.high disks.recv now
  pub grows : Begins accepted (accepted_in now)
  pub sent : (accepted_in now ≡ accepted) ⊎ BeginFile row left (accepted_in now)
  pub ends : EndsAt row left accepted now end

-- The formatting of this role's disk, which was empty, failed, so that it may be half formatted. Nothing of the file
-- was read, of which these bytes were left before and after; and each of the other two disks is as it was, or was
-- empty and is new.
pub record FailsFormat {D : Type 0} (m : Meaning D) (row : SessionRow) (left rest : Option (List ℕ)) (old : Trio D)
    (end : WrapEnd) (new : Trio D) : Type 0 where
  pub role : Role
  pub faults : ℕ
  pub end_is : end ≡ ends.Refused role (whys.Device faults)
  pub empty : m.reading (disk_of old role) ≡ []
  pub unread : rest ≡ left
  pub others : (other : Role) → (other ≡ role → ⊥) → IsLeft m row other (disk_of old other) (disk_of new other) false

-- .. or the three stand for a session again
abbrev pub Ends : {D : Type 0} → Meaning D → SessionRow → Option (List ℕ) → Option (List ℕ) → List Payload → Trio D
    → WrapEnd → Trio D → Type 0
Ends m row left rest accepted old end new = FailsFormat m row left rest old end new ⊎ EndsOn m row left accepted end new

-- the three disks stand for this
abbrev pub Stand : {D : Type 0} → Meaning D → SessionRow → Trio D → Found → Type 0
Stand m row disks f = DisksStandFor m row disks.low disks.high disks.recv f

-- ---- a session that is refused ----

-- the disks are refused for the first cause, and none was changed but that an empty one was formatted
pub record AreRefused {D : Type 0} (m : Meaning D) (row : SessionRow) (role : Role) (why : Why) (old new : Trio D) :
    Type 0 where
  pub first : IsRefused row (readied row roles.Low (m.reading old.low)) (readied row roles.High (m.reading old.high))
      (readied row roles.Recv (m.reading old.recv)) role why
  pub left : (role : Role) → IsLeft m row role (disk_of old role) (disk_of new role) false

abbrev pub RefusesDisks : {D : Type 0} → Meaning D → SessionRow → Trio D → WrapEnd → Trio D → Type 0
RefusesDisks m row old (ends.Refused role why) new = m.tells → is_device why ≡ false → AreRefused m row role why old new
RefusesDisks m row old end new = Unit {0}

-- the pump was not opened
abbrev pub IsNotOpened : WrapEnd → Type 0
IsNotOpened ends.Memory = Unit {0}
IsNotOpened (ends.Refused role why) = Unit {0}
IsNotOpened end = ⊥

-- ---- what crashes leave ----

-- whatever a crash leaves of the receiver's disk after a sending has messages that these begin with, where the accepted
-- messages are the first ones of these; where the pump was not opened, if it was so before
abbrev pub LeavesPrefixBy : {D : Type 0} → Meaning D → SessionRow → Trio D → WrapEnd → Trio D → List Payload → Type 0
LeavesPrefixBy m row old end new all = (IsNotOpened end → LeavesPrefix m row all old.recv)
    → LeavesPrefix m row all new.recv

-- .. at any moment of it, too, where the disk was not empty before, and it was so then
abbrev pub KeepsPrefixOf : {D : Type 0} → Meaning D → SessionRow → List Payload → D → D → Type 0
KeepsPrefixOf m row all old new = m.reading old ≢ [] → LeavesPrefix m row all old → KeepsPrefix m row all old new

-- ---- the steps of a sending ----

-- it ended before the file was read
abbrev pub IsEarly : WrapEnd → Type 0
IsEarly ends.Memory = Unit {0}
IsEarly (ends.Refused role why) = Unit {0}
IsEarly (ends.Stopped stop) = Unit {0}
IsEarly end = ⊥

pub record EndsEarly {D : Type 0} (m : Meaning D) (row : SessionRow) (old : Trio D) (end : WrapEnd) (new : Trio D) :
    Type 0 where
  pub early : IsEarly end
  pub cause : HasDiskCause m old new end
  pub refused : RefusesDisks m row old end new
  pub opened : m.tells → IsNotOpened end ⊎ ((f : Found) × Stand m row old f)
  pub ends : m.tells → (left : Option (List ℕ)) (f : Found) → Stand m row old f
      → Ends m row left left (accepted_in f) old end new
  pub images : m.tells_images → (f : Found) → Stand m row old f → (all : List Payload) → Begins (accepted_in f) all
      → LeavesPrefixBy m row old end new all
  pub keeps : m.tells_images → (f : Found) → Stand m row old f → (all : List Payload) → Begins (accepted_in f) all
      → KeepsPrefixOf m row all old.recv new.recv

-- a pump was opened over these disks, and they are emptied
pub record Empties {D : Type 0} (m : Meaning D) (row : SessionRow) (old new : Trio D) : Type 0 where
  pub counts : CountOn m old new
  pub opened : m.tells → (f : Found) × Stand m row old f
  pub emptied : m.tells → (f : Found) → Stand m row old f → HasAll m row (accepted_in f) new
  pub images : m.tells_images → (f : Found) → Stand m row old f → LeavesPrefix m row (accepted_in f) new.recv
  pub keeps : m.tells_images → (f : Found) → Stand m row old f → (all : List Payload) → Begins (accepted_in f) all
      → KeepsPrefixOf m row all old.recv new.recv

-- the messages of a cutter that come behind these are further ones of the file
abbrev pub Continues : SessionRow → Option (List ℕ) → List Payload → Cutter → Option (List ℕ) → Type 0
Continues row whole messages cutter left = (more : List Payload) → AreFirst cutter left more
    → BeginFile row whole (messages ++ more)

-- why a comparison of the receiver's messages failed, over its disk before and after
abbrev pub ComparesNot : {D : Type 0} → Meaning D → SessionRow → D → D → Cutter → Option (List ℕ) → WrapEnd → Type 0
ComparesNot m row old new cutter left ends.Read = Unit {0}
ComparesNot m row old new cutter left ends.TooLong = Unit {0}
ComparesNot m row old new cutter left (ends.Differs n) =
    m.tells → (messages : List Payload) → RecvStands row messages (m.reading old) → FirstDiffer messages cutter left n
ComparesNot m row old new cutter left (ends.Refused role why) =
    (role ≡ roles.Recv) × (is_device why ≡ true → (why ≡ whys.Device (m.count new)) × Rose (m.count old) (m.count new))
    × (is_device why ≡ false → m.tells → refused_receiver row receiver_size (m.reading old) ≡ Some why)
ComparesNot m row old new cutter left end = ⊥

-- the bytes that the source gave for a comparison: it is too long exactly at 2^48 in all
abbrev pub TakesSoFar : Cutter → Cutter → Option (List ℕ) → Option (List ℕ) → Result (Unit {0}) WrapEnd → Type 0
TakesSoFar old new left rest result =
    (bytes : List ℕ) × Consumes left rest bytes × (is_long_in result ≡ true → cut_bytes old + length bytes ≡ 2 ^ 48)
    × (is_long_in result ≡ false → cut_bytes old + length bytes < 2 ^ 48)
    × (result ≡ Ok tt → cut_bytes new ≡ cut_bytes old + length bytes)
