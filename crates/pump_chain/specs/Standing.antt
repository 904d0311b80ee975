-- What a chain of pumps stands for, and what a line does to it.
use Rattle.std.specs.Prelude.{◌≡◌, ◌⊎◌, ℕ, ◌≤◌, Bool, true, ◌||◌, List, [], length, slice_get, drop, Option, Some, None}
use Rattle.std.specs.List.{All}
use Rattle.disk_model.specs.Disk.{Meaning}
use Rattle.disk_model.specs.declared.name.Role.{Role}
use Rattle.disk_model.specs.declared.name.Role.TheVariants as roles
use Rattle.pump_core.specs.Events.{with_kept}
use Rattle.pump_core.specs.Exchanges.{is_data}
use Rattle.pump_core.specs.History.{Arrival}
use Rattle.pump_core.specs.History.{Came}
use Rattle.pump_core.specs.Lawful.{IsPrefixOf}
use Rattle.pump_core.specs.World.{World}
use Rattle.pump_frame.specs.Counts.{Rose}
use Rattle.pump_frame.specs.declared.payload.Payload.{Payload}
use Rattle.pump_frame.specs.declared.row.SessionRow.{SessionRow}
use Rattle.script_reader.specs.declared.event.Event.{Event}
use Rattle.script_reader.specs.declared.line.Arriving.TheVariants.{Nothing, Data}
use Rattle.script_reader.specs.declared.line.Line.{Line as ScriptLine}
use Rattle.script_reader.specs.declared.line.Line.TheVariants as lines
use Rattle.script_reader.specs.Breaks.{Breaks}
use Rattle.script_reader.specs.Past.{Past}
use Rattle.script_reader.specs.Scripts.{Running}
use Rattle.script_reader.specs.Steps.{is_timely, Overfills}
use Rattle.stable_buffer.specs.Log.{RecvStands}
use Rattle.stable_buffer.specs.Stands.{LowStands, HighStands}
use Rattle.two_worlds.specs.declared.applied.Stop.{Stop}
use Rattle.two_worlds.specs.declared.applied.Stop.TheVariants.{Line, Device, Full, Disk}
use Rattle.two_worlds.specs.declared.pump.Pump.{Pump}
use Rattle.two_worlds.specs.Doing.{LeavesFit}
use Rattle.two_worlds.specs.Pumps as pumps
use Rattle.pump_chain.specs.Chained.{Chained, Share, Skipped, OfFirst, OfSecond, MakesFirst, MakesSecond, OfNone}
use Rattle.pump_chain.specs.Chained.{with_past, added, share, share_by, is_look, is_in_order, received_of, LeadsBy}
use Rattle.pump_chain.specs.Chained.{RefusesBy}
use Rattle.pump_chain.specs.declared.chain.Chain.{Chain}

-- ---- what ties the two pumps ----

-- the second pump has accepted no message but the first ones that the first receiver has, in their order, not even with
-- one whose store is unfinished
abbrev pub IsLinked : World → World → Type 0
IsLinked first second = IsPrefixOf (with_kept true second.storing second.accepted) first.received

-- a DATA that waits at the second pump has the first receiver's message of its number
abbrev pub IsSentOn : List Payload → Arrival → Type 0
IsSentOn received (Came f) = is_data f.kind ≡ true → slice_get received f.number ≡ Some f.payload
IsSentOn received a = Unit {0}

-- ---- what a chain stands for ----

-- its pumps stand for what each session has been through, and the second one has nothing that the first receiver has
-- not
pub record ChainStands {D : Type 0} {g : _} (m : Meaning D) (chain : Chain D g) (c : Chained) : Type 0 where
  pub first : pumps.StandsFor m chain.first c.first.past
  pub first_row : pumps.row_of chain.first ≡ c.first.row
  pub second : pumps.StandsFor m chain.second c.second.past
  pub second_row : pumps.row_of chain.second ≡ c.second.row
  pub sender : chain.sender ≡ c.sender
  pub under_way : chain.is_under_way ≡ c.is_under_way
  pub linked : IsLinked c.first.past.world c.second.past.world
  pub waits : All (IsSentOn (received_of c)) c.second.past.waits

-- a call of a disk of either pump failed, or a pump is shut
abbrev pub chain_is_down : {D : Type 0} {g : _} → Chain D g → Bool
chain_is_down chain = pumps.is_down chain.first || pumps.is_down chain.second

-- .. so, or came to this when a disk failed
pub record ChainStandsOrFails {D : Type 0} {g : _} (m : Meaning D) (chain : Chain D g) (c : Chained) : Type 0 where
  pub first : pumps.StandsOrFails m chain.first c.first.past
  pub first_row : pumps.row_of chain.first ≡ c.first.row
  pub second : pumps.StandsOrFails m chain.second c.second.past
  pub second_row : pumps.row_of chain.second ≡ c.second.row
  pub linked : IsLinked c.first.past.world c.second.past.world

-- ---- a line ----

-- the line can be applied, and a disk of its session fails in it
abbrev pub BreaksIn : Running → ScriptLine → Role → Past → List Event → Type 0
BreaksIn s line role q printed = (is_timely s.row s.past line ≡ true) × Breaks s.row s.past line role q printed

-- a message does not fit at the receiver of its session
abbrev pub OverfillsIn : Running → ScriptLine → Past → List Event → ℕ → ℕ → ℕ → Type 0
OverfillsIn s line q printed end size_of_message size = (is_timely s.row s.past line ≡ true)
    × Overfills s.row s.past line q printed end size_of_message size

abbrev pub with_first : Chained → Past → Chained
with_first c q = record c { first = with_past c.first q }

abbrev pub with_second : Chained → Past → Chained
with_second c q = record c { second = with_past c.second q }

-- where the first receiver's disk fails in the reading of the message that the sender is to add, the look is not made
abbrev pub IsUnread : Chained → ScriptLine → Role → Chained → List Event → Type 0
IsUnread c line role d printed =
    (role ≡ roles.Recv) × ((number : ℕ) × (payload : Payload) × (added c ≡ Data number payload)) × (d ≡ c)
    × (printed ≡ [])

-- the line can be applied, and a disk fails in it
abbrev pub ChainBreaks : Chained → Share → Role → Chained → List Event → Type 0
ChainBreaks c Skipped role d printed = ⊥
ChainBreaks c OfNone role d printed = ⊥
ChainBreaks c MakesFirst role d printed = ⊥
ChainBreaks c MakesSecond role d printed = ⊥
ChainBreaks c (OfFirst line) role d printed = (is_in_order c line ≡ true)
    × ((q : Past) × BreaksIn c.first line role q printed × (d ≡ with_first c q))
ChainBreaks c (OfSecond line) role d printed =
    (is_in_order c line ≡ true) × (((q : Past) × BreaksIn c.second line role q printed × (d ≡ with_second c q))
    ⊎ IsUnread c line role d printed)

-- the line can be applied, but its message does not fit at a receiver
abbrev pub ChainOverfills : Chained → Share → Chained → List Event → ℕ → ℕ → ℕ → Type 0
ChainOverfills c Skipped d printed end size_of_message size = ⊥
ChainOverfills c OfNone d printed end size_of_message size = ⊥
ChainOverfills c MakesFirst d printed end size_of_message size = ⊥
ChainOverfills c MakesSecond d printed end size_of_message size = ⊥
ChainOverfills c (OfFirst line) d printed end size_of_message size =
    (is_in_order c line ≡ true) × ((q : Past) × OverfillsIn c.first line q printed end size_of_message size
    × (d ≡ with_first c q))
ChainOverfills c (OfSecond line) d printed end size_of_message size =
    (is_in_order c line ≡ true) × ((q : Past) × OverfillsIn c.second line q printed end size_of_message size
    × (d ≡ with_second c q))

-- ---- the disk that fails ----

-- a call of the disk failed, and this is the count of its failed calls
abbrev pub FailsWith : {D : Type 0} → Meaning D → D → D → ℕ → Type 0
FailsWith m old new faults = Rose (m.count old) (m.count new) × (faults ≡ m.count new)

-- of two pumps, the disk of this role that fails in a line of this share: its session's; but at a look of the second
-- one the receiver's is the first one's, from which the message is read that is to be sent on
abbrev pub broken_disk : {D : Type 0} {g : _} → Share → Role → Pump D g → Pump D g → D
broken_disk (OfFirst line) role first second = pumps.disk_at role first
broken_disk (OfSecond (lines.Look session m w a)) roles.Recv first second = pumps.disk_at roles.Recv first
broken_disk share role first second = pumps.disk_at role second

-- whatever the disks tell, it is a disk of the session whose line it is, or it may be the first receiver's at a look
-- of the second session
abbrev pub FailsBy : {D : Type 0} {g : _} → Meaning D → Share → Role → ℕ → Pump D g → Pump D g → Pump D g → Pump D g
    → Type 0
FailsBy m (OfFirst line) role faults first first_now second second_now = FailsWith m (pumps.disk_at role first)
    (pumps.disk_at role first_now) faults
FailsBy m (OfSecond line) role faults first first_now second second_now =
    FailsWith m (pumps.disk_at role second) (pumps.disk_at role second_now) faults
    ⊎ ((is_look line ≡ true) × (role ≡ roles.Recv)
    × FailsWith m (pumps.disk_at role first) (pumps.disk_at role first_now) faults)
FailsBy m share role faults first first_now second second_now = ⊥

-- a device stops a line of this share only so
abbrev pub AreCounted : {D : Type 0} {g : _} → Meaning D → Share → Pump D g → Pump D g → Pump D g → Pump D g
    → Option Stop → Type 0
AreCounted m share first first_now second second_now (Some (Device role faults)) = FailsBy m share role faults first
    first_now second second_now
AreCounted m share first first_now second second_now stop = Unit {0}

abbrev pub IsCountedBy : {D : Type 0} {g : _} → Meaning D → Chain D g → Chain D g → Share → Option Stop → Type 0
IsCountedBy m s t share stop = AreCounted m share s.first t.first s.second t.second stop

-- .. whatever the sender adds
abbrev pub IsCounted : {D : Type 0} {g : _} → Meaning D → Chain D g → Chain D g → ScriptLine → Option Stop → Type 0
IsCounted m s t line stop = IsCountedBy m s t (share_by (pumps.row_of s.first).id (pumps.row_of s.second).id Nothing
    line) stop

-- ---- what a line does ----

-- a crash at any moment from s to t leaves of each of the six disks what fits its session's world before or the one
-- after
pub record LeaveBoth {D : Type 0} {g : _} (m : Meaning D) (s t : Chain D g) (c d : Chained) : Type 0 where
  pub first : LeavesFit m (pumps.disks_of s.first) (pumps.disks_of t.first) c.first.past d.first.past
  pub second : LeavesFit m (pumps.disks_of s.second) (pumps.disks_of t.second) c.second.past d.second.past

-- A line of this share was given to s, which stood for c, and left it as t. It can be applied, and leads to what t
-- stands for and prints this; or it can't be, and nothing is printed, and t stands for c still; or a disk fails in
-- it, whose count is told; or its message does not fit at a receiver. No disk is refused.
abbrev pub AppliesBy : {D : Type 0} {g : _} → Meaning D → Chain D g → Chain D g → Chained → Share → List Event
    → Option Stop → Type 0
AppliesBy m s t c share printed None = (d : Chained) × LeadsBy c share d printed × ChainStands m t d
    × LeaveBoth m s t c d
AppliesBy m s t c share printed (Some Line) = RefusesBy c share × (printed ≡ []) × ChainStands m t c
    × LeaveBoth m s t c c
AppliesBy m s t c share printed (Some (Device role faults)) =
    (d : Chained) × ChainBreaks c share role d printed × ChainStandsOrFails m t d × LeaveBoth m s t c d
    × FailsWith m (broken_disk share role s.first s.second) (broken_disk share role t.first t.second) faults
AppliesBy m s t c share printed (Some (Full end size_of_message size)) =
    (d : Chained) × ChainOverfills c share d printed end size_of_message size × ChainStandsOrFails m t d
    × LeaveBoth m s t c d
AppliesBy m s t c share printed (Some (Disk role why)) = ⊥

abbrev pub ChainApplies : {D : Type 0} {g : _} → Meaning D → Chain D g → Chain D g → ScriptLine → Chained → List Event
    → Option Stop → Type 0
ChainApplies m s t line c printed stop = AppliesBy m s t c (share c line) printed stop

-- ---- the six disks at every moment ----

-- the disks of a pump tell that these messages are received, that these are accepted, of which the low disk has all
-- behind as many as are received, and that so many are removed
pub record Tell (row : SessionRow) (accepted received : List Payload) (low high recv : List ℕ) : Type 0 where
  pub recv_is : RecvStands row received recv
  pub low_is : LowStands row (length accepted) (length received) (drop (length received) accepted) low
  pub removed : ℕ
  pub high_is : HighStands row removed high

-- four lists that the disks of two pumps tell, of which each is a prefix of the next: what the second receiver has,
-- what the second pump has accepted, what the first receiver has, and what the first pump has accepted. So what a
-- pump has accepted is its receiver's list, and then the low disk's messages from there on
pub record TellPrefixes (first second : SessionRow) (low high recv next_low next_high next_recv : List ℕ) : Type 0 where
  pub accepted : List Payload
  pub received : List Payload
  pub next_accepted : List Payload
  pub next_received : List Payload
  pub tell : Tell first accepted received low high recv
  pub next_tell : Tell second next_accepted next_received next_low next_high next_recv
  pub next_taken : IsPrefixOf next_received next_accepted
  pub sent_on : IsPrefixOf next_accepted received
  pub taken : IsPrefixOf received accepted

-- whatever crashes at any moment since the two pumps were these left of their disks tells such lists; and what a
-- crash leaves of a receiver's disk at the end has every message that is removed
abbrev pub LeavePrefixes : {D : Type 0} {g : _} → Meaning D → Pump D g → Pump D g → Pump D g → Pump D g → Type 0
LeavePrefixes m first first_now second second_now = m.tells_images
    → (low high recv next_low next_high next_recv : List ℕ)
    → m.since (pumps.disk_at roles.Low first_now) (m.moment (pumps.disk_at roles.Low first)) low
    → m.since (pumps.disk_at roles.High first_now) (m.moment (pumps.disk_at roles.High first)) high
    → m.since (pumps.disk_at roles.Recv first_now) (m.moment (pumps.disk_at roles.Recv first)) recv
    → m.since (pumps.disk_at roles.Low second_now) (m.moment (pumps.disk_at roles.Low second)) next_low
    → m.since (pumps.disk_at roles.High second_now) (m.moment (pumps.disk_at roles.High second)) next_high
    → m.since (pumps.disk_at roles.Recv second_now) (m.moment (pumps.disk_at roles.Recv second)) next_recv
    → (f : TellPrefixes (pumps.row_of first) (pumps.row_of second) low high recv next_low next_high next_recv)
    × (m.images (pumps.disk_at roles.Recv first_now) recv → f.tell.removed ≤ length f.received)
    × (m.images (pumps.disk_at roles.Recv second_now) next_recv → f.next_tell.removed ≤ length f.next_received)

-- .. since the chain was s
abbrev pub LeavesPrefixes : {D : Type 0} {g : _} → Meaning D → Chain D g → Chain D g → Type 0
LeavesPrefixes m s t = LeavePrefixes m s.first t.first s.second t.second
