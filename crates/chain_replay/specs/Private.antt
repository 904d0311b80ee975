-- Words of private clauses.
use Rattle.std.specs.Prelude.{◌≡◌, ◌⊎◌, ℕ, ◌+◌, List, [], ◌∷◌, ◌++◌, length, Option, None, Some}
use Rattle.std.specs.Io.KnownBytes.{Appends}
use Rattle.disk_model.specs.Disk.{Meaning}
use Rattle.disk_model.specs.Shelf.{OnShelf, IsOut}
use Rattle.disk_model.specs.declared.name.Role.{Role}
use Rattle.pump_chain.specs.Chained.{Chained, ChainLeads, ChainRefuses}
use Rattle.pump_chain.specs.Opening.{disk_in, trio_of}
use Rattle.pump_chain.specs.Scripted.{chain_of}
use Rattle.pump_chain.specs.Standing.{ChainStands, ChainStandsOrFails}
use Rattle.pump_chain.specs.declared.chain.Chain.{Chain}
use Rattle.pump_frame.specs.Counts.{Rose}
use Rattle.pump_frame.specs.Rows.{IsLawfulRow}
use Rattle.pump_frame.specs.declared.row.SessionRow.{SessionRow}
use Rattle.pump_link.specs.Causes.{AppendsPrefix}
use Rattle.recovery.specs.declared.trio.Trio.{Trio}
use Rattle.script_reader.specs.declared.event.Event.{Event}
use Rattle.script_reader.specs.declared.fault.Fault.{Fault}
use Rattle.script_reader.specs.declared.fault.Fault.TheVariants as faults
use Rattle.script_reader.specs.declared.line.Line.{Line}
use Rattle.script_reader.specs.declared.line.Line.TheVariants.{Skip, Session}
use Rattle.script_reader.specs.Lines.{LineReading, AreLines, to_come}
use Rattle.script_reader.specs.Openings.{Openings}
use Rattle.script_reader.specs.Transcript.{text, fault_line}
use Rattle.script_replay.specs.Lending.{ReadAt, IsOutAt, RisesAt}
use Rattle.script_replay.specs.Replays.{IsNear, IsTimed}
use Rattle.script_reader.specs.Readouts.{Sound}
use Rattle.script_reader.specs.Scripts.{Running, Whole}
use Rattle.script_reader.specs.Sessions.{events_of}
use Rattle.script_replay.specs.Outputs.{Gathers}
use Rattle.script_replay.specs.Runners.{Closes, refusal_of, IsLineFault}
use Rattle.script_replay.specs.Shelves.{Places, disk_name, OfDisks, HasFound}
use Rattle.world_laws.specs.Disks.{StandForLeft}
use Rattle.chain_replay.specs.Faults.{IsHalted, ChainStops, NamesWhatFailed, session_or, broken_in}
use Rattle.chain_replay.specs.Opened.{Shelved, NamesFailed}
use Rattle.chain_replay.specs.Replays.{IsSoFar}
use Rattle.chain_replay.specs.Scripts.{Begun, Refuses, LacksPump, AreLinked}
use Rattle.chain_replay.specs.declared.rows.FirstLine.{FirstLine}
use Rattle.chain_replay.specs.declared.rows.FirstLine.TheVariants as opens
use Rattle.script_replay.specs.declared.ended.Ended.{Ended}
use Rattle.script_replay.specs.declared.ended.Ended.TheVariants as ended
use Rattle.two_worlds.specs.declared.applied.Stop.{Stop}
use Rattle.two_worlds.specs.declared.applied.Stop.TheVariants as stops
use Rattle.chain_replay.specs.declared.applying.ChainOutcome.{ChainOutcome}
use Rattle.chain_replay.specs.declared.applying.ChainOutcome.TheVariants as outcomes

-- ---- the two session lines ----

-- what a line is to a script that is to begin a pump
abbrev pub IsOpens : Line → FirstLine → Type 0
IsOpens line opens.Nothing = line ≡ Skip
IsOpens line (opens.Pump row) = (line ≡ Session row) × IsLawfulRow row
IsOpens line opens.Wrongly = (begun : Begun) → LacksPump begun → Refuses begun line

-- so many lines were read, and begin so much
abbrev pub HasRead : Openings → Option (List ℕ) → Option (List ℕ) → ℕ → Begun → List Event → Type 0
HasRead o all rest number begun events = (lines : List Line) × IsSoFar o all rest lines begun events
    × (length lines ≡ number)

-- .. and the next one is a `session` line of this row
pub record ReadsRow (o : Openings) (all left : Option (List ℕ)) (reading : LineReading) (begun : Begun)
    (row : SessionRow) : Type 0 where
  pub lines : List Line
  pub rest : Option (List ℕ)
  pub so_far : IsSoFar o all rest lines begun []
  pub spelled : AreLines rest (Session row ∷ []) (to_come reading left)
  pub number : length lines + 1 ≡ reading.number
  pub near : IsNear rest left

-- .. and it is not read on, with this fault
pub record ReadsNoFurther (o : Openings) (all left : Option (List ℕ)) (was now : ℕ) (begun : Begun) (fault : Fault) :
    Type 0 where
  pub lines : List Line
  pub rest : Option (List ℕ)
  pub so_far : IsSoFar o all rest lines begun []
  pub halted : IsHalted rest left (length lines) was now begun fault

-- ---- the disks ----

-- the three disks of a session were read so, where they are to be taken; they are off the shelf; they are back on it
abbrev pub AreReadAt : {D : Type 0} → Meaning D → Places → ℕ → Trio D → Type 0
AreReadAt m places session t = (role : Role) → ReadAt places session role (m.reading (disk_in role t))

abbrev pub AreOutAt : {D : Type 0} → Meaning D → Places → ℕ → Trio D → Type 0
AreOutAt m places session t = (role : Role) → IsOutAt places session role (m.count (disk_in role t))

abbrev pub AreBackAt : {D : Type 0} → Meaning D → Places → ℕ → Trio D → Type 0
AreBackAt m places session t = (role : Role) → places (disk_name session role) ≡ OnShelf (m.reading (disk_in role t))

abbrev pub AreOut : Places → ℕ → Type 0
AreOut places session = (role : Role) → IsOut (places (disk_name session role))

-- where the count of a disk of a session that is off the shelf rose since it was given, the shelf's rises when it
-- comes back
abbrev pub AllRiseAt : {D : Type 0} → Meaning D → Places → ℕ → Trio D → ℕ → ℕ → Type 0
AllRiseAt m places session t before now = (role : Role)
    → RisesAt places session role (m.count (disk_in role t)) before now

-- a call of one of three disks failed since they were these
abbrev pub HasFailedAt : {D : Type 0} → Meaning D → Trio D → Trio D → Type 0
HasFailedAt m old new = (role : Role) × Rose (m.count (disk_in role old)) (m.count (disk_in role new))

-- .. of a disk of a chain
abbrev pub HasFailed : {D : Type 0} {g : _} → Meaning D → Chain D g → Chain D g → Type 0
HasFailed m s t = HasFailedAt m (trio_of s.first) (trio_of t.first)
    ⊎ HasFailedAt m (trio_of s.second) (trio_of t.second)

-- .. of this role, of the session of the chain that has this number
abbrev pub FailsIn : {D : Type 0} {g : _} → Meaning D → ℕ → ℕ → Chain D g → Chain D g → ℕ → Role → Type 0
FailsIn m one two s t session role =
    ((session ≡ one) × Rose (m.count (disk_in role (trio_of s.first))) (m.count (disk_in role (trio_of t.first))))
    ⊎ ((session ≡ two) × Rose (m.count (disk_in role (trio_of s.second))) (m.count (disk_in role (trio_of t.second))))

-- no disk of the session is off the shelf
abbrev pub AreHome : Places → ℕ → Type 0
AreHome places session = (role : Role) → IsOut (places (disk_name session role)) → ⊥

-- its disks are on the shelf, and hold the world that it came to, in which each call that is unfinished was kept or
-- lost
abbrev pub AreLeftAt : Places → ℕ → Running → Type 0
AreLeftAt places session s = OfDisks places session (StandForLeft s.row s.past.world)

-- a disk of a session was not given, which is named, or memory was wanting; so of two sessions
abbrev pub IsUntakenAt : (ℕ → Role → Type 0) → ℕ → Option Fault → Type 0
IsUntakenAt fails session None = Unit {0}
IsUntakenAt fails session (Some fault) = (role : Role) × (fault ≡ faults.Device session role) × fails session role

abbrev pub IsUntaken : (ℕ → Role → Type 0) → ℕ → ℕ → Option Fault → Type 0
IsUntaken fails one two None = Unit {0}
IsUntaken fails one two (Some fault) = NamesFailed fails one two fault

-- the chain of two rows begins on what is read of their disks
pub record Joins {D : Type 0} {g : _} (m : Meaning D) (before : Places) (one two : SessionRow) (chain : Chain D g) :
    Type 0 where
  pub openings : Openings
  pub first_found : HasFound before one (openings one.id)
  pub second_found : HasFound before two (openings two.id)
  pub linked : AreLinked openings one two
  pub stands : ChainStands m chain (chain_of openings one two)

-- ---- a line of the chain ----

-- the sessions of the chain have the numbers of these rows
abbrev pub AreOf : SessionRow → SessionRow → Chained → Type 0
AreOf one two c = (c.first.row.id ≡ one.id) × (c.second.row.id ≡ two.id)

-- what becomes of a line by why it stops the chain, if it does
abbrev pub outcome_by : ℕ → Line → Option Stop → ChainOutcome
outcome_by first line None = outcomes.Applied
outcome_by first line (Some stops.Line) = outcomes.Refused
outcome_by first line (Some (stops.Device role count)) = outcomes.Stopped (faults.Device (broken_in first line role)
    role)
outcome_by first line (Some (stops.Full end length size)) = outcomes.Stopped (faults.Full (session_or first line) end
    length size)
outcome_by first line (Some (stops.Disk role why)) = outcomes.Stopped (refusal_of (session_or first line) role why)

-- only with the fault of a disk, or of a message that does not fit, is a chain stopped, or none begun
abbrev pub IsOfLine : Option Fault → Type 0
IsOfLine None = Unit {0}
IsOfLine (Some fault) = IsLineFault fault

-- a call of a disk failed
abbrev pub IsDevice : Fault → Type 0
IsDevice (faults.Device session role) = Unit {0}
IsDevice fault = ⊥

-- nothing was written where memory was wanting for the chain; else the fault closes the output
abbrev pub ClosesUnbegun : (old new : Option (List ℕ)) (before now : ℕ) → Option Fault → Ended → Type 0
ClosesUnbegun old new before now None result = (result ≡ ended.Memory) × Appends old new []
ClosesUnbegun old new before now (Some fault) result =
    Closes old new before now (fault_line fault) (ended.Stopped fault) result

abbrev pub IsDeviceEnd : Ended → Type 0
IsDeviceEnd (ended.Stopped fault) = IsDevice fault
IsDeviceEnd end = ⊥

abbrev pub IsByLine : ChainOutcome → Type 0
IsByLine (outcomes.Stopped fault) = IsLineFault fault
IsByLine outcome = Unit {0}

-- a line that prints this leads on, can't be applied, or stops the chain, which it left as t
abbrev pub LineGoes : {D : Type 0} {g : _} → Meaning D → ℕ → Chained → Line → Chain D g → Chain D g → List Event
    → ChainOutcome → Type 0
LineGoes m first c line s t printed outcomes.Applied = (d : Chained) × ChainLeads c line d printed × ChainStands m t d
LineGoes m first c line s t printed outcomes.Refused = ChainRefuses c line × (printed ≡ []) × ChainStands m t c
LineGoes m first c line s t printed (outcomes.Stopped fault) = (d : Chained) × ChainStops first c line d printed fault
    × ChainStandsOrFails m t d
    × (first ≡ c.first.row.id → NamesWhatFailed (FailsIn m c.first.row.id c.second.row.id s t) fault)
LineGoes m first c line s t printed outcomes.Unwritten = ⊥

-- so, and what it prints was added to what is held; or a prefix of what was held and of what it prints was written
abbrev pub LineDoes : {D : Type 0} {g : _} → Meaning D → ℕ → Chained → Line → Chain D g → Chain D g
    → (held later : List ℕ)
    → (old new : Option (List ℕ)) → ChainOutcome → Type 0
LineDoes m first c line s t held later old new outcomes.Unwritten =
    (printed : List Event) × (outcome : ChainOutcome) × LineGoes m first c line s t printed outcome
    × AppendsPrefix old new (held ++ text printed)
LineDoes m first c line s t held later old new outcome = (printed : List Event)
    × LineGoes m first c line s t printed outcome × Gathers held later old new (text printed)

-- ---- while the chain runs ----

-- what a session has been through is a timed run, and what was printed of it are its replies
abbrev pub IsSoundTimed : Running → List Event → Type 0
IsSoundTimed s printed = IsTimed (Some (Whole s)) × Sound (Some (Whole s)) printed

abbrev pub AreSoundTimed : Chained → List Event → Type 0
AreSoundTimed c printed = IsSoundTimed c.first (events_of c.first.row.id printed)
    × IsSoundTimed c.second (events_of c.second.row.id printed)

-- the chain of these rows has come to this from its start, also where a disk failed in its last line
abbrev pub lent : {D : Type 0} {g : _} → Meaning D → Chain D g → Chain D g → Openings → SessionRow → SessionRow
    → Shelved
lent m start chain o one two = record {
  waits = ⊥;
  keeps = λ p row other c. (p ≡ o) × (row ≡ one) × (other ≡ two) × ChainStandsOrFails m chain c × AreOf one two c;
  outlives = λ row other c printed. (row ≡ one) × (other ≡ two) × ChainStandsOrFails m chain c × AreOf one two c
      × AreSoundTimed c printed;
  readies = λ row other. ⊥;
  refuses = λ row other fault. ⊥;
  fails = FailsIn m one.id two.id start chain;
}
