-- What becomes of a line that a replay has read, and how a replay ends. It serves the private functions and the proofs.
use Rattle.std.specs.Prelude.{◌≡◌, ◌⊎◌, ℕ, true, false, List, [], ◌++◌, Option, Some, None, Result, Ok, Err}
use Rattle.std.specs.Io.KnownBytes.{Appends}
use Rattle.disk_model.specs.Disk.{Meaning}
use Rattle.disk_model.specs.declared.name.Role.{Role}
use Rattle.pump_frame.specs.Counts.{Rose}
use Rattle.pump_frame.specs.Rows.{IsLawfulRow}
use Rattle.pump_frame.specs.declared.row.SessionRow.{SessionRow}
use Rattle.pump_link.specs.Causes.{AppendsPrefix}
use Rattle.recovery.specs.Faults.{why_number, why_values}
use Rattle.stable_buffer.specs.Format.{new_bytes}
use Rattle.recovery.specs.declared.why.Why.{Why}
use Rattle.recovery.specs.declared.why.Why.TheVariants as whys
use Rattle.disk_model.specs.Shelf.{Holdings, OnShelf, IsOut}
use Rattle.script_reader.specs.Openings.{Openings}
use Rattle.script_reader.specs.Past.{Past}
use Rattle.script_reader.specs.declared.event.Event.{Event}
use Rattle.script_reader.specs.declared.fault.Fault.{Fault}
use Rattle.script_reader.specs.declared.fault.Fault.TheVariants as faults
use Rattle.script_reader.specs.declared.line.Line.{Line}
use Rattle.script_reader.specs.declared.line.Line.TheVariants as lines
use Rattle.script_reader.specs.Scripts.{Begun, Whole, Alone, IsNew, Leads, IsRefused}
use Rattle.script_reader.specs.Sessions.{Sessions as Script, session_in, stands_first, session_at, with_session, led_to}
use Rattle.script_reader.specs.Sessions.{is_in_turn, ScriptRefuses, ScriptStops}
use Rattle.script_reader.specs.Transcript.{text}
use Rattle.two_worlds.specs.declared.applied.Stop.{Stop}
use Rattle.two_worlds.specs.declared.applied.Stop.TheVariants as stops
use Rattle.world_laws.specs.Disks.{StandForLeft}
use Rattle.two_worlds.specs.Pumps as pump
use Rattle.script_replay.specs.Failing.{FailsBetween}
use Rattle.script_replay.specs.Sessions.{id_of, IsUp, StandsFor, HasComeTo, HasFailed, SessionApplies, Lends, found_at}
use Rattle.script_replay.specs.Sessions.{EachStandsFor, AllHaveComeTo, AllLend}
use Rattle.script_replay.specs.Shelves.{Places, disk_name, reading_at, Shelved, HasFound, IsRefusedFor, LeavesSession}
use Rattle.script_replay.specs.Shelves.{ReadsSessionAlike, SparesSession, ReadiesSession, OfDisks}
use Rattle.script_replay.specs.Outputs.{Gathers}
use Rattle.script_replay.specs.Replays.{BreaksLine, IsFinished, IsWaiting, IsUnread, IsFaulted, IsDownAt, IsBarred}
use Rattle.script_replay.specs.Replays.{IsOverfilled, IsCutOff, Wrote, WrotePrefix}
use Rattle.script_replay.specs.declared.session.Session.{Session}
use Rattle.script_replay.specs.declared.session.Session.TheVariants as sessions
use Rattle.script_replay.specs.declared.sessions.Sessions.{Sessions}
use Rattle.script_replay.specs.declared.outcome.LineOutcome.{LineOutcome}
use Rattle.script_replay.specs.declared.outcome.LineOutcome.TheVariants as outcomes
use Rattle.script_replay.specs.declared.ended.Ended.{Ended}
use Rattle.script_replay.specs.declared.ended.Ended.TheVariants as ended

-- no disk of a session that has begun has failed
abbrev pub AreUp : {D : Type 0} {g : _} → Option (Session D g) → Type 0
AreUp None = Unit {0}
AreUp (Some session) = IsUp session

abbrev pub AllAreUp : {D : Type 0} {g : _} → List (Session D g) → Type 0
AllAreUp begun = (number : ℕ) → AreUp (found_at number begun)

-- the fault of a disk that is refused
abbrev pub refusal_of : ℕ → Role → Why → Fault
refusal_of id role why = faults.Disk id role (why_number why) (why_values why).0 (why_values why).1

-- .. or whose call failed
abbrev pub fault_of : ℕ → Role → Why → Fault
fault_of id role (whys.Device count) = faults.Device id role
fault_of id role why = refusal_of id role why

-- it is a disk's, or of a message that does not fit
abbrev pub IsLineFault : Fault → Type 0
IsLineFault (faults.Device session role) = Unit {0}
IsLineFault (faults.Disk session role number first second) = Unit {0}
IsLineFault (faults.Full session end size_of_message size) = Unit {0}
IsLineFault fault = ⊥

-- only with such a fault does a line that can be applied stop a script
abbrev pub StopsByLine : LineOutcome → Type 0
StopsByLine (outcomes.Stopped fault) = IsLineFault fault
StopsByLine outcome = Unit {0}

-- a line that begins no session has this outcome, and prints nothing
abbrev pub IsOfBeginning : LineOutcome → Type 0
IsOfBeginning outcomes.Applied = ⊥
IsOfBeginning outcomes.Unwritten = ⊥
IsOfBeginning outcome = Unit {0}

-- what becomes of a line by why it stops the session of this number, if it does
abbrev pub outcome_of : ℕ → Option Stop → LineOutcome
outcome_of id None = outcomes.Applied
outcome_of id (Some stops.Line) = outcomes.Refused
outcome_of id (Some (stops.Device role count)) = outcomes.Stopped (faults.Device id role)
outcome_of id (Some (stops.Full end length size)) = outcomes.Stopped (faults.Full id end length size)
outcome_of id (Some (stops.Disk role why)) = outcomes.Stopped (faults.Disk id role (why_number why) (why_values why).0
    (why_values why).1)

-- .. of a line that is to begin the session, by why its disks are not opened
abbrev pub outcome_at : ℕ → Role → Option Why → LineOutcome
outcome_at id role None = outcomes.Memory
outcome_at id role (Some why) = outcomes.Stopped (fault_of id role why)

-- ---- the disks, while the sessions run ----

-- its disks were found to hold what it began on
abbrev pub Finds : Places → Openings → Option Begun → Type 0
Finds before o (Some (Whole s)) = HasFound before s.row (o s.row.id)
Finds before o (Some (Alone s)) = Unit {0}
Finds before o None = Unit {0}

-- .. of each session
abbrev pub AllFind : Places → Openings → List Begun → Type 0
AllFind before o begun = (number : ℕ) → Finds before o (session_at number begun)

-- .. and those of this number are where they were, unless it has begun with them
abbrev pub IsWhere : Places → Places → ℕ → Option Begun → Type 0
IsWhere before now number (Some (Whole s)) = Unit {0}
IsWhere before now number (Some (Alone s)) = LeavesSession before now number
IsWhere before now number None = LeavesSession before now number

-- what is known of the disks of a number while they are with its session
pub record LentAt {D : Type 0} {g : _} (d : Meaning D) (before now : Places) (number : ℕ)
    (session : Option (Session D g)) (o : Openings) (running : Option Begun) : Type 0 where
  pub found : Finds before o running
  pub come : HasComeTo d session running
  pub at : IsWhere before now number running

abbrev pub AllLent : {D : Type 0} {g : _} → Meaning D → Places → Places → List (Session D g) → Openings → List Begun
    → Type 0
AllLent d before now begun o running = (number : ℕ)
    → LentAt d before now number (found_at number begun) o (session_at number running)

-- .. of each number but this one
abbrev pub OthersLent : {D : Type 0} {g : _} → Meaning D → Places → Places → ℕ → List (Session D g) → Openings
    → List Begun → Type 0
OthersLent d before now one begun o running = (number : ℕ) → (number ≡ one → ⊥)
    → LentAt d before now number (found_at number begun) o (session_at number running)

-- before any line came that needs not stand first: each disk of the session reads what was read of it at first, or it
-- was empty, and is a new one of its row
abbrev pub IsFresh : {D : Type 0} {g : _} → Meaning D → Places → Places → ℕ → Option (Session D g) → Type 0
IsFresh d before now number (Some (sessions.Whole id p)) =
    (role : Role) → (d.reading (pump.disk_at role p) ≡ reading_at before id role)
    ⊎ ((reading_at before id role ≡ []) × (d.reading (pump.disk_at role p) ≡ new_bytes (pump.row_of p) role 0))
IsFresh d before now number (Some (sessions.Alone id p)) = ReadsSessionAlike before now number
IsFresh d before now number None = ReadsSessionAlike before now number

abbrev pub AllFresh : {D : Type 0} {g : _} → Meaning D → Places → Places → List (Session D g) → Type 0
AllFresh d before now begun = (number : ℕ) → IsFresh d before now number (found_at number begun)

-- what is known of all disks then, by how a replay ends
abbrev pub lent : {D : Type 0} {g : _} → Meaning D → Places → Places → List (Session D g) → Shelved
lent d before now begun = record {
  keeps = λ o running printed. AllLent d before now begun o running;
  waits = λ running. AllFresh d before now begun × AllHaveComeTo d begun running;
  breaks = λ o running s printed. Finds before o (Some (Whole s))
      × HasComeTo d (found_at s.row.id begun) (Some (Whole s)) × OthersLent d before now s.row.id begun o running;
  spares = λ o running number printed. (found_at number begun ≡ None) × SparesSession before now number
      × OthersLent d before now number begun o running;
  refuses = λ o running row role why printed. (found_at row.id begun ≡ None) × IsRefusedFor before row role why
      × ReadiesSession before now row × OthersLent d before now row.id begun o running;
}

-- ---- a line ----

-- it leads on: the first line of a session on what its disks are found to hold, and a later one on whatever they were
-- found to hold; one that stands first only where the session is new then
abbrev pub LeadsFrom : Places → Option Begun → Line → Option Begun → List Event → Type 0
LeadsFrom before None line after printed = (o : Openings) × Leads o None line after printed × Finds before o after
LeadsFrom before (Some s) line after printed =
    (o : Openings) → Finds before o (Some s) → (stands_first line ≡ true → IsNew o s)
    → Leads o (Some s) line after printed × Finds before o after

-- .. so of a script with several sessions
abbrev pub OneLeadsFrom : Places → Script → Line → Option ℕ → Script → List Event → Type 0
OneLeadsFrom before t line None u printed = (u ≡ t) × (printed ≡ [])
OneLeadsFrom before t line (Some number) u printed =
    (is_in_turn t line ≡ true) × ((s : Begun) × LeadsFrom before (session_at number t.begun) line (Some s) printed
    × (u ≡ led_to t line s))

-- a disk of the row's session can't be taken off the shelf, or fails when it is opened; or the disks are refused
abbrev pub IsNotOpened : Places → Places → SessionRow → Fault → Type 0
IsNotOpened before now row fault = ((role : Role) × (fault ≡ faults.Device row.id role)
    × SparesSession before now row.id)
    ⊎ ((role : Role) × (why : Why)
    × (fault ≡ faults.Disk row.id role (why_number why) (why_values why).0 (why_values why).1)
    × IsRefusedFor before row role why × ReadiesSession before now row)

-- a line where its session isn't there: the session that it begins, or why it begins none
abbrev pub Begins : {D : Type 0} {g : _} → Meaning D → Places → Places → Line → Result (Session D g) LineOutcome
    → Type 0
Begins d before now line (Ok session) = (after : Begun) × LeadsFrom before None line (Some after) []
    × StandsFor d session after
Begins d before now line (Err outcomes.Refused) = IsRefused None line
Begins d before now line (Err (outcomes.Stopped fault)) = (row : SessionRow) × (line ≡ lines.Session row)
    × IsLawfulRow row × IsNotOpened before now row fault
Begins d before now line (Err outcomes.Memory) = Unit {0}
Begins d before now line (Err outcomes.Applied) = ⊥
Begins d before now line (Err outcomes.Unwritten) = ⊥

-- so of the disks of this number after a line that was to begin its session
abbrev pub StartsFresh : {D : Type 0} {g : _} → Meaning D → Places → Places → ℕ → Result (Session D g) LineOutcome
    → Type 0
StartsFresh d before now number (Ok session) = IsFresh d before now number (Some session)
StartsFresh d before now number (Err outcomes.Memory) = ReadsSessionAlike before now number
StartsFresh d before now number (Err outcome) = Unit {0}

-- .. and of all disks after a line
abbrev pub FreshAfter : {D : Type 0} {g : _} → Meaning D → Places → Places → Sessions D g → LineOutcome → Type 0
FreshAfter d before now sessions outcomes.Applied = sessions.is_under_way ≡ false
    → AllFresh d before now sessions.begun.items
FreshAfter d before now sessions outcomes.Memory = AllFresh d before now sessions.begun.items
FreshAfter d before now sessions outcome = Unit {0}

-- a line of the running session, which leaves it as this: what it prints was added to what was held, or could not be
-- written
abbrev pub GoesSo : {D : Type 0} {g : _} → Meaning D → Begun → Line → Session D g → List ℕ → List ℕ → Option (List ℕ)
    → Option (List ℕ) → LineOutcome → Type 0
GoesSo d running line session held later old new outcome =
    (printed : List Event) × (stop : Option Stop) × SessionApplies d running line session printed stop
    × (((outcome ≡ outcome_of (id_of session) stop) × Gathers held later old new (text printed))
    ⊎ ((outcome ≡ outcomes.Unwritten) × AppendsPrefix old new (held ++ text printed)))

-- it is to begin a session, whose disks are not opened
pub record BeginsNone {D : Type 0} {g : _} (d : Meaning D) (before now : Places) (t : Script) (line : Line)
    (begun : List (Session D g)) (printed : List Event) (fault : Fault) : Type 0 where
  pub row : SessionRow
  pub line_is : line ≡ lines.Session row
  pub in_turn : is_in_turn t (lines.Session row) ≡ true
  pub none : session_at row.id t.begun ≡ None
  pub lawful : IsLawfulRow row
  pub silent : printed ≡ []
  pub come : AllHaveComeTo d begun t.begun
  pub others : (number : ℕ) → (number ≡ row.id → ⊥) → Lends d before now number (found_at number begun)
  pub cause : IsNotOpened before now row fault

-- it stops the script: as its session does, cut short by the device of a disk, or before a session
abbrev pub TurnStops : {D : Type 0} {g : _} → Meaning D → Places → Places → Script → Line → List (Session D g)
    → List Event → Fault → Type 0
TurnStops d before now t line begun printed fault =
    ((u : Script) × ScriptStops t line u printed fault × AllHaveComeTo d begun u.begun × AllLend d before now begun)
    ⊎ (((b : BreaksLine t line printed) × (fault ≡ faults.Device b.session.row.id b.role)
    × AllHaveComeTo d begun (with_session (Whole (record { row = b.session.row; past = b.past })) t.begun)
    × AllLend d before now begun)
    ⊎ BeginsNone d before now t line begun printed fault)

-- a line that prints this leads on, can't be applied, or stops the script
abbrev pub TurnGoes : {D : Type 0} {g : _} → Meaning D → Places → Places → Script → Line → List (Session D g)
    → List Event → LineOutcome → Type 0
TurnGoes d before now t line begun printed outcomes.Applied =
    (u : Script) × OneLeadsFrom before t line (session_in line) u printed × EachStandsFor d begun u.begun
    × AllLend d before now begun
TurnGoes d before now t line begun printed outcomes.Refused =
    ScriptRefuses t line × (printed ≡ []) × EachStandsFor d begun t.begun × AllLend d before now begun
TurnGoes d before now t line begun printed (outcomes.Stopped fault) = TurnStops d before now t line begun printed fault
TurnGoes d before now t line begun printed outcomes.Memory = ⊥
TurnGoes d before now t line begun printed outcomes.Unwritten = ⊥

-- the moment of the last line, and whether the script is under way, are those of what it has come to
abbrev pub IsInStep : {D : Type 0} {g : _} → Sessions D g → Script → Type 0
IsInStep sessions u = (sessions.moment ≡ u.moment) × (sessions.is_under_way ≡ u.is_under_way)

-- a line where its session isn't there, or one that stands first: it prints nothing; where memory is wanting the
-- sessions are those before it
abbrev pub BeginDoes : {D : Type 0} {g : _} → Meaning D → Places → Places → Script → Line → Sessions D g → LineOutcome
    → Type 0
BeginDoes d before now t line sessions outcomes.Applied = (goes : TurnGoes d before now t line sessions.begun.items []
    outcomes.Applied) × IsInStep sessions goes.0
BeginDoes d before now t line sessions outcomes.Refused = TurnGoes d before now t line sessions.begun.items []
    outcomes.Refused
BeginDoes d before now t line sessions (outcomes.Stopped fault) = TurnGoes d before now t line sessions.begun.items []
    (outcomes.Stopped fault)
BeginDoes d before now t line sessions outcomes.Memory = EachStandsFor d sessions.begun.items t.begun
BeginDoes d before now t line sessions outcomes.Unwritten = ⊥

-- it goes so, and what it prints was added to what was held
abbrev pub Adds : {D : Type 0} {g : _} → Meaning D → Places → Places → Script → Line → List (Session D g) → List ℕ
    → List ℕ → Option (List ℕ) → Option (List ℕ) → LineOutcome → Type 0
Adds d before now t line begun held later old new outcome =
    (printed : List Event) × TurnGoes d before now t line begun printed outcome
    × Gathers held later old new (text printed)

-- so, or what was held and what it prints could not be written; of a line for which memory is wanting see
-- `TurnIsQuiet` and `FreshAfter` too
abbrev pub TurnDoes : {D : Type 0} {g : _} → Meaning D → Places → Places → Script → Line → Sessions D g → List ℕ
    → List ℕ → Option (List ℕ) → Option (List ℕ) → LineOutcome → Type 0
TurnDoes d before now t line sessions held later old new outcomes.Unwritten =
    (printed : List Event) × (outcome : LineOutcome) × TurnGoes d before now t line sessions.begun.items printed outcome
    × AppendsPrefix old new (held ++ text printed)
TurnDoes d before now t line sessions held later old new outcomes.Applied =
    (adds : Adds d before now t line sessions.begun.items held later old new outcomes.Applied)
    × IsInStep sessions adds.1.0
TurnDoes d before now t line sessions held later old new outcomes.Refused = Adds d before now t line
    sessions.begun.items held later old new outcomes.Refused
TurnDoes d before now t line sessions held later old new outcomes.Memory = EachStandsFor d sessions.begun.items t.begun
TurnDoes d before now t line sessions held later old new (outcomes.Stopped fault) = Adds d before now t line
    sessions.begun.items held later old new (outcomes.Stopped fault)

-- before any line came that needs not stand first nothing is printed, and only then is memory wanting
pub record TurnIsQuiet {D : Type 0} {g : _} (first then : Sessions D g) (held later : List ℕ)
    (old new : Option (List ℕ)) (outcome : LineOutcome) : Type 0 where
  pub waits : first.is_under_way ≡ true → then.is_under_way ≡ true
  pub quiet : outcome ≡ outcomes.Applied → then.is_under_way ≡ false → (later ≡ held) × (new ≡ old)
  pub memory : outcome ≡ outcomes.Memory → (first.is_under_way ≡ false) × (later ≡ held) × (new ≡ old)

-- these last bytes were written and the end is this one, or a prefix of them was and the sink's count rose
abbrev pub Closes : Option (List ℕ) → Option (List ℕ) → ℕ → ℕ → List ℕ → Ended → Ended → Type 0
Closes old new before now bytes end result =
    ((result ≡ end) × Appends old new bytes) ⊎ ((result ≡ ended.Write) × AppendsPrefix old new bytes × Rose before now)

-- how a replay ends
abbrev pub EndsAs : Shelved → Option (List ℕ) → Option (List ℕ) → Option (List ℕ) → Option (List ℕ) → ℕ → ℕ → Ended
    → Type 0
EndsAs shelf all left old new before now ended.Done = Wrote all old new (IsFinished shelf)
EndsAs shelf all left old new before now ended.Memory = Wrote all old new (IsWaiting shelf left)
EndsAs shelf all left old new before now ended.Write = WrotePrefix all old new (IsCutOff shelf left before now)
EndsAs shelf all left old new before now (ended.Stopped faults.Words) = ⊥
EndsAs shelf all left old new before now (ended.Stopped faults.Read) = Wrote all old new
    (IsUnread shelf left before now)
EndsAs shelf all left old new before now (ended.Stopped (faults.Script number)) = Wrote all old new
    (IsFaulted shelf left)
EndsAs shelf all left old new before now (ended.Stopped (faults.Device session role)) = Wrote all old new
    (IsDownAt shelf left session role)
EndsAs shelf all left old new before now (ended.Stopped (faults.Disk session role number first second)) = Wrote all old
    new (IsBarred shelf left)
EndsAs shelf all left old new before now (ended.Stopped (faults.Full session end size_of_message size)) = Wrote all old
    new (IsOverfilled shelf left)

-- ---- the disks after a line, and at the end ----

-- the disks of a session that has begun are with it; where none has, no disk of its number is off the shelf that was
-- not before
abbrev pub HandsOver : {D : Type 0} {g : _} → Type 0 → Meaning D → Places → Places → ℕ → Option (Session D g) → Type 0
HandsOver tells d before now number (Some session) = Lends d before now number (Some session)
HandsOver tells d before now number None = tells → (role : Role) → IsOut (now (disk_name number role))
    → IsOut (before (disk_name number role))

abbrev pub AllHandOver : {D : Type 0} {g : _} → Type 0 → Meaning D → Places → Places → List (Session D g) → Type 0
AllHandOver tells d before now begun = (number : ℕ) → HandsOver tells d before now number (found_at number begun)

-- the disks of a session that has some are off the shelf
abbrev pub AreOut : {D : Type 0} {g : _} → Places → Option (Session D g) → Type 0
AreOut now (Some (sessions.Whole id p)) = (role : Role) → IsOut (now (disk_name id role))
AreOut now (Some (sessions.Alone id p)) = Unit {0}
AreOut now None = Unit {0}

abbrev pub AllAreOut : {D : Type 0} {g : _} → Places → List (Session D g) → Type 0
AllAreOut now begun = (number : ℕ) → AreOut now (found_at number begun)

-- the session was left: its disks are on the shelf, where what they read is read, and whatever they stand for when it
-- has come to some past; a number that has no session with disks has them where they were
abbrev pub LeftAs : {D : Type 0} {g : _} → Type 0 → Meaning D → Places → Places → ℕ → Option (Session D g) → Type 0
LeftAs tells d mid after number (Some (sessions.Whole id p)) =
    (tells → (role : Role) → after (disk_name id role) ≡ OnShelf (d.reading (pump.disk_at role p)))
    × (tells → d.tells → (q : Past) → pump.StandsOrFails d p q
    → OfDisks after id (StandForLeft (pump.row_of p) q.world))
LeftAs tells d mid after number (Some (sessions.Alone id p)) = LeavesSession mid after number
LeftAs tells d mid after number None = LeavesSession mid after number

abbrev pub AllLeftAs : {D : Type 0} {g : _} → Type 0 → Meaning D → Places → Places → List (Session D g) → Type 0
AllLeftAs tells d mid after begun = (number : ℕ) → LeftAs tells d mid after number (found_at number begun)

-- this, unless it is a low side alone
abbrev pub IsAloneOr : {D : Type 0} {g : _} → Option (Session D g) → Type 0 → Type 0
IsAloneOr (Some (sessions.Alone id p)) P = Unit {0}
IsAloneOr session P = P

-- the disk of this role of the session of this number failed, or its low side alone is told so
abbrev pub IsDeviceFaultAt : ℕ → Role → Fault → Type 0
IsDeviceFaultAt number role (faults.Device session other) = (session ≡ number) × (other ≡ role)
IsDeviceFaultAt number role fault = ⊥

abbrev pub IsDeviceOutcomeOf : ℕ → Role → LineOutcome → Type 0
IsDeviceOutcomeOf number role (outcomes.Stopped fault) = IsDeviceFaultAt number role fault
IsDeviceOutcomeOf number role outcome = ⊥

abbrev pub IsDeviceFaultOf : ℕ → Role → Ended → Type 0
IsDeviceFaultOf number role (ended.Stopped fault) = IsDeviceFaultAt number role fault
IsDeviceFaultOf number role end = ⊥

-- it failed when the session was to begin, so that none has, and the shelf's count rose; or the session has begun,
-- and the disk has failed since it was given
abbrev pub DeviceFails : {S D : Type 0} {g : _} → Holdings S → Meaning D → Places → S → S → List (Session D g) → ℕ
    → Role → Type 0
DeviceFails m d before old new begun number role =
    ((found_at number begun ≡ None) × Rose (m.disk_faults old) (m.disk_faults new)
    × FailsBetween m d before (m.disk new) number role)
    ⊎ HasFailed d (m.disk new) role (found_at number begun)
