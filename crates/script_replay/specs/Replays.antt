-- What the replay of a script writes, by how it ends, and how much of the script it has taken then. `all` and `left`
-- are what the source had at the call and has after it, `old` and `new` what the sink had and has, each where it
-- tells.
use Rattle.std.specs.Prelude.{◌≡◌, ℕ, ◌+◌, ◌-◌, ◌^◌, ◌<◌, ◌≤◌, ◌==◌, min, ◌⊎◌, if◌then◌else◌, true, List, [], ◌∷◌, ◌++◌}
use Rattle.std.specs.Prelude.{length, Option, None, Some, IfSome}
use Rattle.std.specs.Io.KnownBytes.{Consumes, Appends, IsAtEnd}
use Rattle.pump_frame.specs.Counts.{Rose}
use Rattle.pump_link.specs.Causes.{AppendsPrefix}
use Rattle.pump_core.specs.Comings.{Timed}
use Rattle.pump_core.specs.Replies.{LowReplies}
use Rattle.pump_core.specs.Timed.{Step, Point}
use Rattle.script_reader.specs.declared.line.Line.{Line}
use Rattle.script_reader.specs.declared.event.Event.{Event}
use Rattle.script_reader.specs.declared.fault.Fault.{Fault}
use Rattle.script_reader.specs.declared.fault.Fault.TheVariants.{Read, Script, Device, Disk, Full}
use Rattle.script_reader.specs.declared.line.Line.TheVariants.{Session, Look}
use Rattle.disk_model.specs.declared.name.Role.{Role}
use Rattle.pump_frame.specs.declared.row.SessionRow.{SessionRow}
use Rattle.pump_frame.specs.Rows.{IsLawfulRow}
use Rattle.recovery.specs.declared.why.Why.{Why}
use Rattle.recovery.specs.Faults.{why_number, why_values}
use Rattle.script_reader.specs.Breaks.{Breaks}
use Rattle.script_reader.specs.Past.{Past}
use Rattle.script_reader.specs.Steps.{is_timely}
use Rattle.disk_model.specs.declared.name.Role.TheVariants as roles
use Rattle.script_reader.specs.Faults.{IsScriptFaulty}
use Rattle.script_reader.specs.Lines.{AreLines, IsUnended, IsSome}
use Rattle.script_reader.specs.Openings.{Openings}
use Rattle.script_reader.specs.Readouts.{low_lines, Sound}
use Rattle.script_reader.specs.Scripts.{Running, Begun, Whole, Alone}
use Rattle.script_reader.specs.Sessions.{Sessions, no_sessions, session_in, session_at, lines_of, events_of, led_to}
use Rattle.script_reader.specs.Sessions.{is_in_turn, ScriptLeadsTo, ScriptStops, ScriptComesTo, IsScriptTranscript}
use Rattle.script_reader.specs.Sides.{low_side_of, told_to_low, full_moments, averages, restarts_in, HaveOwnMoments}
use Rattle.script_reader.specs.Sides.{OpenAlike}
use Rattle.script_reader.specs.Transcript.{text, fault_line}
use Rattle.world_laws.specs.Timelines.{IsTimeline}
use Rattle.world_laws.specs.TimelinesAlone.{IsTimelineAlone}
use Rattle.script_replay.specs.Shelves.{Places, Shelved, AcknowledgedOutlive, ReceiverHasPrefix}

-- ---- what the laws say ----

-- what was printed of each session is sound
abbrev pub IsEachSound : List Begun → List Event → Type 0
IsEachSound begun printed = (number : ℕ) → Sound (session_at number begun) (events_of number printed)

-- before each of these lines, what was printed until then is so
abbrev pub AreSound : Openings → List Line → List Event → Type 0
AreSound o lines printed = (before : List Line) (line : Line) (later : List Line) → lines ≡ before ++ line ∷ later
    → (t : Sessions) × (first : List Event) × (rest : List Event)
    × ScriptLeadsTo o no_sessions before t first × (printed ≡ first ++ rest) × IsEachSound t.begun first

-- whatever other lines do, and the lines of other sessions, on whatever disks: with the same low side of a session,
-- which opens alike and to which the same was told, the session's `low` lines are the same
abbrev pub DecideLow : Openings → List Line → List Event → Type 0
DecideLow o lines printed = (p : Openings) (others : List Line) (after : Sessions) (events : List Event)
    → ScriptComesTo p others after events → (number : ℕ) → OpenAlike o p (lines_of number lines)
    → low_side_of (lines_of number lines) ≡ low_side_of (lines_of number others)
    → told_to_low (events_of number printed) ≡ told_to_low (events_of number events)
    → low_lines (events_of number printed) ≡ low_lines (events_of number events)

-- .. and where no two of its looks have one moment, with the same moments of a full buffer, the same averages, and a
-- buffer that each restart finds full in both or in none
abbrev pub DecideLowByMoments : Openings → List Line → List Event → Type 0
DecideLowByMoments o lines printed = (p : Openings) (others : List Line) (after : Sessions) (events : List Event)
    → ScriptComesTo p others after events → (number : ℕ) → OpenAlike o p (lines_of number lines)
    → low_side_of (lines_of number lines) ≡ low_side_of (lines_of number others)
    → HaveOwnMoments (low_side_of (lines_of number lines))
    → full_moments (events_of number printed) ≡ full_moments (events_of number events)
    → restarts_in (events_of number printed) ≡ restarts_in (events_of number events)
    → averages (events_of number printed) ≡ averages (events_of number events)
    → low_lines (events_of number printed) ≡ low_lines (events_of number events)

-- What holds of these lines, which came to `after` and printed this, and the last of which may have stopped the
-- script. At their end, and before each of them, of each session: its `low` lines are the replies of its low history,
-- each with its moment; no more messages are live than there are places, no more are held than lie between the hands,
-- the receiver's list is a prefix of the accepted one, and at most 64 arrivals wait. And what its Low was told
-- decides its `low` lines
pub record KeepLaws (o : Openings) (lines : List Line) (after : Sessions) (printed : List Event) : Type 0 where
  pub sound : IsEachSound after.begun printed
  pub each : AreSound o lines printed
  pub low : DecideLow o lines printed
  pub by_moments : DecideLowByMoments o lines printed

-- what the session has been through is a timed run, of which its looks were told; to a low side alone its arrivals came
-- as they come on a connection
abbrev pub IsTimed : Option Begun → Type 0
IsTimed None = Unit {0}
IsTimed (Some (Whole s)) = (steps : List Step) × (t : Point) × IsTimeline s.row s.past steps t
IsTimed (Some (Alone s)) = (events : List Timed) × IsTimelineAlone s.row s.past events

-- ---- the lines so far ----

-- these lines were read, all could be applied on disks that were found so, and they print these events; what is left of
-- the script is `rest`
pub record IsSoFar (o : Openings) (all rest : Option (List ℕ)) (lines : List Line) (events : List Event)
    (sessions : Sessions) : Type 0 where
  pub spelled : AreLines all lines rest
  pub leads : ScriptLeadsTo o no_sessions lines sessions events

-- the lines of a script that were replayed, what the disks were found to hold, what the lines print, and the sessions
-- and the rest that they leave
pub record Replayed (all : Option (List ℕ)) : Type 0 where
  pub openings : Openings
  pub lines : List Line
  pub events : List Event
  pub sessions : Sessions
  pub rest : Option (List ℕ)
  pub so_far : IsSoFar openings all rest lines events sessions
  pub few : length lines < 2 ^ 32
  pub laws : KeepLaws openings lines sessions events
  pub timed : (number : ℕ) → IsTimed (session_at number sessions.begun)

-- after so many lines: the next one is outside the grammar or can't be applied, or would have the number 2^32
abbrev pub IsFaultyAt : ℕ → Option (List ℕ) → Sessions → Type 0
IsFaultyAt number rest sessions = IsScriptFaulty rest sessions ⊎ ((number ≡ 2 ^ 32 - 1) × IfSome rest IsSome)

-- after so many lines: the next one can be applied, has a number below 2^32, and stops the script with this fault,
-- after it has led to `after` and printed this
pub record Stopping (rest : Option (List ℕ)) (number : ℕ) (sessions : Sessions) (fault : Fault) : Type 0 where
  pub few : number + 1 < 2 ^ 32
  pub line : Line
  pub left : Option (List ℕ)
  pub spelled : AreLines rest (line ∷ []) left
  pub after : Sessions
  pub printed : List Event
  pub stops : ScriptStops sessions line after printed fault

-- the line can be applied, and is cut short by the device of a disk of this role of its session, which has led to
-- `past`, in which a call may be unfinished, and printed this
pub record BreaksLine (sessions : Sessions) (line : Line) (printed : List Event) : Type 0 where
  pub in_turn : is_in_turn sessions line ≡ true
  pub session : Running
  pub named : session_in line ≡ Some session.row.id
  pub there : session_at session.row.id sessions.begun ≡ Some (Whole session)
  pub timely : is_timely session.row session.past line ≡ true
  pub role : Role
  pub past : Past
  pub breaks : Breaks session.row session.past line role past printed

-- the look that the line was, where its store failed
abbrev pub lost_look : Line → Role → List Line
lost_look (Look session m w a) roles.Low = Look session m w a ∷ []
lost_look _ role = []

-- .. of the session of this number
abbrev pub lost_in : ℕ → {t : Sessions} {line : Line} {printed : List Event} → BreaksLine t line printed → List Line
lost_in number {line = line} off = if off.session.row.id == number then lost_look line off.role else []

-- These lines were applied and printed this, and the last may have stopped the script; or a disk then cut one more
-- line short, which is printed too. `lost` has, by the session's number, the look whose store failed
abbrev pub ComesOrBreaks : Openings → List Line → List Event → (ℕ → List Line) → Type 0
ComesOrBreaks o lines printed lost =
    ((after : Sessions) × ScriptComesTo o lines after printed × ((number : ℕ) → lost number ≡ []))
    ⊎ ((t : Sessions) × (events : List Event) × ScriptLeadsTo o no_sessions lines t events
    × (line : Line) × (last : List Event) × (off : BreaksLine t line last) × (printed ≡ events ++ last)
    × ((number : ℕ) → lost number ≡ lost_in number off))

-- as `DecideLow`, with the look whose store failed as one more of low's own arguments
abbrev pub DecideLowLost : Openings → List Line → List Event → (ℕ → List Line) → Type 0
DecideLowLost o lines printed lost = (p : Openings) (others : List Line) (events : List Event) (lost_there : ℕ
    → List Line)
    → ComesOrBreaks p others events lost_there → (number : ℕ) → OpenAlike o p (lines_of number lines)
    → low_side_of (lines_of number lines) ≡ low_side_of (lines_of number others) → lost number ≡ lost_there number
    → told_to_low (events_of number printed) ≡ told_to_low (events_of number events)
    → low_lines (events_of number printed) ≡ low_lines (events_of number events)

-- as `DecideLowByMoments`
abbrev pub DecideLostByMoments : Openings → List Line → List Event → (ℕ → List Line) → Type 0
DecideLostByMoments o lines printed lost = (p : Openings) (others : List Line) (events : List Event) (lost_there : ℕ
    → List Line)
    → ComesOrBreaks p others events lost_there → (number : ℕ) → OpenAlike o p (lines_of number lines)
    → low_side_of (lines_of number lines) ≡ low_side_of (lines_of number others) → lost number ≡ lost_there number
    → HaveOwnMoments (low_side_of (lines_of number lines))
    → full_moments (events_of number printed) ≡ full_moments (events_of number events)
    → restarts_in (events_of number printed) ≡ restarts_in (events_of number events)
    → averages (events_of number printed) ≡ averages (events_of number events)
    → low_lines (events_of number printed) ≡ low_lines (events_of number events)

-- after so many lines: so of the next one, which has a number below 2^32
pub record Breaking (rest : Option (List ℕ)) (number : ℕ) (sessions : Sessions) : Type 0 where
  pub few : number + 1 < 2 ^ 32
  pub line : Line
  pub left : Option (List ℕ)
  pub spelled : AreLines rest (line ∷ []) left
  pub printed : List Event
  pub off : BreaksLine sessions line printed

-- after so many lines: the next one is in its turn to begin the session of this row, which isn't there, and has a
-- number below 2^32
pub record Beginning (rest : Option (List ℕ)) (number : ℕ) (sessions : Sessions) (row : SessionRow) : Type 0 where
  pub few : number + 1 < 2 ^ 32
  pub left : Option (List ℕ)
  pub spelled : AreLines rest (Session row ∷ []) left
  pub in_turn : is_in_turn sessions (Session row) ≡ true
  pub none : session_at row.id sessions.begun ≡ None
  pub lawful : IsLawfulRow row

-- the fault of the line after so many
abbrev pub fault_after : ℕ → Fault
fault_after number = Script (min (number + 1) (2 ^ 32 - 1))

-- ---- how much was taken ----

-- at most 4,096 bytes of the rest were taken
abbrev pub IsNear : Option (List ℕ) → Option (List ℕ) → Type 0
IsNear rest left = (taken : List ℕ) × Consumes rest left taken × (length taken ≤ 4096)

-- .. none of them a line end, so that no whole line that was taken is among them
abbrev pub IsWithinLine : Option (List ℕ) → Option (List ℕ) → Type 0
IsWithinLine rest left = (taken : List ℕ) × Consumes rest left taken × (length taken ≤ 4096) × IsUnended taken

-- at most 4,096 bytes were taken from the line after these on, or from the last of these, or all lines were read
abbrev pub IsNearLast : Option (List ℕ) → Option (List ℕ) → Type 0
IsNearLast rest left = IsAtEnd rest ⊎ (IsNear rest left ⊎ ((line : Line) × (begin : Option (List ℕ))
    × AreLines begin (line ∷ []) rest × IsNear begin left))

-- ---- the ends of a replay ----

-- the script is at its end: the output is its transcript, in which the lines of each session are those of the script
-- that has its lines alone
pub record IsFinished (shelf : Shelved) {all : Option (List ℕ)} (r : Replayed all) (output : List ℕ) : Type 0 where
  pub ended : IsAtEnd r.rest
  pub printed : List Event
  pub transcript : IsScriptTranscript r.openings r.lines printed
  pub sound : IsEachSound r.sessions.begun printed
  pub alone : (number : ℕ) → IsScriptTranscript r.openings (lines_of number r.lines) (events_of number printed)
  pub output_is : output ≡ text printed
  pub disks : shelf.keeps r.openings r.sessions.begun printed

-- there was no memory for the next line: nothing is written. At most 4,096 bytes were taken from that line on
pub record IsWaiting (shelf : Shelved) {all : Option (List ℕ)} (left : Option (List ℕ)) (r : Replayed all)
    (output : List ℕ) : Type 0 where
  pub taken : IsNear r.rest left
  pub output_is : output ≡ []
  pub disks : shelf.waits r.sessions.begun

-- a read failed, and every whole line that was taken was replayed: the output is what they print, and the fault
pub record IsUnread (shelf : Shelved) {all : Option (List ℕ)} (left : Option (List ℕ)) (before now : ℕ)
    (r : Replayed all) (output : List ℕ) : Type 0 where
  pub rose : Rose before now
  pub taken : IsWithinLine r.rest left
  pub output_is : output ≡ text r.events ++ fault_line Read
  pub disks : shelf.keeps r.openings r.sessions.begun r.events

-- the next line is faulty: the output is what the lines before it print, and the fault with its number. At most 4,096
-- bytes were taken from the faulty line on
pub record IsFaulted (shelf : Shelved) {all : Option (List ℕ)} (left : Option (List ℕ)) (r : Replayed all)
    (output : List ℕ) : Type 0 where
  pub faulty : IsFaultyAt (length r.lines) r.rest r.sessions
  pub taken : IsNear r.rest left
  pub output_is : output ≡ text r.events ++ fault_line (fault_after (length r.lines))
  pub disks : shelf.keeps r.openings r.sessions.begun r.events

-- the next line stops the script: the output is what the lines before it print, what it prints up to its stop, and the
-- fault, and the laws hold of all that is printed. At most 4,096 bytes were taken from that line on
pub record IsStopped (shelf : Shelved) {all : Option (List ℕ)} (left : Option (List ℕ)) (fault : Fault)
    (r : Replayed all) (output : List ℕ) : Type 0 where
  pub next : Stopping r.rest (length r.lines) r.sessions fault
  pub laws : KeepLaws r.openings (r.lines ++ next.line ∷ []) next.after (r.events ++ next.printed)
  pub taken : IsNear r.rest left
  pub output_is : output ≡ text (r.events ++ next.printed) ++ fault_line fault
  pub disks : shelf.keeps r.openings next.after.begun (r.events ++ next.printed)

-- .. the device of its low disk fails in a store, as the line tells
abbrev pub IsFailedAt : Shelved → {all : Option (List ℕ)} → Option (List ℕ) → ℕ → Replayed all → List ℕ → Type 0
IsFailedAt shelf left session r output = IsStopped shelf left (Device session roles.Low) r output

abbrev pub IsFailed : Shelved → {all : Option (List ℕ)} → Option (List ℕ) → Replayed all → List ℕ → Type 0
IsFailed shelf left r output = (session : ℕ) × IsFailedAt shelf left session r output

-- .. a message does not fit on the receiver's disk
abbrev pub IsOverfilled : Shelved → {all : Option (List ℕ)} → Option (List ℕ) → Replayed all → List ℕ → Type 0
IsOverfilled shelf left r output = (session end size_of_message size : ℕ)
    × IsStopped shelf left (Full session end size_of_message size) r output

-- the disk of this role of this session fails in the next line: the output is what the lines before it print, what it
-- prints up to then, and the fault; the session's `low` lines are the replies of its low history, the refusal of a
-- look whose store failed with them, and what its Low was told decides them
pub record IsBroken (shelf : Shelved) {all : Option (List ℕ)} (left : Option (List ℕ)) (session : ℕ) (role : Role)
    (r : Replayed all) (output : List ℕ) : Type 0 where
  pub next : Breaking r.rest (length r.lines) r.sessions
  pub session_is : session ≡ next.off.session.row.id
  pub role_is : role ≡ next.off.role
  pub taken : IsNear r.rest left
  pub output_is : output ≡ text (r.events ++ next.printed) ++ fault_line (Device next.off.session.row.id next.off.role)
  pub replies : LowReplies next.off.session.row next.off.past.history
      (low_lines (events_of next.off.session.row.id r.events ++ next.printed))
  pub low : DecideLowLost r.openings r.lines (r.events ++ next.printed) (λ number. lost_in number next.off)
  pub by_moments : DecideLostByMoments r.openings r.lines (r.events ++ next.printed) (λ number. lost_in number next.off)
  pub disks : shelf.breaks r.openings r.sessions.begun (record { row = next.off.session.row; past = next.off.past })
      r.events

-- the disk of this role can't be taken off the shelf, or fails when it is opened for this session, which the next
-- line is to begin
pub record IsUnopened (shelf : Shelved) {all : Option (List ℕ)} (left : Option (List ℕ)) (session : ℕ) (role : Role)
    (r : Replayed all) (output : List ℕ) : Type 0 where
  pub row : SessionRow
  pub next : Beginning r.rest (length r.lines) r.sessions row
  pub session_is : session ≡ row.id
  pub taken : IsNear r.rest left
  pub output_is : output ≡ text r.events ++ fault_line (Device row.id role)
  pub disks : shelf.spares r.openings r.sessions.begun row.id r.events

-- the disks are refused that are opened for the session which the next line is to begin: the fault has the first cause
pub record IsBarred (shelf : Shelved) {all : Option (List ℕ)} (left : Option (List ℕ)) (r : Replayed all)
    (output : List ℕ) : Type 0 where
  pub row : SessionRow
  pub next : Beginning r.rest (length r.lines) r.sessions row
  pub taken : IsNear r.rest left
  pub role : Role
  pub why : Why
  pub output_is : output ≡ text r.events ++ fault_line (Disk row.id role (why_number why) (why_values why).0
      (why_values why).1)
  pub disks : shelf.refuses r.openings r.sessions.begun row role why r.events

-- this disk fails: in a line of a whole session, or when its disks are opened
abbrev pub IsDiskDown : Shelved → {all : Option (List ℕ)} → Option (List ℕ) → ℕ → Role → Replayed all → List ℕ → Type 0
IsDiskDown shelf left session role r output = IsBroken shelf left session role r output
    ⊎ IsUnopened shelf left session role r output

-- a device of this session stops the script: as a line tells, or this disk fails
abbrev pub IsDownAt : Shelved → {all : Option (List ℕ)} → Option (List ℕ) → ℕ → Role → Replayed all → List ℕ → Type 0
IsDownAt shelf left session role r output = IsFailedAt shelf left session r output
    ⊎ IsDiskDown shelf left session role r output

-- so of some session: the fault names the disk that fails, by `fails`
abbrev pub IsDown : Shelved → (ℕ → Role → Type 0) → {all : Option (List ℕ)} → Option (List ℕ) → Replayed all → List ℕ
    → Type 0
IsDown shelf fails left r output = IsFailed shelf left r output
    ⊎ ((session : ℕ) × (role : Role) × IsDiskDown shelf left session role r output × fails session role)

-- the output is what a replay that has come so far writes, or begins with
abbrev pub IsOutput : Shelved → {all : Option (List ℕ)} → Option (List ℕ) → ℕ → ℕ → Replayed all → List ℕ → Type 0
IsOutput shelf left before now r output = ((output ≡ text r.events) × shelf.keeps r.openings r.sessions.begun r.events)
    ⊎ (IsFinished shelf r output
    ⊎ (IsFaulted shelf left r output
    ⊎ (IsUnread shelf left before now r output
    ⊎ (IsOverfilled shelf left r output
    ⊎ (((session : ℕ) × (role : Role) × IsDownAt shelf left session role r output)
    ⊎ IsBarred shelf left r output)))))

-- a prefix of what a replay writes that has taken no more than this of the script
abbrev pub IsCutOff : Shelved → {all : Option (List ℕ)} → Option (List ℕ) → ℕ → ℕ → Replayed all → List ℕ → Type 0
IsCutOff shelf left before now r output = IsNearLast r.rest left × IsOutput shelf left before now r output

-- ---- what was written ----

-- a replay of the script has come so far that it ends so, and its output was written
abbrev pub Wrote : (all old new : Option (List ℕ)) → (Replayed all → List ℕ → Type 0) → Type 0
Wrote all old new End = (r : Replayed all) × (output : List ℕ) × End r output × Appends old new output

-- .. a prefix of its output was
abbrev pub WrotePrefix : (all old new : Option (List ℕ)) → (Replayed all → List ℕ → Type 0) → Type 0
WrotePrefix all old new End = (r : Replayed all) × (output : List ℕ) × End r output × AppendsPrefix old new output

-- ---- the headline, by what is read of the disks at the return ----

-- a device stopped the replay: as a line told, in a line of a whole session, which was cut short, or when its disks
-- were opened. It has come to these sessions, and has printed this and nothing else but the fault
abbrev pub EndsDown : Shelved → {all : Option (List ℕ)} → Option (List ℕ) → Replayed all → List ℕ → Sessions
    → List Event → Type 0
EndsDown shelf left r output t printed =
    ((session : ℕ) × (end : IsFailedAt shelf left session r output) × (t ≡ end.next.after)
    × (printed ≡ r.events ++ end.next.printed))
    ⊎ (((session : ℕ) × (role : Role) × (end : IsBroken shelf left session role r output)
    × (t ≡ led_to r.sessions end.next.line
    (Whole (record { row = end.next.off.session.row; past = end.next.off.past })))
    × (printed ≡ r.events ++ end.next.printed))
    ⊎ ((session : ℕ) × (role : Role) × IsUnopened shelf left session role r output × (t ≡ r.sessions)
    × (printed ≡ r.events)))

-- so of a replay that has this status where its output is written
abbrev pub EndsBy : ℕ → Shelved → {all : Option (List ℕ)} → Option (List ℕ) → ℕ → ℕ → Replayed all → List ℕ → Sessions
    → List Event → Type 0
EndsBy status shelf left before now r output t printed =
    ((status ≡ 0) × ((end : IsFinished shelf r output) × (t ≡ r.sessions) × (printed ≡ end.printed)))
    ⊎ (((status ≡ 3) × IsUnread shelf left before now r output × (t ≡ r.sessions) × (printed ≡ r.events))
    ⊎ (((status ≡ 5) × IsFaulted shelf left r output × (t ≡ r.sessions) × (printed ≡ r.events))
    ⊎ (((status ≡ 7) × EndsDown shelf left r output t printed)
    ⊎ (((status ≡ 8) × IsBarred shelf left r output × (t ≡ r.sessions) × (printed ≡ r.events))
    ⊎ ((status ≡ 10) × ((session at length size : ℕ)
    × (end : IsStopped shelf left (Full session at length size) r output)
    × (t ≡ end.next.after) × (printed ≡ r.events ++ end.next.printed)))))))

-- .. and of one that has taken no more than this of the script, and whose output could not be written: that is what its
-- lines print, or all that it writes with another status
abbrev pub EndsCutOff : Shelved → {all : Option (List ℕ)} → Option (List ℕ) → ℕ → ℕ → Replayed all → List ℕ → Sessions
    → List Event → Type 0
EndsCutOff shelf left before now r output t printed = IsNearLast r.rest left
    × (((output ≡ text r.events) × shelf.keeps r.openings r.sessions.begun r.events × (t ≡ r.sessions)
    × (printed ≡ r.events))
    ⊎ ((other : ℕ) × EndsBy other shelf left before now r output t printed))

-- a replay of the script ended so with this status, and its output was written, or with status 4 a prefix of it; and
-- this holds of the sessions to which it came and of all that it printed, whether it was written or not
abbrev pub EndedWith : ℕ → Shelved → (all left old new : Option (List ℕ)) → ℕ → ℕ → (Sessions → List Event → Type 0)
    → Type 0
EndedWith status shelf all left old new before now Holds =
    (r : Replayed all) × (output : List ℕ) × (t : Sessions) × (printed : List Event) × Holds t printed
    × ((EndsBy status shelf left before now r output t printed × Appends old new output)
    ⊎ ((status ≡ 4) × EndsCutOff shelf left before now r output t printed × AppendsPrefix old new output))

-- each message whose acknowledgement was printed is on the disks of its session
abbrev pub HaveOutlived : Places → Sessions → List Event → Type 0
HaveOutlived after t printed = (number : ℕ)
    → AcknowledgedOutlive after (session_at number t.begun) (events_of number printed)

-- the receiver of each session has a prefix of what the session accepted, each message once and in order
abbrev pub HaveReceived : Places → Sessions → List Event → Type 0
HaveReceived after t printed = (number : ℕ) → ReceiverHasPrefix after (session_at number t.begun)
