-- The transcript of a whole script, which may have up to 16 sessions of either kind. What a line does to its own
-- session stands in Scripts, as if the script had this session alone. Here each line finds its session by the number
-- that it names; the lines that begin sessions, and those that make them coarse, stand before all others; and no
-- moment falls, whichever session's line has it.
use Rattle.std.specs.Prelude.{◌≡◌, ◌⊎◌, ℕ, ◌<◌, Bool, true, false, ◌&&◌, ◌||◌, ◌==◌, not, nat_lt, nat_le, max}
use Rattle.std.specs.Prelude.{if◌then◌else◌, List, [], ◌∷◌, ◌++◌, length, filter, find, Option, Some, None}
use Rattle.std.specs.List.{AllByRecursion}
use Rattle.script_reader.specs.declared.line.Line.{Line}
use Rattle.script_reader.specs.declared.line.Line.TheVariants as lines
use Rattle.script_reader.specs.declared.fault.Fault.{Fault}
use Rattle.script_reader.specs.declared.event.Event.{Event}
use Rattle.script_reader.specs.declared.event.Event.TheVariants as prints
use Rattle.script_reader.specs.Openings.{Openings}
use Rattle.script_reader.specs.Scripts.{Begun, Whole, Alone, Leads, IsRefused, Stops, Ends}

-- ---- the session of a line ----

-- the number of the session that a line names
abbrev pub session_in : Line → Option ℕ
session_in lines.Skip = None
session_in (lines.Session row) = Some row.id
session_in (lines.LowSession row next held) = Some row.id
session_in (lines.Coarse session) = Some session
session_in (lines.Look session m w a) = Some session
session_in (lines.Told session m w fault told a) = Some session
session_in (lines.Step session m w) = Some session
session_in (lines.Gone session m) = Some session
session_in (lines.High session m) = Some session
session_in (lines.Carry session back) = Some session
session_in (lines.Return session m back) = Some session
session_in (lines.Done session m t) = Some session
session_in (lines.Restart session m) = Some session
session_in (lines.ReceiverRestart session m) = Some session

-- it begins a session
abbrev pub begins_session : Line → Bool
begins_session (lines.Session row) = true
begins_session (lines.LowSession row next held) = true
begins_session _ = false

-- it stands before all lines of another kind: it begins a session, or makes one coarse
abbrev pub stands_first : Line → Bool
stands_first (lines.Session row) = true
stands_first (lines.LowSession row next held) = true
stands_first (lines.Coarse session) = true
stands_first _ = false

-- the moment of a line that has one
abbrev pub moment_in : Line → Option ℕ
moment_in (lines.Look session m w a) = Some m
moment_in (lines.Told session m w fault told a) = Some m
moment_in (lines.Step session m w) = Some m
moment_in (lines.Gone session m) = Some m
moment_in (lines.High session m) = Some m
moment_in (lines.Return session m back) = Some m
moment_in (lines.Done session m t) = Some m
moment_in (lines.Restart session m) = Some m
moment_in (lines.ReceiverRestart session m) = Some m
moment_in _ = None

-- ---- the sessions that a script has begun ----

abbrev pub session_number : Begun → ℕ
session_number (Whole s) = s.row.id
session_number (Alone s) = s.row.id

-- the moment of the session's last line that had one
abbrev pub moment_of : Begun → ℕ
moment_of (Whole s) = s.past.moment
moment_of (Alone s) = s.past.moment

-- the session of this number
abbrev pub session_at : ℕ → List Begun → Option Begun
session_at number sessions = find (λ s. session_number s == number) sessions

-- the sessions with this one in its place, by rising number
abbrev pub with_session : Begun → List Begun → List Begun
with_session s [] = s ∷ []
with_session s (t ∷ later) =
    if nat_lt (session_number s) (session_number t) then s ∷ t ∷ later
    else (if session_number s == session_number t then s ∷ later else t ∷ with_session s later)

-- their numbers rise, so that no two have one number
abbrev pub AreRising : List Begun → Type 0
AreRising [] = Unit {0}
AreRising (s ∷ later) = AllByRecursion (λ t. session_number s < session_number t) later × AreRising later

-- what a script has come to: its sessions, the moment of the last line of any of them that had one, and whether a
-- line came that needs not stand first
pub record Sessions : Type 0 where
  pub begun : List Begun
  pub moment : ℕ
  pub is_under_way : Bool

abbrev pub no_sessions : Sessions
no_sessions = record { begun = []; moment = 0; is_under_way = false }

-- .. once a line has led its session to s
abbrev pub led_to : Sessions → Line → Begun → Sessions
led_to t line s = record {
  begun = with_session s t.begun;
  moment = max t.moment (moment_of s);
  is_under_way = t.is_under_way || not (stands_first line);
}

-- ---- a line ----

abbrev pub is_from : ℕ → Option ℕ → Bool
is_from last None = true
is_from last (Some m) = nat_le last m

-- a line that stands first comes before every line that does not, and at most 16 begin sessions; no moment is below
-- one that came before it
abbrev pub is_in_turn : Sessions → Line → Bool
is_in_turn t line =
    if stands_first line then (not t.is_under_way && (not (begins_session line) || nat_lt (length t.begun) 16))
    else is_from t.moment (moment_in line)

-- the line can be applied, leads from t to u, and prints this: it does to the session that it names what it does in a
-- script of that session alone; a skipped line does nothing
abbrev pub LeadsOne : Openings → Sessions → Line → Option ℕ → Sessions → List Event → Type 0
LeadsOne o t line None u printed = (u ≡ t) × (printed ≡ [])
LeadsOne o t line (Some number) u printed =
    (is_in_turn t line ≡ true) × ((s : Begun) × Leads o (session_at number t.begun) line (Some s) printed
    × (u ≡ led_to t line s))

abbrev pub ScriptLeads : Openings → Sessions → Line → Sessions → List Event → Type 0
ScriptLeads o t line u printed = LeadsOne o t line (session_in line) u printed

-- the line can't be applied: it is out of turn, or its session refuses it, or isn't there, or can't begin
abbrev pub RefusesOne : Sessions → Line → Option ℕ → Type 0
RefusesOne t line None = ⊥
RefusesOne t line (Some number) = (is_in_turn t line ≡ false) ⊎ IsRefused (session_at number t.begun) line

abbrev pub ScriptRefuses : Sessions → Line → Type 0
ScriptRefuses t line = RefusesOne t line (session_in line)

-- the line can be applied, and stops the script with this fault, after it has led to u and printed this
abbrev pub StopsOne : Sessions → Line → Option ℕ → Sessions → List Event → Fault → Type 0
StopsOne t line None u printed fault = ⊥
StopsOne t line (Some number) u printed fault =
    (is_in_turn t line ≡ true) × ((s : Begun) × Stops (session_at number t.begun) line (Some s) printed fault
    × (u ≡ led_to t line s))

abbrev pub ScriptStops : Sessions → Line → Sessions → List Event → Fault → Type 0
ScriptStops t line u printed fault = StopsOne t line (session_in line) u printed fault

-- ---- a script ----

-- these lines lead from t to u, and print this
abbrev pub ScriptLeadsTo : Openings → Sessions → List Line → Sessions → List Event → Type 0
ScriptLeadsTo o t [] u printed = (u ≡ t) × (printed ≡ [])
ScriptLeadsTo o t (line ∷ later) u printed =
    (mid : Sessions) × (first : List Event) × (second : List Event)
    × ScriptLeads o t line mid first × ScriptLeadsTo o mid later u second × (printed ≡ first ++ second)

-- what the end of a script prints: of each session, by rising number
abbrev pub AllEnd : List Begun → List Event → Type 0
AllEnd [] printed = printed ≡ []
AllEnd (s ∷ later) printed = (first : List Event) × (second : List Event) × Ends (Some s) first × AllEnd later second
    × (printed ≡ first ++ second)

-- the transcript of a whole script, whose lines can all be applied, and none of which stops it
abbrev pub IsScriptTranscript : Openings → List Line → List Event → Type 0
IsScriptTranscript o script printed =
    (u : Sessions) × (body : List Event) × (last : List Event)
    × ScriptLeadsTo o no_sessions script u body × AllEnd u.begun last × (printed ≡ body ++ last)

-- these lines led to u and printed this: all of them can be applied, and the last one stops the script
pub record ScriptStopsAfter (o : Openings) (script : List Line) (u : Sessions) (printed : List Event) : Type 0 where
  pub before : List Line
  pub line : Line
  pub script_is : script ≡ before ++ line ∷ []
  pub sessions : Sessions
  pub first : List Event
  pub leads : ScriptLeadsTo o no_sessions before sessions first
  pub last : List Event
  pub fault : Fault
  pub stops : ScriptStops sessions line u last fault
  pub printed_is : printed ≡ first ++ last

-- .. or none does
abbrev pub ScriptComesTo : Openings → List Line → Sessions → List Event → Type 0
ScriptComesTo o script u printed = ScriptLeadsTo o no_sessions script u printed ⊎ ScriptStopsAfter o script u printed

-- ---- one session of it ----

abbrev pub is_number : ℕ → Option ℕ → Bool
is_number number None = false
is_number number (Some other) = other == number

-- the lines of a script that name this session, in their order
abbrev pub lines_of : ℕ → List Line → List Line
lines_of number script = filter (λ line. is_number number (session_in line)) script

-- the session of a line of a transcript
abbrev pub event_session : Event → ℕ
event_session (prints.Stored session m number) = session
event_session (prints.Full session m) = session
event_session (prints.Passed session m seen) = session
event_session (prints.Released session m) = session
event_session (prints.Repeat session m seen) = session
event_session (prints.Low session m reply) = session
event_session (prints.Removed session m number time) = session
event_session (prints.Sent session m number) = session
event_session (prints.Took session number) = session
event_session (prints.Again session number) = session
event_session (prints.Attach session m count) = session
event_session (prints.Restart session m accepted removed held) = session
event_session (prints.End session accepted high) = session
event_session (prints.Show session accepted removed received) = session
event_session (prints.Live session number payload) = session

-- the lines of a transcript that are this session's, in their order
abbrev pub events_of : ℕ → List Event → List Event
events_of number printed = filter (λ event. event_session event == number) printed
