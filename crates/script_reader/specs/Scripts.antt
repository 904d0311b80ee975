-- The transcript of a whole script, which has one session: a whole one, or a low side alone. It depends on
-- what the disks of a whole session were found to hold.
use Rattle.std.specs.Prelude.{◌≡◌, ◌⊎◌, ℕ, Bool, true, false, ◌&&◌, ◌==◌, not, List, [], ◌∷◌, ◌++◌, length, Option}
use Rattle.std.specs.Prelude.{Some, None}
use Rattle.disk_model.specs.declared.name.Role.TheVariants as roles
use Rattle.pump_frame.specs.Rows.{first_bad, IsLawfulRow}
use Rattle.pump_frame.specs.declared.row.RowKey.{RowKey}
use Rattle.pump_frame.specs.declared.row.SessionRow.{SessionRow}
use Rattle.pump_core.specs.Exchanges.{count_after, Part, IsCut}
use Rattle.script_reader.specs.declared.line.Line.{Line}
use Rattle.script_reader.specs.declared.line.Line.TheVariants as lines
use Rattle.script_reader.specs.declared.fault.Fault.{Fault}
use Rattle.script_reader.specs.declared.fault.Fault.TheVariants as faults
use Rattle.script_reader.specs.declared.event.Event.{Event}
use Rattle.script_reader.specs.declared.event.Event.TheVariants.{End}
use Rattle.script_reader.specs.Past.{Past}
use Rattle.script_reader.specs.Openings.{Openings, CanOpen, first_past}
use Rattle.script_reader.specs.Steps.{is_timely, LineStep, IsRefusedWhole, Overfills}
use Rattle.script_reader.specs.Alone.{PastAlone, fresh_alone, is_apt_alone, StepAlone, IsRefusedAlone}

-- a whole session that a script has begun: its row, and what it has been through
pub record Running : Type 0 where
  pub row : SessionRow
  pub past : Past

-- so a low side alone
pub record RunningAlone : Type 0 where
  pub row : SessionRow
  pub past : PastAlone

-- the session that a script has begun
pub data Begun : Type 0 where
  Whole : (s : Running) → Begun
  Alone : (s : RunningAlone) → Begun

-- a session line begins a lawful row's session on what its disks were found to hold
abbrev pub BeginsWhole : Openings → SessionRow → Option Begun → Type 0
BeginsWhole o row running =
    IsLawfulRow row × CanOpen row (o row.id)
    × (running ≡ Some (Whole (record { row = row; past = first_past row (o row.id) })))

-- so does the line of a low side alone
abbrev pub BeginsAlone : SessionRow → ℕ → Bool → Option Begun → Type 0
BeginsAlone row next held running =
    IsLawfulRow row × (running ≡ Some (Alone (record { row = row; past = fresh_alone next held })))

-- a line of the session can be applied, and does what it does
abbrev pub GoesWhole : Running → Line → Option Begun → List Event → Type 0
GoesWhole s line running printed =
    (is_timely s.row s.past line ≡ true)
    × ((q : Past) × LineStep s.row s.past line q printed × (running ≡ Some (Whole (record { row = s.row; past = q }))))

abbrev pub GoesAlone : RunningAlone → Line → Option Begun → List Event → Type 0
GoesAlone s line running printed =
    (is_apt_alone s.row s.past line ≡ true)
    × ((q : PastAlone) × StepAlone s.row s.past line false q printed
    × (running ≡ Some (Alone (record { row = s.row; past = q }))))

abbrev pub GoesOn : Begun → Line → Option Begun → List Event → Type 0
GoesOn (Whole s) line running printed = GoesWhole s line running printed
GoesOn (Alone s) line running printed = GoesAlone s line running printed

-- ---- a session that is made coarse ----

-- before its first line: of a lawful row, on what its disks were found to hold
abbrev pub IsNew : Openings → Begun → Type 0
IsNew o (Whole s) = IsLawfulRow s.row × CanOpen s.row (o s.row.id) × (s.past ≡ first_past s.row (o s.row.id))
IsNew o (Alone s) = (next : ℕ) × (held : Bool) × (s.past ≡ fresh_alone next held)

-- the row of a coarse session
abbrev pub coarsened : SessionRow → SessionRow
coarsened row = record row { coarse = true }

-- the session with such a row, and all else as it was
abbrev pub made_coarse : Begun → Begun
made_coarse (Whole s) = Whole (record { row = coarsened s.row; past = s.past })
made_coarse (Alone s) = Alone (record { row = coarsened s.row; past = s.past })

-- the line names the session, which is not coarse
abbrev pub may_coarsen : ℕ → Begun → Bool
may_coarsen session (Whole s) = session == s.row.id && not s.row.coarse
may_coarsen session (Alone s) = session == s.row.id && not s.row.coarse

-- such a line, before all else that is done with the session, makes it coarse
abbrev pub Coarsens : Openings → Begun → ℕ → Option Begun → Type 0
Coarsens o s session after = (may_coarsen session s ≡ true) × IsNew o s × (after ≡ Some (made_coarse s))

-- ---- lines ----

-- the line can be applied, leads from `running` to `after`, and prints this: a skipped line does
-- nothing, the first line that is not skipped begins the session, one may make it coarse, and all others
-- are the session's
abbrev pub Leads : Openings → Option Begun → Line → Option Begun → List Event → Type 0
Leads o running lines.Skip after printed = (after ≡ running) × (printed ≡ [])
Leads o None (lines.Session row) after printed = BeginsWhole o row after × (printed ≡ [])
Leads o None (lines.LowSession row next held) after printed = BeginsAlone row next held after × (printed ≡ [])
Leads o None line after printed = ⊥
Leads o (Some s) (lines.Coarse session) after printed = Coarsens o s session after × (printed ≡ [])
Leads o (Some s) line after printed = GoesOn s line after printed

-- the line can't be applied: it is another line where there is no session, a session line with a
-- number outside its range, one that would make coarse what is coarse or not new, or what the session has
-- been through refuses it
abbrev pub IsRefused : Option Begun → Line → Type 0
IsRefused running lines.Skip = ⊥
IsRefused None (lines.Session row) = (key : RowKey) × (first_bad row ≡ Some key)
IsRefused None (lines.LowSession row next held) = (key : RowKey) × (first_bad row ≡ Some key)
IsRefused None line = Unit {0}
IsRefused (Some s) (lines.Coarse session) = (may_coarsen session s ≡ false) ⊎ ((o : Openings) → IsNew o s → ⊥)
IsRefused (Some (Whole s)) line = IsRefusedWhole s.row s.past line
IsRefused (Some (Alone s)) line = IsRefusedAlone s.row s.past line

-- the line can be applied, and stops the script with this fault, after it has led to `after` and printed
-- this: a message does not fit at the receiver, or the device of a low side alone fails in a store
abbrev pub Stops : Option Begun → Line → Option Begun → List Event → Fault → Type 0
Stops None line after printed fault = ⊥
Stops (Some (Whole s)) line after printed fault =
    (is_timely s.row s.past line ≡ true)
    × ((q : Past) × (end size_of_message size : ℕ) × Overfills s.row s.past line q printed end size_of_message size
    × (fault ≡ faults.Full s.row.id end size_of_message size)
    × (after ≡ Some (Whole (record { row = s.row; past = q }))))
Stops (Some (Alone s)) line after printed fault =
    (is_apt_alone s.row s.past line ≡ true)
    × ((q : PastAlone) × StepAlone s.row s.past line true q printed
    × (fault ≡ faults.Device s.row.id roles.Low) × (after ≡ Some (Alone (record { row = s.row; past = q }))))

-- these lines lead from `running` to `after`, and print this
abbrev pub LeadTo : Openings → Option Begun → List Line → Option Begun → List Event → Type 0
LeadTo o running [] after printed = (after ≡ running) × (printed ≡ [])
LeadTo o running (line ∷ later) after printed =
    (mid : Option Begun) × (first : List Event) × (second : List Event)
    × Leads o running line mid first × LeadTo o mid later after second × (printed ≡ first ++ second)

-- how many messages of the session were accepted, removed and received
abbrev pub end_of : SessionRow → Past → Event
end_of row p = End row.id (length p.world.accepted) (Some (p.world.removed, length p.world.received))

-- how many messages a low side alone has stored
abbrev pub IsEndAlone : SessionRow → PastAlone → Event → Type 0
IsEndAlone row p event = (parts : List Part) × IsCut row p.history.life parts
    × (event ≡ End row.id (count_after p.history.life.opening parts) None)

-- what the end of a script prints
abbrev pub Ends : Option Begun → List Event → Type 0
Ends None printed = printed ≡ []
Ends (Some (Whole s)) printed = printed ≡ end_of s.row s.past ∷ []
Ends (Some (Alone s)) printed = (event : Event) × IsEndAlone s.row s.past event × (printed ≡ event ∷ [])

-- the transcript of a whole script, whose lines can all be applied, and none of which stops it
abbrev pub IsTranscript : Openings → List Line → List Event → Type 0
IsTranscript o script printed =
    (after : Option Begun) × (body : List Event) × (last : List Event)
    × LeadTo o None script after body × Ends after last × (printed ≡ body ++ last)

-- these lines led to `after` and printed this: all of them can be applied, and the last one may stop the
-- script
pub record StopsAfter (o : Openings) (script : List Line) (after : Option Begun) (printed : List Event) : Type 0 where
  pub before : List Line
  pub line : Line
  pub script_is : script ≡ before ++ line ∷ []
  pub running : Option Begun
  pub first : List Event
  pub leads : LeadTo o None before running first
  pub last : List Event
  pub fault : Fault
  pub stops : Stops running line after last fault
  pub printed_is : printed ≡ first ++ last

abbrev pub ComesTo : Openings → List Line → Option Begun → List Event → Type 0
ComesTo o script after printed = LeadTo o None script after printed ⊎ StopsAfter o script after printed
