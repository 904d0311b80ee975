-- What a script tells of a low side alone by its lines, whatever the shelf and its disks tell.
use Rattle.std.specs.Prelude.{◌≡◌, ℕ, Bool, false, List, [], ◌∷◌, ◌++◌, Option, None, Some}
use Rattle.disk_model.specs.Disk.{Meaning}
use Rattle.disk_model.specs.declared.name.Role.{Role}
use Rattle.disk_model.specs.declared.name.Role.TheVariants as roles
use Rattle.script_reader.specs.declared.line.Line.{Line}
use Rattle.script_reader.specs.declared.event.Event.{Event}
use Rattle.script_reader.specs.declared.fault.Fault.TheVariants as faults
use Rattle.script_reader.specs.Lines.{AreLines}
use Rattle.script_reader.specs.Openings.{new_disks}
use Rattle.script_reader.specs.Scripts.{RunningAlone, Begun, Alone, IsNew, LeadTo, Stops}
use Rattle.script_reader.specs.Sessions.{lines_of}
use Rattle.script_replay.specs.declared.session.Session.{Session}
use Rattle.script_replay.specs.declared.session.Session.TheVariants as sessions
use Rattle.script_replay.specs.declared.sessions.Sessions.{Sessions}
use Rattle.script_replay.specs.declared.outcome.LineOutcome.{LineOutcome}
use Rattle.script_replay.specs.declared.outcome.LineOutcome.TheVariants as outcomes
use Rattle.script_replay.specs.Sessions.{StandsFor, found_at}
use Rattle.script_replay.specs.Replays.{IsNear}
use Rattle.script_replay.specs.Runners.{IsDeviceOutcomeOf}

-- those of the lines that name this session begin a low side alone, and lead it to this; and the next line, whose
-- store fails as it is told, stops it
pub record StopsAsTold (lines : List Line) (line : Line) (session : ℕ) : Type 0 where
  pub alone : RunningAlone
  pub printed : List Event
  pub leads : LeadTo new_disks None (lines_of session lines) (Some (Alone alone)) printed
  pub after : Option Begun
  pub last : List Event
  pub stops : Stops (Some (Alone alone)) line after last (faults.Device session roles.Low)

-- the script tells the fault of a disk: these lines come first, and the next one stops a low side alone, as it is
-- told. At most 4,096 bytes were taken from that line on
pub record TellsFault (all left : Option (List ℕ)) : Type 0 where
  pub lines : List Line
  pub from : Option (List ℕ)
  pub spelled : AreLines all lines from
  pub line : Line
  pub rest : Option (List ℕ)
  pub next : AreLines from (line ∷ []) rest
  pub taken : IsNear from left
  pub session : ℕ
  pub told : StopsAsTold lines line session

-- ---- while the script runs: it serves the private functions and the proofs ----

-- these lines begin a low side alone, and lead it to what the session stands for; it is new until a line came that
-- needs not stand first
pub record IsLedBy {D : Type 0} {g : _} (d : Meaning D) (is_under_way : Bool) (session : Session D g)
    (lines : List Line) : Type 0 where
  pub alone : RunningAlone
  pub printed : List Event
  pub stands : StandsFor d session (Alone alone)
  pub leads : LeadTo new_disks None lines (Some (Alone alone)) printed
  pub is_new : is_under_way ≡ false → IsNew new_disks (Alone alone)

-- so, if it is a low side alone; and where there is no session, there are no lines
abbrev pub IsMadeBy : {D : Type 0} {g : _} → Meaning D → Bool → Option (Session D g) → List Line → Type 0
IsMadeBy d is_under_way None lines = lines ≡ []
IsMadeBy d is_under_way (Some (sessions.Whole id p)) lines = Unit {0}
IsMadeBy {D} {g} d is_under_way (Some (sessions.Alone id p)) lines = IsLedBy {g = g} d is_under_way
    (sessions.Alone id p) lines

-- .. of each number, by the lines that name it
abbrev pub AllAreMadeBy : {D : Type 0} {g : _} → Meaning D → Sessions D g → List Line → Type 0
AllAreMadeBy d s lines = (number : ℕ)
    → IsMadeBy d s.is_under_way (found_at number s.begun.items) (lines_of number lines)

-- this, if it is a low side alone
abbrev pub IfAlone : {D : Type 0} {g : _} → Option (Session D g) → Type 0 → Type 0
IfAlone None P = Unit {0}
IfAlone (Some (sessions.Whole id p)) P = Unit {0}
IfAlone (Some (sessions.Alone id p)) P = P

-- after these lines the next one leads the sessions to these; where it stops a low side alone for a device, it tells so
pub record GoesAsTold {D : Type 0} {g : _} (d : Meaning D) (s : Sessions D g) (lines : List Line) (line : Line)
    (outcome : LineOutcome) : Type 0 where
  pub applied : outcome ≡ outcomes.Applied → AllAreMadeBy d s (lines ++ line ∷ [])
  pub stopped : (number : ℕ) (role : Role) → IsDeviceOutcomeOf number role outcome
      → IfAlone (found_at number s.begun.items) (StopsAsTold lines line number)
