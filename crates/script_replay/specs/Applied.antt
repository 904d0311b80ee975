-- What a line of a script does to a replay: to its sessions and their disks, to what is held, and to what was written.
-- It serves the private functions and the proofs.
use Rattle.std.specs.Prelude.{◌≡◌, ◌<◌, ℕ, Bool, true, false, List, [], length, Option, Some}
use Rattle.disk_model.specs.Disk.{Meaning}
use Rattle.disk_model.specs.Shelf.{Holdings}
use Rattle.disk_model.specs.declared.name.Role.{Role}
use Rattle.script_reader.specs.declared.line.Line.{Line}
use Rattle.script_reader.specs.Sessions.{Sessions as Script, no_sessions, session_in, begins_session, stands_first}
use Rattle.script_reader.specs.Sessions.{is_in_turn}
use Rattle.script_replay.specs.Failing.{FailsAt}
use Rattle.script_replay.specs.Outputs.{held_of}
use Rattle.script_replay.specs.Runners.{AllAreUp, StopsByLine, TurnDoes, TurnIsQuiet, AllFresh, FreshAfter, AllHandOver}
use Rattle.script_replay.specs.Runners.{IsDeviceOutcomeOf, IsOfBeginning, DeviceFails}
use Rattle.script_replay.specs.Sessions.{id_of, IsUp, IsPlaced, AreInOrder, AllStandFor, AllLend, LendsNew}
use Rattle.script_replay.specs.Shelves.{Places, AllAreBack}
use Rattle.script_replay.specs.Told.{AllAreMadeBy, GoesAsTold}
use Rattle.script_replay.specs.declared.applying.Replaying.{Replaying}
use Rattle.script_replay.specs.declared.outcome.LineOutcome.{LineOutcome}
use Rattle.script_replay.specs.declared.outcome.LineOutcome.TheVariants as outcomes
use Rattle.script_replay.specs.declared.session.Session.{Session}
use Rattle.script_replay.specs.declared.sessions.Sessions.{Sessions}

-- no line has come yet: no session has begun, and nothing is held
pub record IsBeforeLines {D : Type 0} {g : _} (d : Meaning D) (replaying : Replaying D g) : Type 0 where
  pub none : replaying.sessions.begun.items ≡ []
  pub stands : AllStandFor d replaying.sessions no_sessions
  pub order : AreInOrder replaying.sessions
  pub unheld : held_of replaying.output ≡ []

-- The line has begun this session: its disks are with it, and none has failed.
pub record IsBegunBy {D : Type 0} {g : _} (d : Meaning D) (before now : Places) (line : Line) (session : Session D g) :
    Type 0 where
  pub lends : LendsNew d before now session
  pub up : IsUp session
  pub id : session_in line ≡ Some (id_of session)
  pub first : begins_session line ≡ true

-- The line has begun no session: it is not one that does, or it stops the script. The disks are back.
pub record BeginsNoSession {S D : Type 0} (m : Holdings S) (d : Meaning D) (old new : S) (line : Line)
    (outcome : LineOutcome) : Type 0 where
  pub back : m.tells → AllAreBack (m.disk old) (m.disk new)
  pub stops : StopsByLine outcome
  pub unprinted : IsOfBeginning outcome
  pub memory : outcome ≡ outcomes.Memory → begins_session line ≡ true
  pub refused : outcome ≡ outcomes.Refused → m.disk new ≡ m.disk old
  pub device : (number : ℕ) (role : Role) → IsDeviceOutcomeOf number role outcome
      → (session_in line ≡ Some number) × FailsAt m d old new number role

-- the line may come now, and names the session that is to stand at this place, which has begun or not
pub record ComesFor {D : Type 0} {g : _} (d : Meaning D) (sessions : Sessions D g) (place : ℕ) (has_begun : Bool)
    (line : Line) : Type 0 where
  pub number : ℕ
  pub named : session_in line ≡ Some number
  pub placed : IsPlaced number place sessions.begun.items has_begun
  pub in_turn : (t : Script) → AllStandFor d sessions t → is_in_turn t line ≡ true
  pub begins : begins_session line ≡ true → (sessions.is_under_way ≡ false) × (length sessions.begun.items < 16)
  pub first : stands_first line ≡ true → sessions.is_under_way ≡ false

-- the line was given to the replay `first` over the shelf `old`, with `written` written so far, and left them as
-- `last`, `new` and `after`. `before` is where the disks were when the script began
pub record LineGoes {S D : Type 0} {g : _} (m : Holdings S) (d : Meaning D) (old new : S) (first last : Replaying D g)
    (written after : Option (List ℕ)) (line : Line) (outcome : LineOutcome) : Type 0 where
  pub order : AreInOrder last.sessions
  pub does : m.tells → d.tells → (before : Places) → AllLend d before (m.disk old) first.sessions.begun.items
      → (t : Script) → AllStandFor d first.sessions t
      → TurnDoes d before (m.disk new) t line last.sessions (held_of first.output) (held_of last.output) written after
      outcome
  pub fresh : m.tells → d.tells → (before : Places) → AllFresh d before (m.disk old) first.sessions.begun.items
      → FreshAfter d before (m.disk new) last.sessions outcome
  pub hands : (before : Places) → AllLend d before (m.disk old) first.sessions.begun.items
      → AllHandOver m.tells d before (m.disk new) last.sessions.begun.items
  pub ready : outcome ≡ outcomes.Applied → (before : Places)
      → AllLend d before (m.disk old) first.sessions.begun.items
      → AllLend d before (m.disk new) last.sessions.begun.items × AllAreUp last.sessions.begun.items
  pub quiet : TurnIsQuiet first.sessions last.sessions (held_of first.output) (held_of last.output) written after
      outcome
  pub stops : StopsByLine outcome
  pub device : (number : ℕ) (role : Role) → IsDeviceOutcomeOf number role outcome → (before : Places)
      → AllLend d before (m.disk old) first.sessions.begun.items
      → DeviceFails m d before old new last.sessions.begun.items number role
  pub told : (lines : List Line) → AllAreMadeBy d first.sessions lines → GoesAsTold d last.sessions lines line outcome
