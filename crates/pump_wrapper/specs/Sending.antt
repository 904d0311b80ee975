-- The lines by which a pump is emptied and a file is sent over it, and what a pump comes to by lines.
use Rattle.std.specs.Prelude.{◌≡◌, ℕ, zero, suc, ◌+◌, ◌≤◌, max, true, List, [], ◌∷◌, ◌++◌, Result, Ok, Err, IfErr}
use Rattle.disk_model.specs.Disk.{Meaning}
use Rattle.disk_model.specs.declared.name.Role.{Role}
use Rattle.disk_model.specs.declared.name.Role.TheVariants as roles
use Rattle.pump_frame.specs.Counts.{Rose}
use Rattle.pump_frame.specs.declared.payload.Payload.{Payload}
use Rattle.pump_frame.specs.declared.row.SessionRow.{SessionRow}
use Rattle.pump_core.specs.Events.{with_kept}
use Rattle.script_reader.specs.declared.event.Event.{Event}
use Rattle.script_reader.specs.declared.line.Arriving.TheVariants.{Nothing, Hello, Data}
use Rattle.script_reader.specs.declared.line.Line.{Line}
use Rattle.script_reader.specs.declared.line.Line.TheVariants.{Look, Done}
use Rattle.script_reader.specs.Breaks.{Breaks}
use Rattle.script_reader.specs.Past.{Past}
use Rattle.script_reader.specs.Steps.{LineStep, IsRefusedWhole, Overfills}
use Rattle.two_worlds.specs.declared.applied.Stop.{Stop}
use Rattle.two_worlds.specs.declared.applied.Stop.TheVariants as stops
use Rattle.two_worlds.specs.declared.pump.Pump.{Pump}
use Rattle.two_worlds.specs.Pumps.{StandsFor, FailsAt, disk_at, row_of}
use Rattle.pump_wrapper.specs.Comparing.{Begins}
use Rattle.pump_wrapper.specs.Crashes.{KeepsPrefix}

-- ---- the lines ----

-- a look to which nothing comes
abbrev pub empty_look : SessionRow → ℕ → Line
empty_look row moment = Look row.id moment 0 Nothing

-- one message goes to the receiver, which takes it in a microsecond
abbrev pub turn_lines : SessionRow → ℕ → List Line
turn_lines row moment = empty_look row moment ∷ Done row.id moment 1 ∷ []

-- so many messages go there, from this moment on
abbrev pub drain_lines : SessionRow → ℕ → ℕ → List Line
drain_lines row zero moment = []
drain_lines row (suc n) moment = turn_lines row moment ++ drain_lines row n (moment + 2)

-- the row's own HELLO comes
abbrev pub greeting : SessionRow → Line
greeting row = Look row.id 0 0 (Hello row.low row.high)

-- so long after it is passed on a message is acknowledged
abbrev pub pause : SessionRow → ℕ
pause row = max row.longest 1

-- a message comes; it is passed on, and goes to the receiver; it is acknowledged
abbrev pub message_lines : SessionRow → ℕ → ℕ → List ℕ → List Line
message_lines row number moment message =
    Look row.id moment 0 (Data number message) ∷ turn_lines row moment ++ empty_look row (moment + pause row) ∷ []

-- messages come from this number and this moment on
abbrev pub send_lines : SessionRow → ℕ → ℕ → List (List ℕ) → List Line
send_lines row number moment [] = []
send_lines row number moment (message ∷ later) = message_lines row number moment message ++ send_lines row (number + 1)
    (moment + pause row) later

-- ---- what they lead to ----

-- the lines lead from p to q, one after another
abbrev pub LedBy : SessionRow → Past → List Line → Past → Type 0
LedBy row p [] q = q ≡ p
LedBy row p (line ∷ later) q = (mid : Past) × (printed : List Event) × LineStep row p line mid printed
    × LedBy row mid later q

-- the line stops a session that has come to p, and the pump is t then: it can't be applied; or a disk fails in it; or a
-- message does not fit at the receiver
abbrev pub StopsBy : {D : Type 0} {g : _} → Meaning D → Pump D g → SessionRow → Past → Line → Stop → Type 0
StopsBy m t row p line stops.Line = IsRefusedWhole row p line × StandsFor m t p
StopsBy m t row p line (stops.Device role faults) = (q : Past) × (printed : List Event)
    × Breaks row p line role q printed × FailsAt m t q role faults
StopsBy m t row p line (stops.Full end length size) = (q : Past) × (printed : List Event)
    × Overfills row p line q printed end length size × StandsFor m t q
StopsBy m t row p line (stops.Disk role why) = ⊥

-- a pump that stood for p was given these lines, and is t then: it stands for what they lead to; or one of them
-- stopped it
abbrev pub Follows : {D : Type 0} {g : _} → Meaning D → Pump D g → SessionRow → Past → List Line
    → Result (Unit {0}) Stop → Type 0
Follows m t row p lines (Ok done) = (q : Past) × LedBy row p lines q × StandsFor m t q
Follows m t row p lines (Err stop) =
    (before : List Line) × (line : Line) × (later : List Line) × (mid : Past)
    × (lines ≡ before ++ line ∷ later) × LedBy row p before mid × StopsBy m t row mid line stop

-- wherever the line stops the session, these begin with what is accepted then, even with a message whose store is
-- unfinished
abbrev pub StopsWithin : {D : Type 0} {g : _} → Meaning D → Pump D g → SessionRow → Past → Line → List Payload → Stop
    → Type 0
StopsWithin m t row p line all stops.Line = IsRefusedWhole row p line → StandsFor m t p → Begins p.world.accepted all
StopsWithin m t row p line all (stops.Device role faults) =
    (q : Past) (printed : List Event) → Breaks row p line role q printed → FailsAt m t q role faults
    → Begins (with_kept true q.world.storing q.world.accepted) all
StopsWithin m t row p line all (stops.Full end length size) =
    (q : Past) (printed : List Event) → Overfills row p line q printed end length size → StandsFor m t q
    → Begins q.world.accepted all
StopsWithin m t row p line all (stops.Disk role why) = Unit {0}

-- wherever the lines lead, or one of them stops, it is so
abbrev pub EndsWithin : {D : Type 0} {g : _} → Meaning D → Pump D g → SessionRow → Past → List Line → List Payload
    → Result (Unit {0}) Stop → Type 0
EndsWithin m t row p lines all (Ok done) = (q : Past) → LedBy row p lines q → StandsFor m t q
    → Begins q.world.accepted all
EndsWithin m t row p lines all (Err stop) =
    (before : List Line) (line : Line) (later : List Line) (mid : Past) → lines ≡ before ++ line ∷ later
    → LedBy row p before mid → StopsWithin m t row mid line all stop

-- a disk stops a line only where its count of failed calls rose
abbrev pub RoseBy : {D : Type 0} {g : _} → Meaning D → Pump D g → Pump D g → Stop → Type 0
RoseBy m s t stops.Line = Unit {0}
RoseBy m s t (stops.Device role faults) = (faults ≡ m.count (disk_at role t))
    × Rose (m.count (disk_at role s)) (m.count (disk_at role t))
RoseBy m s t (stops.Full end length size) = Unit {0}
RoseBy m s t (stops.Disk role why) = Unit {0}

-- the pump s was given these lines, and is t then
pub record Goes {D : Type 0} {g : _} (m : Meaning D) (s t : Pump D g) (lines : List Line)
    (result : Result (Unit {0}) Stop) : Type 0 where
  pub follows : m.tells → (p : Past) → StandsFor m s p → Follows m t (row_of s) p lines result
  pub keeps : m.tells → (p : Past) → StandsFor m s p → (all : List Payload)
      → EndsWithin m t (row_of s) p lines all result
      → KeepsPrefix m (row_of s) all (disk_at roles.Recv s) (disk_at roles.Recv t)
  pub row : row_of t ≡ row_of s
  pub later : (role : Role) → m.count (disk_at role s) ≤ m.count (disk_at role t)
  pub rose : IfErr result (RoseBy m s t)
