-- What the sessions of the code stand for, and what a line of a script does to one of them. `d` is what its disks tell.
use Rattle.std.specs.Prelude.{◌≡◌, ◌<◌, ◌≤◌, ℕ, Bool, true, false, ◌==◌, nat_lt, nat_le, if◌then◌else◌, List, [], ◌∷◌}
use Rattle.std.specs.Prelude.{length, find, slice_get, Option, Some, None, vec_capacity}
use Rattle.std.specs.List.{AllByRecursion, position_or_len}
use Rattle.disk_model.specs.Disk.{Meaning}
use Rattle.disk_model.specs.declared.name.Role.{Role}
use Rattle.disk_model.specs.Shelf.{Out}
use Rattle.pump_frame.specs.Counts.{Rose}
use Rattle.script_reader.specs.Breaks.{Breaks}
use Rattle.script_reader.specs.Past.{Past}
use Rattle.script_reader.specs.Steps.{is_timely}
use Rattle.script_reader.specs.declared.event.Event.{Event}
use Rattle.script_reader.specs.declared.fault.Fault.TheVariants as faults
use Rattle.script_reader.specs.declared.line.Line.{Line}
use Rattle.script_reader.specs.Scripts.{Begun, Whole, Alone, GoesOn, IsRefused, Stops}
use Rattle.script_reader.specs.Sessions.{Sessions as Script, session_at}
use Rattle.two_worlds.specs.declared.applied.Stop.{Stop}
use Rattle.two_worlds.specs.declared.applied.Stop.TheVariants as stops
use Rattle.two_worlds.specs.Pumps as pump
use Rattle.two_worlds.specs.declared.pump.Pump.{Pump}
use Rattle.two_worlds.specs.LowPumps as low_pump
use Rattle.script_replay.specs.Lending.{IsOutAt}
use Rattle.script_replay.specs.Shelves.{Places, disk_name, LeavesSession, LeavesOtherSessions}
use Rattle.script_replay.specs.declared.session.Session.{Session}
use Rattle.script_replay.specs.declared.session.Session.TheVariants as sessions
use Rattle.script_replay.specs.declared.sessions.Sessions.{Sessions}

-- ---- a session ----

-- its number
abbrev pub id_of : {D : Type 0} {g : _} → Session D g → ℕ
id_of (sessions.Whole id p) = id
id_of (sessions.Alone id p) = id

-- a call of one of its disks failed
abbrev pub is_down : {D : Type 0} {g : _} → Session D g → Bool
is_down (sessions.Whole id p) = pump.is_down p
is_down (sessions.Alone id p) = low_pump.low_is_down p

abbrev pub IsUp : {D : Type 0} {g : _} → Session D g → Type 0
IsUp s = is_down s ≡ false

-- its row is coarse
abbrev pub is_coarse : {D : Type 0} {g : _} → Session D g → Bool
is_coarse (sessions.Whole id p) = (pump.row_of p).coarse
is_coarse (sessions.Alone id p) = (low_pump.low_row_of p).coarse

-- it is a low side alone
abbrev pub IsAlone : {D : Type 0} {g : _} → Session D g → Type 0
IsAlone (sessions.Whole id p) = ⊥
IsAlone (sessions.Alone id p) = Unit {0}

-- it was opened for the row, and stands for what the session has been through
abbrev pub IsOf : {D : Type 0} {g : _} → Meaning D → Session D g → Begun → Type 0
IsOf d (sessions.Whole id p) (Whole s) = (id ≡ s.row.id) × (pump.row_of p ≡ s.row) × pump.StandsFor d p s.past
IsOf d (sessions.Alone id p) (Alone s) = (id ≡ s.row.id) × (low_pump.low_row_of p ≡ s.row)
    × low_pump.LowStandsFor p s.past
IsOf d (sessions.Whole id p) (Alone s) = ⊥
IsOf d (sessions.Alone id p) (Whole s) = ⊥

-- no disk has failed, and the session is this one
pub record StandsFor {D : Type 0} {g : _} (d : Meaning D) (s : Session D g) (running : Begun) : Type 0 where
  pub up : IsUp s
  pub is_of : IsOf d s running

-- so, or no session has begun
abbrev pub StandsForRunning : {D : Type 0} {g : _} → Meaning D → Option (Session D g) → Option Begun → Type 0
StandsForRunning d None None = Unit {0}
StandsForRunning d (Some session) (Some running) = StandsFor d session running
StandsForRunning d None (Some running) = ⊥
StandsForRunning d (Some session) None = ⊥

-- it came to this, also where a disk failed in its last line
abbrev pub CameTo : {D : Type 0} {g : _} → Meaning D → Session D g → Begun → Type 0
CameTo d (sessions.Whole id p) (Whole s) = (id ≡ s.row.id) × (pump.row_of p ≡ s.row) × pump.StandsOrFails d p s.past
CameTo d (sessions.Alone id p) (Alone s) = Unit {0}
CameTo d (sessions.Whole id p) (Alone s) = ⊥
CameTo d (sessions.Alone id p) (Whole s) = ⊥

abbrev pub HasComeTo : {D : Type 0} {g : _} → Meaning D → Option (Session D g) → Option Begun → Type 0
HasComeTo d None None = Unit {0}
HasComeTo d (Some session) (Some running) = CameTo d session running
HasComeTo d None (Some running) = ⊥
HasComeTo d (Some session) None = ⊥

-- ---- a line of it ----

-- the line was cut short by the device of a disk of this role, after the session had come to what t has come to and had
-- printed this
abbrev pub IsCutShort : {D : Type 0} {g : _} → Meaning D → Begun → Line → Session D g → List Event → Role → Type 0
IsCutShort d (Whole s) line t printed role =
    (is_timely s.row s.past line ≡ true)
    × ((q : Past) × Breaks s.row s.past line role q printed × (id_of t ≡ s.row.id)
    × CameTo d t (Whole (record { row = s.row; past = q })))
IsCutShort d (Alone s) line t printed role =
    (after : Option Begun) × Stops (Some (Alone s)) line after printed (faults.Device (id_of t) role)
    × HasComeTo d (Some t) after

-- a line was given to the running session and left it as t: it can be applied, and leads to what t stands for and
-- prints this; or it can't be, and prints nothing; or it stops the script after it printed this
abbrev pub SessionApplies : {D : Type 0} {g : _} → Meaning D → Begun → Line → Session D g → List Event → Option Stop
    → Type 0
SessionApplies d running line t printed None =
    (after : Option Begun) × GoesOn running line after printed × StandsForRunning d (Some t) after
SessionApplies d running line t printed (Some stops.Line) =
    IsRefused (Some running) line × (printed ≡ []) × StandsFor d t running
SessionApplies d running line t printed (Some (stops.Device role count)) = IsCutShort d running line t printed role
SessionApplies d running line t printed (Some (stops.Full end length size)) =
    (after : Option Begun) × Stops (Some running) line after printed (faults.Full (id_of t) end length size)
    × HasComeTo d (Some t) after
SessionApplies d running line t printed (Some (stops.Disk role why)) = ⊥

-- ---- its disks ----

-- they are off the shelf, on which all others are where they were
pub record LendsPump {D : Type 0} {g : _} (d : Meaning D) (before now : Places) (id : ℕ) (p : Pump D g) : Type 0 where
  pub out : (role : Role) → IsOutAt now id role (d.count (pump.disk_at role p))
  pub others : LeavesOtherSessions before now id

-- so of a session that begins; a low side alone has none
abbrev pub LendsNew : {D : Type 0} {g : _} → Meaning D → Places → Places → Session D g → Type 0
LendsNew d before now (sessions.Whole id p) = LendsPump d before now id p
LendsNew d before now (sessions.Alone id p) = now ≡ before

-- the disks of a session are with it; those of a number that has no session with disks are where they were
abbrev pub Lends : {D : Type 0} {g : _} → Meaning D → Places → Places → ℕ → Option (Session D g) → Type 0
Lends d before now number (Some (sessions.Whole id p)) = (role : Role)
    → IsOutAt now id role (d.count (pump.disk_at role p))
Lends d before now number (Some (sessions.Alone id p)) = LeavesSession before now number
Lends d before now number None = LeavesSession before now number

-- no disk has failed less often than before, and the session is the same
abbrev pub GoesOnWith : {D : Type 0} {g : _} → Meaning D → Session D g → Session D g → Type 0
GoesOnWith d (sessions.Whole id p) (sessions.Whole other q) =
    (other ≡ id) × ((role : Role) → d.count (pump.disk_at role p) ≤ d.count (pump.disk_at role q))
GoesOnWith d (sessions.Alone id p) (sessions.Alone other q) = other ≡ id
GoesOnWith d (sessions.Whole id p) (sessions.Alone other q) = ⊥
GoesOnWith d (sessions.Alone id p) (sessions.Whole other q) = ⊥

-- a disk of this role failed, if the session has disks
abbrev pub FailedWith : {D : Type 0} {g : _} → Meaning D → Session D g → Session D g → Role → Type 0
FailedWith d (sessions.Whole id p) (sessions.Whole other q) role = Rose (d.count (pump.disk_at role p))
    (d.count (pump.disk_at role q))
FailedWith d s t role = Unit {0}

-- its disk of this role has failed since it was given, if it has any
abbrev pub HasFailed : {D : Type 0} {g : _} → Meaning D → Places → Role → Option (Session D g) → Type 0
HasFailed d now role (Some (sessions.Whole id p)) =
    (given : ℕ) × (now (disk_name id role) ≡ Out given) × Rose given (d.count (pump.disk_at role p))
HasFailed d now role (Some (sessions.Alone id p)) = Unit {0}
HasFailed d now role None = ⊥

-- ---- all sessions ----

-- the session of this number
abbrev pub found_at : {D : Type 0} {g : _} → ℕ → List (Session D g) → Option (Session D g)
found_at number begun = find (λ s. id_of s == number) begun

-- the sessions with this one in its place, by rising number
abbrev pub with_begun : {D : Type 0} {g : _} → Session D g → List (Session D g) → List (Session D g)
with_begun s [] = s ∷ []
with_begun s (t ∷ later) =
    if nat_lt (id_of s) (id_of t) then s ∷ t ∷ later
    else (if id_of s == id_of t then s ∷ later else t ∷ with_begun s later)

-- how many of them stand before this number's place
abbrev pub place_in : {D : Type 0} {g : _} → ℕ → List (Session D g) → ℕ
place_in number begun = position_or_len (λ s. nat_le number (id_of s)) begun

-- the session, if there is one, has this number
abbrev pub is_of_number : {D : Type 0} {g : _} → ℕ → Option (Session D g) → Bool
is_of_number number None = false
is_of_number number (Some s) = id_of s == number

-- this is the number's place, and its session is there or not
abbrev pub IsPlaced : {D : Type 0} {g : _} → ℕ → ℕ → List (Session D g) → Bool → Type 0
IsPlaced number place begun is_there = (place ≡ place_in number begun)
    × (is_of_number number (slice_get begun place) ≡ is_there)

-- their numbers rise
abbrev pub Rise : {D : Type 0} {g : _} → List (Session D g) → Type 0
Rise [] = Unit {0}
Rise (s ∷ later) = AllByRecursion (λ t. id_of s < id_of t) later × Rise later

-- .. and there is room for 16
pub record AreInOrder {D : Type 0} {g : _} (s : Sessions D g) : Type 0 where
  pub rise : Rise s.begun.items
  pub few : length s.begun.items ≤ 16
  pub room : 16 ≤ vec_capacity s.begun

-- each stands for what a session of the script has been through
abbrev pub EachStandsFor : {D : Type 0} {g : _} → Meaning D → List (Session D g) → List Begun → Type 0
EachStandsFor d [] [] = Unit {0}
EachStandsFor d (s ∷ later) (running ∷ more) = StandsFor d s running × EachStandsFor d later more
EachStandsFor d [] (running ∷ more) = ⊥
EachStandsFor d (s ∷ later) [] = ⊥

-- they stand for what the script has come to
pub record AllStandFor {D : Type 0} {g : _} (d : Meaning D) (s : Sessions D g) (t : Script) : Type 0 where
  pub each : EachStandsFor d s.begun.items t.begun
  pub moment : s.moment ≡ t.moment
  pub under_way : s.is_under_way ≡ t.is_under_way

-- each came to this, also where a disk of one failed in its last line
abbrev pub AllHaveComeTo : {D : Type 0} {g : _} → Meaning D → List (Session D g) → List Begun → Type 0
AllHaveComeTo d begun running = (number : ℕ) → HasComeTo d (found_at number begun) (session_at number running)

-- the disks of each are with it, and all others where they were
abbrev pub AllLend : {D : Type 0} {g : _} → Meaning D → Places → Places → List (Session D g) → Type 0
AllLend d before now begun = (number : ℕ) → Lends d before now number (found_at number begun)
