-- A line of a whole session that the device of a disk cuts short: its last event stays unfinished.
use Rattle.std.specs.Prelude.{◌≡◌, ℕ, ◌+◌, ◌≤◌, true, false, List, [], ◌∷◌, ◌++◌, length, drop, slice_get, Option, None}
use Rattle.std.specs.Prelude.{Some}
use Rattle.disk_model.specs.declared.name.Role.{Role}
use Rattle.disk_model.specs.declared.name.Role.TheVariants as roles
use Rattle.pump_frame.specs.declared.frame.Frame.{Frame}
use Rattle.pump_frame.specs.declared.frame.Item.{Item}
use Rattle.pump_frame.specs.declared.row.SessionRow.{SessionRow}
use Rattle.pump_core.specs.declared.event.Event.TheVariants.{StoreBegin, CarryData, TakeBegin, RemoveBegin}
use Rattle.pump_core.specs.declared.feedback.Feedback.TheVariants.{Quiet}
use Rattle.pump_core.specs.History.{Look, looked}
use Rattle.pump_core.specs.History.{Came}
use Rattle.pump_core.specs.Exchanges.{Part, Loss, IsCut}
use Rattle.pump_core.specs.Replies.{refusal}
use Rattle.pump_core.specs.World.{World}
use Rattle.pump_core.specs.Events.{Happens, Run}
use Rattle.script_reader.specs.declared.event.Event.{Event}
use Rattle.script_reader.specs.declared.event.Event.TheVariants.{Low, Attach}
use Rattle.script_reader.specs.declared.line.Line.{Line}
use Rattle.script_reader.specs.declared.line.Line.TheVariants as lines
use Rattle.pump_core.specs.HighLooks.{Returns}
use Rattle.script_reader.specs.Past.{Past}
use Rattle.script_reader.specs.Lows.{first_of}
use Rattle.script_reader.specs.Highs.{IsHighLook, IsCarried, overfills, place}
use Rattle.script_reader.specs.Restarts.{IsReopened}
use Rattle.script_reader.specs.Steps.{LineComing, Arrives, joined}

-- the look x takes the next message, and the low disk fails in its store: it is refused, and from then
-- on the life is as good as over
pub record IsLostLook (row : SessionRow) (p : Past) (x : Look) (q : Past) (printed : List Event) : Type 0 where
  pub frame : Frame
  pub comes : x.arrival ≡ Came frame
  pub fault : x.is_fault ≡ true
  pub quiet : x.feedback ≡ Quiet
  pub before : List Part
  pub cut_with : IsCut row (looked p.history x).life (Loss x [] ∷ before)
  pub begins : Happens p.world (StoreBegin frame.payload) q.world
  pub rest : q ≡ record p { history = looked p.history x; waits = drop 1 p.waits; world = q.world; moment = x.moment }
  pub printed_is : printed ≡ Low row.id x.moment (refusal row 5 0) ∷ []

-- so does a look that is offered what waits
abbrev pub IsLost : SessionRow → Past → ℕ → ℕ → Past → List Event → Type 0
IsLost row p m w q printed =
    IsLostLook row p (record {
      moment = m;
      word = w;
      arrival = first_of p.is_broken p.waits;
      is_fault = true;
      feedback = Quiet;
    }) q printed

-- a TAKEN comes back at m, and the high disk fails in the removal that is due
pub record IsUnremoved (p : Past) (m : ℕ) (back : Option ℕ) (q : Past) : Type 0 where
  pub answered : World
  pub returns : Returns p.world back answered
  pub begins : Happens answered RemoveBegin q.world
  pub rest : q ≡ record p { world = q.world; moment = m }

-- a receiver attaches at m, and the high disk fails in the removal that is due
pub record IsUnattached (p : Past) (m : ℕ) (q : Past) : Type 0 where
  pub number : ℕ
  pub count : length p.world.received ≡ number + 1
  pub at : ℕ
  pub taken : slice_get p.world.returned at ≡ Some number
  pub unremoved : IsUnremoved p m (Some at) q

-- a DATA is carried to the receiver, which has room for it, and whose disk fails in the taking
pub record IsUntaken (p : Past) (back : ℕ) (q : Past) : Type 0 where
  pub packet : Item
  pub at : slice_get p.world.sent (place p.world.sent back) ≡ Some packet
  pub fits : overfills p.world packet ≡ false
  pub begins : Run p.world (CarryData (place p.world.sent back) ∷ TakeBegin ∷ []) q.world
  pub rest : q ≡ record p { world = q.world }

-- after the high look of `done` led to `mid`: the taking fails, or the removal when the TAKEN comes back
abbrev pub BreaksOff : SessionRow → Past → ℕ → Role → Past → List Event → Type 0
BreaksOff row mid m roles.Low q printed = ⊥
BreaksOff row mid m roles.Recv q printed = IsUntaken mid 0 q × (printed ≡ [])
BreaksOff row mid m roles.High q printed =
    (carried : Past) × IsCarried row mid 0 carried printed
    × IsUnremoved carried m (Some (place carried.world.returned 0)) q

-- the line begins what it does from p, and the disk of this role fails: q is what it has come to, with
-- the last event unfinished, and this was printed. Where an opening fails, nothing has happened
abbrev pub Breaks : SessionRow → Past → Line → Role → Past → List Event → Type 0
Breaks row p (lines.Look session m w a) roles.Low q printed =
    (c : LineComing) × Arrives session p.reading a c × (length (joined p c).waits ≤ 64)
    × IsLost row (joined p c) m w q printed
Breaks row p (lines.Carry session back) roles.Recv q printed = IsUntaken p back q × (printed ≡ [])
Breaks row p (lines.Return session m back) roles.High q printed =
    IsUnremoved p m (Some (place p.world.returned back)) q × (printed ≡ [])
Breaks row p (lines.Done session m t) role q printed =
    (mid : Past) × (n : ℕ) × (first : List Event) × (second : List Event) × IsHighLook row p m None mid first
    × (mid.world.high_hand ≡ Some n) × BreaksOff row mid (m + t) role q second × (printed ≡ first ++ second)
Breaks row p (lines.Restart session m) roles.Low q printed = (q ≡ p) × (printed ≡ [])
Breaks row p (lines.Restart session m) roles.High q printed = (q ≡ p) × (printed ≡ [])
Breaks row p (lines.ReceiverRestart session m) roles.Recv q printed = (q ≡ p) × (printed ≡ [])
Breaks row p (lines.ReceiverRestart session m) roles.High q printed =
    (mid : Past) × IsReopened p mid × IsUnattached mid m q
    × (printed ≡ Attach row.id m (length mid.world.received) ∷ [])
Breaks row p _ _ q printed = ⊥
