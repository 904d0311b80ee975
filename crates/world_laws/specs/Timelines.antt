-- What a script's session has been through, as a timed run: its lines are looks, arrivals and events of
-- the world, and what it was told, it was told by the run.
use Rattle.std.specs.Prelude.{◌≡◌, ℕ, zero, suc, ◌+◌, ◌≤◌, nat_lt, Bool, true, false, if◌then◌else◌, List, [], ◌∷◌}
use Rattle.std.specs.Prelude.{◌++◌, length, map, take, drop, reverse, slice_get, Option, Some, None}
use Rattle.std.specs.List.{list_any}
use Rattle.pump_frame.specs.declared.row.SessionRow.{SessionRow}
use Rattle.pump_core.specs.declared.event.Event.TheVariants.{TakeUp, Send, CarryData, TakeBegin, TakeEnd, ReturnTaken}
use Rattle.pump_core.specs.declared.event.Event.TheVariants.{RemoveBegin, RemoveEnd, Crash}
use Rattle.pump_core.specs.History.{Arrival, History}
use Rattle.pump_core.specs.Exchanges.{Part, IsCut}
use Rattle.pump_core.specs.Comings.{Coming, is_broken, comings, arrival_of_coming}
use Rattle.pump_core.specs.World.{World}
use Rattle.pump_core.specs.Sendings.{Sending}
use Rattle.pump_core.specs.Timed.{Step, Arrives, LowLook, HighLook, Publish, Occurs, HighSide, IsPublished, Point}
use Rattle.pump_core.specs.Runs.{steps_in, IsRun}
use Rattle.script_reader.specs.declared.line.Line.{Line}
use Rattle.script_reader.specs.declared.line.Line.TheVariants as lines
use Rattle.script_reader.specs.declared.event.Event.{Event}
use Rattle.script_reader.specs.Past.{Past}
use Rattle.script_reader.specs.Openings.{Openings}
use Rattle.script_reader.specs.Highs.{IsHighLook, IsCarried, is_ahead, place}
use Rattle.script_reader.specs.Restarts.{IsReopened}
use Rattle.script_reader.specs.Steps as script
use Rattle.script_reader.specs.Scripts.{Running, Whole as WholeSession, GoesWhole, LeadTo}

-- ---- what waits ----

-- how many arrivals the looks of the run took on the connection that stands
abbrev pub taken_in : (row : SessionRow) (steps : List Step) (t : Point) (h : History)
    → IsRun row steps t h → ℕ
taken_in row steps t h run = run.low.1.0

-- the arrival of what came
abbrev pub arrived : Coming → Arrival
arrived c = arrival_of_coming (Some c)

-- the first `taken` of all that came were taken: what waits is the rest in its order, and it is behind
-- bad bytes where these were among those taken
pub record AreLeft (came : List Coming) (taken : ℕ) (waits : List Arrival) (is_behind : Bool) : Type 0 where
  pub came_before : taken ≤ length came
  pub rest : waits ≡ map arrived (drop taken came)
  pub behind : is_behind ≡ list_any is_broken (take taken came)

-- ---- the world and the high side ----

-- nothing of the world is unfinished
pub record IsAtRest (w : World) : Type 0 where
  pub storing : w.storing ≡ None
  pub due : w.due ≡ false
  pub removing : w.removing ≡ false
  pub packet : w.packet ≡ None
  pub taking : w.taking ≡ false

-- the high side of the run published these times and made these sendings since the opening, and it
-- has nothing left to publish
pub record HasSent (published : List ℕ) (sent : List Sending) (high : HighSide) : Type 0 where
  pub times : high.times ≡ published
  pub sends : high.sends ≡ sent
  pub nothing_left : IsPublished high

-- ---- the timed run of a session ----

-- these steps, the newest first, are a timed run that came to the point t, and its low history is the
-- session's: so each look was told what the run told it, and offered what came. The run came to the
-- session's world, its high side has published and sent what the session did, and what waits came on
-- the connection that stands and was not taken
pub record IsTimeline (row : SessionRow) (p : Past) (steps : List Step) (t : Point) : Type 0 where
  pub run : IsRun row steps t p.history
  pub world : t.world ≡ p.world
  pub rest : IsAtRest p.world
  pub high : HasSent p.times p.sends t.high
  pub waits : AreLeft (comings t.life.side.events) (taken_in row steps t p.history run) p.waits p.is_broken
  -- neither side has looked after the session's last moment
  pub low_moment : t.looked ≤ p.moment
  pub high_moment : t.high.moment ≤ p.moment

-- ---- the steps of a line ----

-- these steps, or none
abbrev pub only_if : Bool → List Step → List Step
only_if happened steps = if happened then steps else []

-- the TAKEN at this place comes back, or none does
abbrev pub come_back : Option ℕ → List Step
come_back None = []
come_back (Some k) = Occurs (ReturnTaken k) ∷ []

-- the steps of a high look at m that leads from p to q, the newest first: a TAKEN comes back or none, and
-- a message is removed, its time published, the next one taken up, and the hand sent, each where it was
abbrev pub high_steps : ℕ → Option ℕ → Past → Past → List Step
high_steps m back p q =
    only_if (nat_lt (length p.sends) (length q.sends)) (Occurs Send ∷ [])
    ++ (only_if (nat_lt (length q.world.held) (length p.world.held)) (Occurs TakeUp ∷ [])
    ++ (only_if (nat_lt (length p.times) (length q.times)) (Publish ∷ [])
    ++ (only_if (nat_lt p.world.removed q.world.removed) (Occurs RemoveEnd ∷ Occurs RemoveBegin ∷ [])
    ++ (come_back back ++ HighLook m ∷ []))))

-- .. of one in which this TAKEN comes back: where it is refused, nothing but the look
abbrev pub return_steps : ℕ → ℕ → Past → Past → List Step
return_steps m k p q = if is_ahead p.world k then HighLook m ∷ [] else high_steps m (Some k) p q

-- .. and of one in which a receiver with so many messages attaches: the TAKEN of the last of them comes
-- back, if it has any
abbrev pub AreAttachSteps : ℕ → ℕ → Past → Past → List Step → Type 0
AreAttachSteps m zero p q steps = steps ≡ high_steps m None p q
AreAttachSteps m (suc n) p q steps = (k : ℕ) × (slice_get p.world.returned k ≡ Some n) × (steps ≡ return_steps m k p q)

-- a DATA is carried, and taken where it was the receiver's next
abbrev pub carry_steps : ℕ → Past → Past → List Step
carry_steps back p q =
    only_if (nat_lt (length p.world.received) (length q.world.received)) (Occurs TakeEnd ∷ Occurs TakeBegin ∷ [])
    ++ Occurs (CarryData (place p.world.sent back)) ∷ []

-- the steps of a low look are those that stand in the newest look of the history
abbrev pub AreLookSteps : SessionRow → Past → Step → List Step → Type 0
AreLookSteps row q look steps =
    (parts : List Part) × IsCut row q.history.life parts × (steps ≡ reverse (steps_in parts) ++ look ∷ [])

-- after the high look of `done`, which led to `mid`: where a message is in the hand, its carry and the
-- return of its TAKEN
abbrev pub AreDoneSteps : SessionRow → Option ℕ → Past → ℕ → Past → List Step → Type 0
AreDoneSteps row None mid m q steps = steps ≡ []
AreDoneSteps row (Some n) mid m q steps =
    (far : Past) × (printed : List Event) × IsCarried row mid 0 far printed
    × (steps ≡ return_steps m (place far.world.returned 0) far q ++ carry_steps 0 mid far)

-- the steps of a line that leads from p to q, the newest first: what comes with it, its looks, marks and
-- events, and nothing else
abbrev pub AreSteps : SessionRow → Past → Line → Past → List Step → Type 0
AreSteps row p lines.Skip q steps = ⊥
AreSteps row p (lines.Session other) q steps = ⊥
AreSteps row p (lines.LowSession other next held) q steps = ⊥
AreSteps row p (lines.Coarse session) q steps = ⊥
AreSteps row p (lines.Told session m w fault told a) q steps = ⊥
AreSteps row p (lines.Step session m w) q steps = ⊥
AreSteps row p (lines.Look session m w a) q steps =
    (c : script.LineComing) × script.Arrives session p.reading a c × (came : List Coming)
    × (c.added ≡ map arrived came)
    × ((of_look : List Step) × AreLookSteps row q (LowLook m w false false) of_look
    × (steps ≡ of_look ++ reverse (map (λ k. Arrives k) came)))
AreSteps row p (lines.Gone session m) q steps = AreLookSteps row q (LowLook m 0 true false) steps
AreSteps row p (lines.High session m) q steps = steps ≡ high_steps m None p q
AreSteps row p (lines.Carry session back) q steps = steps ≡ carry_steps back p q
AreSteps row p (lines.Return session m back) q steps = steps ≡ return_steps m (place p.world.returned back) p q
AreSteps row p (lines.Done session m time) q steps =
    (mid : Past) × (printed : List Event) × IsHighLook row p m None mid printed
    × ((later : List Step) × AreDoneSteps row mid.world.high_hand mid (m + time) q later
    × (steps ≡ later ++ high_steps m None p mid))
AreSteps row p (lines.Restart session m) q steps = steps ≡ Occurs (Crash (Some (false, false)) None) ∷ []
AreSteps row p (lines.ReceiverRestart session m) q steps =
    (mid : Past) × IsReopened p mid
    × ((of_look : List Step) × AreAttachSteps m (length mid.world.received) mid q of_look
    × (steps ≡ of_look ++ Occurs (Crash None (Some false)) ∷ []))

-- the session of the past p, which has this timed run, came to the past q by this line: the run goes on by
-- the line's steps
abbrev pub RunGoesOn : SessionRow → Past → Line → List Step → Past → Type 0
RunGoesOn row p line steps q =
    (more : List Step) × (t : Point) × IsTimeline row q (more ++ steps) t × AreSteps row p line q more

-- ---- the laws ----

-- a line goes on with any timed run of its session
abbrev pub LinesAreSteps : Type 0
LinesAreSteps = (s : Running) (line : Line) (q : Past) (printed : List Event) (steps : List Step)
    (t : Point)
    → GoesWhole s line (Some (WholeSession (record { row = s.row; past = q }))) printed
    → IsTimeline s.row s.past steps t → RunGoesOn s.row s.past line steps q

-- what a script's session has been through is a timed run, whatever its disks were found to hold
abbrev pub ScriptsAreTimedRuns : Type 0
ScriptsAreTimedRuns = (o : Openings) (script : List Line) (s : Running) (printed : List Event)
    → LeadTo o None script (Some (WholeSession s)) printed
    → (steps : List Step) × (t : Point) × IsTimeline s.row s.past steps t
