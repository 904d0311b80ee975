-- Timed runs: what comes to the low side, the looks of both sides, and the events of the world between
-- them. Of the low side all lists have their newest entry first.
use Rattle.std.specs.Prelude.{◌≡◌, ℕ, ◌-◌, ◌≤◌, ◌==◌, if◌then◌else◌, Bool, true, false, List, [], ◌∷◌, ◌++◌, length}
use Rattle.std.specs.Prelude.{Option, Some, None}
use Rattle.pump_frame.specs.declared.row.SessionRow.{SessionRow}
use Rattle.pump_frame.specs.Averages.{averaging_of, average_of}
use Rattle.pump_core.specs.declared.feedback.Seen.{Seen}
use Rattle.pump_core.specs.declared.feedback.Feedback.{Feedback}
use Rattle.pump_core.specs.declared.feedback.Feedback.TheVariants.{Quiet, Full, Passed, Released, Repeat}
use Rattle.pump_core.specs.declared.event.Event.{Event}
use Rattle.pump_core.specs.declared.event.Event.TheVariants.{StoreBegin, StoreEnd, Forward, TakeUp, Send, ReturnTaken}
use Rattle.pump_core.specs.declared.event.Event.TheVariants.{RemoveBegin, RemoveEnd, Acknowledge, Crash}
use Rattle.pump_core.specs.History.{Opening}
use Rattle.pump_core.specs.Comings.{Coming, LookMade, Timed, Comes, Looks, Side}
use Rattle.pump_core.specs.World.{World, live}
use Rattle.pump_core.specs.Events.{Happens, BeginsRun}
use Rattle.pump_core.specs.Sendings.{Sending, removal_time, sending_of}

-- ---- steps and points ----

-- a step of a timed run: something comes on the low connection, a look of either side begins, the low
-- look offers its message to the passage or reads the average, the high look publishes a time, or an
-- event happens in the world
pub data Step : Type 0 where
  Arrives : (c : Coming) → Step
  LowLook : (moment word : ℕ) (gone is_fault : Bool) → Step
  HighLook : (moment : ℕ) → Step
  Offer : Step
  Read : Step
  Publish : Step
  Occurs : (e : Event) → Step

-- the high side: the times published since the pump's opening, the oldest first, the sendings since
-- then, the newest first, the time that the last removal has still to publish, whether a look was made
-- since then, and the moment of the last look
pub record HighSide : Type 0 where
  pub times : List ℕ
  pub sends : List Sending
  pub unpublished : Option ℕ
  pub looking : Bool
  pub moment : ℕ

-- the low side of a life: its opening and what happened since, with the feedback as it was read off;
-- and the steps that stood in each of its looks
pub record LowLife : Type 0 where
  pub side : Side
  pub stood : List (List Step)

-- what a run has come to: the world, the high side, the moment of the last low look, the low life that
-- goes on, and those before it
pub record Point : Type 0 where
  pub world : World
  pub high : HighSide
  pub looked : ℕ
  pub life : LowLife
  pub earlier : List LowLife

-- ---- openings ----

-- what the low side finds at an opening: how many messages were accepted, and whether all places are
-- full
abbrev pub opening_in : World → Opening
opening_in w = record { count = length w.accepted; is_held = live w == w.capacity }

abbrev pub life_in : World → LowLife
life_in w = record { side = record { opening = opening_in w; events = [] }; stood = [] }

-- the high side at an opening
abbrev pub high_from : ℕ → HighSide
high_from moment = record {
  times = [];
  sends = [];
  unpublished = None;
  looking = false;
  moment = moment;
}

-- the point at the first opening
abbrev pub opens : World → Point
opens w = record { world = w; high = high_from 0; looked = 0; life = life_in w; earlier = [] }

-- the point at a later opening, after a crash of the pump
abbrev pub reopens : Point → World → Point
reopens t w = record {
  world = w;
  high = high_from t.high.moment;
  looked = t.looked;
  life = life_in w;
  earlier = t.life ∷ t.earlier;
}

-- ---- the feedback, as it is read off ----

-- an offer is Full where as many are held as there are places for, else the message is passed on
abbrev pub offered : World → Feedback → Feedback
offered w _ = if length w.held == w.capacity - 2 then Full else Released

-- what a read gives: how many times were published, and their average
abbrev pub seen : SessionRow → List ℕ → Seen
seen row times = record { count = length times; average = average_of (averaging_of row) times }

-- a read after an offer makes the look Passed, and alone it makes it Repeat
abbrev pub with_read : Seen → Feedback → Feedback
with_read s Released = Passed s
with_read s Quiet = Repeat s
with_read s f = f

-- the feedback of the newest look is changed
abbrev pub felt : (Feedback → Feedback) → List Timed → List Timed
felt f [] = []
felt f (Comes c ∷ past) = Comes c ∷ felt f past
felt f (Looks made ∷ past) = Looks (record made { feedback = f made.feedback }) ∷ past

-- the step stands in the newest look; one before the first look of a life makes a list too many, so
-- that it stands in no place
abbrev pub stands : Step → List (List Step) → List (List Step)
stands s [] = (s ∷ []) ∷ []
stands s (newest ∷ older) = (newest ++ s ∷ []) ∷ older

-- .. and changes the newest look's feedback so
abbrev pub standing : Point → Step → (Feedback → Feedback) → Point
standing t s f = record t {
  life = record {
    side = record { opening = t.life.side.opening; events = felt f t.life.side.events };
    stood = stands s t.life.stood;
  };
}

-- ---- events ----

-- the high side after it began a look, sent the message in this hand, removed the message with this
-- number, and published a time
abbrev pub high_looking : HighSide → ℕ → HighSide
high_looking h m = record h { looking = true; moment = m }

abbrev pub high_sent : HighSide → Option ℕ → HighSide
high_sent h hand = record h { sends = sending_of h.moment hand ++ h.sends }

abbrev pub high_removed : HighSide → ℕ → HighSide
high_removed h n = record h { unpublished = removal_time n h.moment h.sends h.times }

abbrev pub high_published : HighSide → ℕ → HighSide
high_published h time = record h { times = h.times ++ time ∷ []; unpublished = None }

-- the event stands in the low look, and leads to the world v
abbrev pub occurs : Point → Event → World → Point
occurs t e v = record t {
  world = v;
  life = record { side = t.life.side; stood = stands (Occurs e) t.life.stood };
}

-- the point after an event that leads to the world v
abbrev pub after_event : Point → Event → World → Point
after_event t Send v = record t { world = v; high = high_sent t.high t.world.high_hand }
after_event t RemoveEnd v = record t { world = v; high = high_removed t.high t.world.removed }
after_event t (Crash (Some kept) receiver) v = reopens t v
after_event t (StoreBegin p) v = occurs t (StoreBegin p) v
after_event t StoreEnd v = occurs t StoreEnd v
after_event t Forward v = occurs t Forward v
after_event t (Acknowledge n) v = occurs t (Acknowledge n) v
after_event t _ v = record t { world = v }

-- a removal publishes its time before the next message is taken up, and before the next look
abbrev pub IsPublished : HighSide → Type 0
IsPublished h = h.unpublished ≡ None

-- the events of the high side happen in its looks
abbrev pub HasItsLook : HighSide → Event → Type 0
HasItsLook h TakeUp = (h.looking ≡ true) × IsPublished h
HasItsLook h Send = h.looking ≡ true
HasItsLook h (ReturnTaken k) = h.looking ≡ true
HasItsLook h RemoveBegin = h.looking ≡ true
HasItsLook h RemoveEnd = h.looking ≡ true
HasItsLook h _ = Unit {0}

-- ---- one step ----

-- what happened on the low side, with one more
abbrev pub happened : Point → Timed → LowLife
happened t e = record {
  side = record { opening = t.life.side.opening; events = e ∷ t.life.side.events };
  stood = t.life.stood;
}

-- a look begins on the low side
abbrev pub looks_next : Point → Timed → LowLife
looks_next t e = record {
  side = record { opening = t.life.side.opening; events = e ∷ t.life.side.events };
  stood = [] ∷ t.life.stood;
}

-- a look that begins, and was told nothing so far
abbrev pub look_begun : (moment word : ℕ) (gone is_fault : Bool) → LookMade
look_begun m w gone d = record { moment = m; word = w; is_gone = gone; is_fault = d; feedback = Quiet }

-- the step leads from the point t to the point u
abbrev pub StepsTo : SessionRow → Point → Step → Point → Type 0
StepsTo row t (Arrives c) u = u ≡ record t { life = happened t (Comes c) }
StepsTo row t (LowLook m w gone d) u =
    (t.looked ≤ m) × (u ≡ record t { looked = m; life = looks_next t (Looks (look_begun m w gone d)) })
StepsTo row t (HighLook m) u =
    (t.high.moment ≤ m) × IsPublished t.high × (u ≡ record t { high = high_looking t.high m })
StepsTo row t Offer u = u ≡ standing t Offer (offered t.world)
StepsTo row t Read u = u ≡ standing t Read (with_read (seen row t.high.times))
StepsTo row t Publish u =
    (time : ℕ) × (t.high.unpublished ≡ Some time) × (u ≡ record t { high = high_published t.high time })
StepsTo row t (Occurs e) u =
    (v : World) × Happens t.world e v × HasItsLook t.high e × (u ≡ after_event t e v)

-- these steps, the newest first, lead from a beginning to this point
abbrev pub LeadsTo : SessionRow → List Step → Point → Type 0
LeadsTo row [] t = (w : World) × BeginsRun w × (w.capacity ≡ row.capacity) × (t ≡ opens w)
LeadsTo row (s ∷ past) u = (t : Point) × LeadsTo row past t × StepsTo row t s u
