-- What may happen in a world: each event where its condition holds, and it changes only what is named.
use Rattle.std.specs.Prelude.{◌≡◌, ℕ, ◌+◌, ◌-◌, ◌<◌, ◌≤◌, ◌&&◌, nat_lt, ◌==◌, if◌then◌else◌, Bool, true, false, List}
use Rattle.std.specs.Prelude.{[], ◌∷◌, ◌++◌, length, slice_get, Option, Some, None}
use Rattle.pump_frame.specs.Rows.{least_capacity, greatest_capacity}
use Rattle.pump_frame.specs.declared.payload.Payload.{Payload}
use Rattle.pump_frame.specs.declared.frame.Item.{Item}
use Rattle.pump_core.specs.declared.event.Event.{Event}
use Rattle.pump_core.specs.declared.event.Event.TheVariants.{StoreBegin, StoreEnd, Forward, TakeUp, Send, CarryData}
use Rattle.pump_core.specs.declared.event.Event.TheVariants.{TakeBegin, TakeEnd, ReturnTaken, RemoveBegin, RemoveEnd}
use Rattle.pump_core.specs.declared.event.Event.TheVariants.{Acknowledge, Crash}
use Rattle.pump_core.specs.declared.event.Hostile.{Hostile}
use Rattle.pump_core.specs.declared.event.Hostile.TheVariants.{Core, Forge}
use Rattle.pump_core.specs.World.{World, empty, opened, refilled, Agree}

-- ---- changes ----

-- the unfinished message is accepted
abbrev pub stored : World → Payload → World
stored w p = record w {
  accepted = w.accepted ++ p ∷ [];
  low_hand = Some (length w.accepted);
  storing = None;
}

-- a DATA comes to the receiver: it is answered where its message was taken before, else it waits
abbrev pub carried : World → Item → World
carried w d =
    if nat_lt d.number (length w.received) then record w { returned = w.returned ++ d.number ∷ [] }
    else record w { packet = Some d.payload }

-- the receiver took the message
abbrev pub took : World → Payload → World
took w p = record w {
  returned = w.returned ++ length w.received ∷ [];
  received = w.received ++ p ∷ [];
  packet = None;
  taking = false;
}

-- whether this number is in the hand
abbrev pub holds : Option ℕ → ℕ → Bool
holds None n = false
holds (Some m) n = m == n

-- the TAKEN of message n comes back: its removal is due where it is the first live message and in the
-- high hand
abbrev pub answered : World → ℕ → World
answered w n = if n == w.removed && holds w.high_hand n then record w { due = true } else w

-- ---- crashes ----

-- a list to which an unfinished message is added where the crash kept it
abbrev pub with_kept : Bool → Option Payload → List Payload → List Payload
with_kept true (Some p) ps = ps ++ p ∷ []
with_kept true None ps = ps
with_kept false unfinished ps = ps

-- .. and the TAKEN that is sent for it
abbrev pub with_answer : Bool → Option Payload → List Payload → List ℕ → List ℕ
with_answer true (Some p) received returned = returned ++ length received ∷ []
with_answer true None received returned = returned
with_answer false unfinished received returned = returned

-- a crash of the pump keeps or loses an unfinished store and an unfinished removal; then the pump
-- is as at an opening
abbrev pub pump_crashed : World → Option (Bool × Bool) → World
pump_crashed w None = w
pump_crashed w (Some kept) = refilled (record w {
  accepted = with_kept kept.0 w.storing w.accepted;
  removed = if kept.1 && w.removing then w.removed + 1 else w.removed;
})

-- a crash of the receiver keeps or loses an unfinished taking, and a message that waits is lost
abbrev pub receiver_crashed : World → Option Bool → World
receiver_crashed w None = w
receiver_crashed w (Some kept) = record w {
  returned = with_answer (kept && w.taking) w.packet w.received w.returned;
  received = with_kept (kept && w.taking) w.packet w.received;
  packet = None;
  taking = false;
}

-- ---- events ----

-- the event happens in the world w, and then the world is v
abbrev pub Happens : World → Event → World → Type 0
Happens w (StoreBegin p) v =
    (w.storing ≡ None) × (w.low_hand ≡ None) × (v ≡ record w { storing = Some p })
Happens w StoreEnd v =
    (p : Payload) × (w.storing ≡ Some p) × (v ≡ stored w p)
Happens w Forward v =
    (n : ℕ) × (w.low_hand ≡ Some n) × (length w.held < w.capacity - 2)
    × (v ≡ record w { held = w.held ++ n ∷ []; low_hand = None })
Happens w TakeUp v =
    (n : ℕ) × (rest : List ℕ) × (w.high_hand ≡ None) × (w.held ≡ n ∷ rest)
    × (v ≡ record w { held = rest; high_hand = Some n })
Happens w Send v =
    (n : ℕ) × (p : Payload) × (w.high_hand ≡ Some n) × (w.removing ≡ false)
    × (slice_get w.accepted n ≡ Some p)
    × (v ≡ record w { sent = w.sent ++ record { number = n; payload = p } ∷ [] })
Happens w (CarryData k) v =
    (d : Item) × (slice_get w.sent k ≡ Some d) × (w.packet ≡ None)
    × (d.number ≤ length w.received) × (v ≡ carried w d)
Happens w TakeBegin v =
    (p : Payload) × (w.packet ≡ Some p) × (w.taking ≡ false) × (v ≡ record w { taking = true })
Happens w TakeEnd v =
    (p : Payload) × (w.packet ≡ Some p) × (w.taking ≡ true) × (v ≡ took w p)
Happens w (ReturnTaken k) v =
    (n : ℕ) × (slice_get w.returned k ≡ Some n) × (w.removing ≡ false) × (v ≡ answered w n)
Happens w RemoveBegin v =
    (w.due ≡ true) × (w.removing ≡ false) × (v ≡ record w { removing = true })
Happens w RemoveEnd v =
    (w.removing ≡ true)
    × (v ≡ record w { removed = w.removed + 1; high_hand = None; due = false; removing = false })
Happens w (Acknowledge n) v =
    (n < length w.accepted) × (w.low_hand ≡ None) × (w.storing ≡ None)
    × (v ≡ record w { acknowledged = w.acknowledged ++ n ∷ [] })
Happens w (Crash None None) v = ⊥
Happens w (Crash pump receiver) v = v ≡ receiver_crashed (pump_crashed w pump) receiver

-- these events happen one after another, and lead from the world w to the world v
abbrev pub Run : World → List Event → World → Type 0
Run w [] v = v ≡ w
Run w (e ∷ es) v = (next : World) × Happens w e next × Run next es v

-- a world begins empty, or opens on disks that agree
pub data BeginsRun : World → Type 0 where
  Empty : (capacity : ℕ) → least_capacity ≤ capacity → capacity ≤ greatest_capacity → BeginsRun (empty capacity)
  Opened : (capacity removed : ℕ) (received later : List Payload)
      → least_capacity ≤ capacity → capacity ≤ greatest_capacity → Agree capacity removed received later
      → BeginsRun (opened capacity removed received later)

-- ---- forged answers ----

-- the same where TAKEN may be forged: any number may come back while no removal is unfinished
abbrev pub HappensForged : World → Hostile → World → Type 0
HappensForged w (Core e) v = Happens w e v
HappensForged w (Forge n) v = (w.removing ≡ false) × (v ≡ answered w n)

abbrev pub RunForged : World → List Hostile → World → Type 0
RunForged w [] v = v ≡ w
RunForged w (e ∷ es) v = (next : World) × HappensForged w e next × RunForged next es v

-- ---- what a step answers ----

-- yes where the event could happen, and then it has; no where it could not, and nothing has changed
abbrev pub StepAnswers : World → Event → Bool → World → Type 0
StepAnswers w e true v = Happens w e v
StepAnswers w e false v = ((x : World) → Happens w e x → ⊥) × (v ≡ w)
