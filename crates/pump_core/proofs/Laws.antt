-- Whatever happens, a world stays lawful: each event keeps it so, and then all of them do.
use Rattle.std.proofs.Common.{◌≡◌, ℕ, ◌<◌, ◌≤◌, true, List, [], ◌∷◌, ◌++◌, length, Some, None, refl, sym, subst, arith, length-append}
use Rattle.std.proofs.lemmas.List.Elements.{All-nil}
use Rattle.pump_frame.specs.Rows.{least_capacity, greatest_capacity}
use Rattle.pump_frame.specs.declared.payload.Payload.{Payload}
use Rattle.pump_core.specs.declared.event.Event.{Event}
use Rattle.pump_core.specs.declared.event.Event.TheVariants.{StoreBegin, StoreEnd, Forward, TakeUp, Send, CarryData, TakeBegin, TakeEnd, ReturnTaken, RemoveBegin, RemoveEnd, Acknowledge, Crash}
use Rattle.pump_core.specs.declared.event.Hostile.{Hostile}
use Rattle.pump_core.specs.declared.event.Hostile.TheVariants.{Core, Forge}
use Rattle.pump_core.specs.World.{World, empty, opened, last_taken, Agree}
use Rattle.pump_core.specs.Events.{pump_crashed, Happens, Run, HappensForged, RunForged, BeginsRun, Empty, Opened}
use Rattle.pump_core.specs.Lawful.{IsMessage, IsBounded, IsDelivered, IsLawful}
use Rattle.pump_core.proofs.Bounded as bounded
use Rattle.pump_core.proofs.Delivered as delivered

-- the world after is bounded
abbrev onto : (v x : World) → v ≡ x → IsBounded x → IsBounded v
onto v x e b = subst IsBounded (sym e) b

pub stays_bounded : (w : World) (e : Event) (v : World) → IsBounded w → Happens w e v → IsBounded v
stays_bounded w (StoreBegin p) v b h = onto v _ h.2 (bounded.begins_store w p b h.1)
stays_bounded w StoreEnd v b h = onto v _ h.2 (bounded.ends_store w h.0 b h.1)
stays_bounded w Forward v b h = onto v _ h.3 (bounded.forwards w h.0 b h.1 h.2)
stays_bounded w TakeUp v b h = onto v _ h.4 (bounded.takes_up w h.0 h.1 b h.2 h.3)
stays_bounded w Send v b h = onto v _ h.5 (bounded.sends w h.0 h.1 b h.2 h.4)
stays_bounded w (CarryData k) v b h = onto v _ h.4 (bounded.carries w h.0 b)
stays_bounded w TakeBegin v b h =
    onto v _ h.3 (bounded.elsewhere w w.received w.packet true w.returned b)
stays_bounded w TakeEnd v b h = onto v _ h.3 (bounded.takes w h.0 b)
stays_bounded w (ReturnTaken k) v b h = onto v _ h.3 (bounded.answers w h.0 b)
stays_bounded w RemoveBegin v b h = onto v _ h.2 (bounded.begins_removal w b h.0)
stays_bounded w RemoveEnd v b h = onto v _ h.1 (bounded.ends_removal w b h.0)
stays_bounded w (Acknowledge n) v b h = onto v _ h.3 (bounded.acknowledges w n b h.0)
stays_bounded w (Crash None None) v b h = absurd h
stays_bounded w (Crash None (Some r)) v b h = onto v _ h (bounded.receiver_crashes w (Some r) b)
stays_bounded w (Crash (Some p) r) v b h =
    onto v _ h (bounded.receiver_crashes (pump_crashed w (Some p)) r (bounded.pump_crashes w (Some p) b))

abbrev into : (v x : World) → v ≡ x → IsDelivered x → IsDelivered v
into v x e d = subst IsDelivered (sym e) d

pub stays_delivered : (w : World) (e : Event) (v : World) → IsBounded w → IsDelivered w
    → Happens w e v → IsDelivered v
stays_delivered w (StoreBegin p) v b d h =
    into v _ h.2 (delivered.aside w (Some p) w.low_hand w.held w.high_hand w.removing w.sent w.acknowledged d)
stays_delivered w StoreEnd v b d h = into v _ h.2 (delivered.ends_store w h.0 d)
stays_delivered w Forward v b d h =
    into v _ h.3 (delivered.aside w w.storing None (w.held ++ h.0 ∷ []) w.high_hand w.removing w.sent w.acknowledged d)
stays_delivered w TakeUp v b d h =
    into v _ h.4 (delivered.aside w w.storing w.low_hand h.1 (Some h.0) w.removing w.sent w.acknowledged d)
stays_delivered w Send v b d h =
    into v _ h.5 (delivered.aside w w.storing w.low_hand w.held w.high_hand w.removing (w.sent ++ record { number = h.0; payload = h.1 } ∷ []) w.acknowledged d)
stays_delivered w (CarryData k) v b d h = into v _ h.4 (delivered.carries w k h.0 b d h.1 h.2 h.3)
stays_delivered w TakeBegin v b d h = into v _ h.3 (delivered.begins_taking w h.0 d h.1)
stays_delivered w TakeEnd v b d h = into v _ h.3 (delivered.ends_taking w h.0 d h.1)
stays_delivered w (ReturnTaken k) v b d h = into v _ h.3 (delivered.answers w k h.0 d h.1)
stays_delivered w RemoveBegin v b d h =
    into v _ h.2 (delivered.aside w w.storing w.low_hand w.held w.high_hand true w.sent w.acknowledged d)
stays_delivered w RemoveEnd v b d h = into v _ h.1 (delivered.ends_removal w b d h.0)
stays_delivered w (Acknowledge n) v b d h =
    into v _ h.3 (delivered.aside w w.storing w.low_hand w.held w.high_hand w.removing w.sent (w.acknowledged ++ n ∷ []) d)
stays_delivered w (Crash None None) v b d h = absurd h
stays_delivered w (Crash None (Some r)) v b d h =
    into v _ h (delivered.receiver_crashes w (Some r) d)
stays_delivered w (Crash (Some p) r) v b d h =
    into v _ h (delivered.receiver_crashes (pump_crashed w (Some p)) r (delivered.pump_crashes w (Some p) b d))

-- ---- beginnings ----

empty_is_bounded : (capacity : ℕ) → least_capacity ≤ capacity → capacity ≤ greatest_capacity → IsBounded (empty capacity)
empty_is_bounded capacity low high = record {
  size = (low, high);
  within = record { below = omega arith; above = omega arith };
  order = record { order = refl; room = omega arith };
  store = tt;
  removal = record { hand = λ d. absurd (cc); cause = λ d. absurd (cc) };
  sent = All-nil (IsMessage 0 []);
  acknowledged = All-nil (λ n. n < 0);
}

opened_is_bounded : (capacity removed : ℕ) (received later : List Payload) → least_capacity ≤ capacity
    → capacity ≤ greatest_capacity → Agree capacity removed received later
    → IsBounded (opened capacity removed received later)
opened_is_bounded capacity removed received later low high a =
    bounded.refills (record (empty capacity) { accepted = received ++ later; removed = removed; received = received; returned = last_taken received })
    (low, high)
    (record { below = omega (arith, a.taken, length-append received later); above = a.fits })
    (All-nil (IsMessage removed (received ++ later)))
    (All-nil (λ n. n < length (received ++ later)))

pub begins_bounded : (w : World) → BeginsRun w → IsBounded w
begins_bounded _ (Empty capacity low high) = empty_is_bounded capacity low high
begins_bounded _ (Opened capacity removed received later low high a) =
    opened_is_bounded capacity removed received later low high a

pub begins_lawful : (w : World) → BeginsRun w → IsLawful w
begins_lawful _ (Empty capacity low high) = record { bounded = empty_is_bounded capacity low high; delivered = delivered.empties capacity }
begins_lawful _ (Opened capacity removed received later low high a) = record {
  bounded = opened_is_bounded capacity removed received later low high a;
  delivered = delivered.opens capacity removed received later a.taken;
}

pub stays_lawful : (w : World) (e : Event) (v : World) → IsLawful w → Happens w e v → IsLawful v
stays_lawful w e v l h = record { bounded = stays_bounded w e v l.bounded h; delivered = stays_delivered w e v l.bounded l.delivered h }

pub runs_lawfully : (w : World) (es : List Event) (v : World) → IsLawful w → Run w es v → IsLawful v
runs_lawfully w [] v l r = subst IsLawful (sym r) l
runs_lawfully w (e ∷ es) v l (next, h, r) = runs_lawfully next es v (stays_lawful w e next l h) r

-- ---- forged ----

pub stays_bounded_forged : (w : World) (e : Hostile) (v : World) → IsBounded w → HappensForged w e v
    → IsBounded v
stays_bounded_forged w (Core e) v b h = stays_bounded w e v b h
stays_bounded_forged w (Forge n) v b h = onto v _ h.1 (bounded.answers w n b)

pub runs_bounded : (w : World) (es : List Hostile) (v : World) → IsBounded w → RunForged w es v
    → IsBounded v
runs_bounded w [] v b r = subst IsBounded (sym r) b
runs_bounded w (e ∷ es) v b (next, h, r) =
    runs_bounded next es v (stays_bounded_forged w e next b h) r
