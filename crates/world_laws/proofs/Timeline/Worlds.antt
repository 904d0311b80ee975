-- The worlds of a timed run have the places of its row; and what a low look leaves of the world.
use Rattle.std.proofs.Common.{◌≡◌, ℕ, Bool, true, false, cond, List, [], ◌∷◌, length, Option, Some, None, refl, sym, ap, ◌∙◌, subst}
use Rattle.std.specs.Prelude.{nat_lt, ◌==◌, ◌&&◌}
use Rattle.pump_frame.specs.declared.row.SessionRow.{SessionRow}
use Rattle.pump_core.specs.World.{World}
use Rattle.pump_core.specs.declared.event.Event.{Event}
use Rattle.pump_core.specs.declared.event.Event.TheVariants.{StoreBegin, StoreEnd, Forward, TakeUp, Send, CarryData, TakeBegin, TakeEnd, ReturnTaken, RemoveBegin, RemoveEnd, Acknowledge, Crash}
use Rattle.pump_core.specs.Events.{Happens, Run, holds, pump_crashed, receiver_crashed}
use Rattle.pump_core.specs.Timed.{Step, Arrives, LowLook, HighLook, Offer, Read, Publish, Occurs, Point, LeadsTo, StepsTo}
use Rattle.world_laws.specs.Timelines.{IsAtRest}
use Rattle.world_laws.proofs.Runs.Worlds.{world_after}
use Rattle.world_laws.proofs.Timeline.Deeds.{Deed, Rests, Stores, FindsFull, Releases, Passes, Reads, Acknowledges, events_by}

-- ---- the places ----

either : (b : Bool) (v u : World) (n : ℕ) → v.capacity ≡ n → u.capacity ≡ n → (cond b v u).capacity ≡ n
either true v u n h k = h
either false v u n h k = k

receiver_keeps : (w : World) (r : Option Bool) → (receiver_crashed w r).capacity ≡ w.capacity
receiver_keeps w None = refl
receiver_keeps w (Some b) = refl

pump_keeps : (w : World) (p : Option (Bool × Bool)) → (pump_crashed w p).capacity ≡ w.capacity
pump_keeps w None = refl
pump_keeps w (Some k) = refl

abbrev places : World → ℕ
places w = w.capacity

keeps : (w : World) (e : Event) (v : World) → Happens w e v → v.capacity ≡ w.capacity
keeps w (StoreBegin p) v h = ap places h.2
keeps w StoreEnd v h = ap places h.2
keeps w Forward v h = ap places h.3
keeps w TakeUp v h = ap places h.4
keeps w Send v h = ap places h.5
keeps w (CarryData k) v h = ap places h.4 ∙ either (nat_lt h.0.number (length w.received)) _ _ w.capacity refl refl
keeps w TakeBegin v h = ap places h.3
keeps w TakeEnd v h = ap places h.3
keeps w (ReturnTaken k) v h = ap places h.3 ∙ either (h.0 == w.removed && holds w.high_hand h.0) _ _ w.capacity refl refl
keeps w RemoveBegin v h = ap places h.2
keeps w RemoveEnd v h = ap places h.1
keeps w (Acknowledge n) v h = ap places h.3
keeps w (Crash None None) v h = absurd h
keeps w (Crash None (Some r)) v h = ap places h ∙ receiver_keeps w (Some r)
keeps w (Crash (Some p) r) v h = ap places h ∙ receiver_keeps (pump_crashed w (Some p)) r ∙ pump_keeps w (Some p)

abbrev places_at : Point → ℕ
places_at t = t.world.capacity

moves_keep : (row : SessionRow) (t : Point) (s : Step) (u : Point) → StepsTo row t s u → u.world.capacity ≡ t.world.capacity
moves_keep row t (Arrives c) u m = ap places_at m
moves_keep row t (LowLook a b c d) u m = ap places_at m.1
moves_keep row t (HighLook a) u m = ap places_at m.2
moves_keep row t Offer u m = ap places_at m
moves_keep row t Read u m = ap places_at m
moves_keep row t Publish u m = ap places_at m.2
moves_keep row t (Occurs e) u (v, h, waits, m) = ap places_at m ∙ ap places (world_after t e v) ∙ keeps t.world e v h

-- the world to which a run came has the places of its row
pub has_places : (row : SessionRow) (steps : List Step) (t : Point) → LeadsTo row steps t → t.world.capacity ≡ row.capacity
has_places row [] t (w, b, c, e) = ap places_at e ∙ c
has_places row (s ∷ past) u (t, before, m) = moves_keep row t s u m ∙ has_places row past t before

-- ---- what a low look leaves ----

-- as many are removed as before, and nothing is left unfinished
pub record Leaves (w v : World) : Type 0 where
  pub removed : v.removed ≡ w.removed
  pub rest : IsAtRest w → IsAtRest v

same : (w v : World) → v ≡ w → Leaves w v
same w v e = record { removed = ap (λ (u : World). u.removed) e; rest = λ r. subst IsAtRest (sym e) r }

-- one event that leaves all of that alone
aside : (w u v : World) → u.removed ≡ w.removed → (IsAtRest w → IsAtRest u) → v ≡ u → Leaves w v
aside w u v removed rest e = record { removed = ap (λ (x : World). x.removed) e ∙ removed; rest = λ r. subst IsAtRest (sym e) (rest r) }

forwards : (w v : World) → Run w (Forward ∷ []) v → Leaves w v
forwards w v (v₁, h, e) =
    aside w _ v refl (λ r. record { storing = r.storing; due = r.due; removing = r.removing; packet = r.packet; taking = r.taking }) (e ∙ h.3)

pub deed_leaves : (d : Deed) (w v : World) → Run w (events_by d) v → Leaves w v
deed_leaves Rests w v r = same w v r
deed_leaves (Stores p) w v (v₁, h₁, (v₂, h₂, e)) = record {
  removed = ap (λ (x : World). x.removed) (e ∙ h₂.2) ∙ ap (λ (x : World). x.removed) h₁.2;
  rest = λ r. subst IsAtRest (sym (e ∙ h₂.2)) (record {
    storing = refl;
    due = ap (λ (x : World). x.due) h₁.2 ∙ r.due;
    removing = ap (λ (x : World). x.removing) h₁.2 ∙ r.removing;
    packet = ap (λ (x : World). x.packet) h₁.2 ∙ r.packet;
    taking = ap (λ (x : World). x.taking) h₁.2 ∙ r.taking;
  });
}
deed_leaves FindsFull w v r = same w v r
deed_leaves Releases w v r = forwards w v r
deed_leaves (Passes s) w v r = forwards w v r
deed_leaves (Reads s) w v r = same w v r
deed_leaves (Acknowledges n) w v (v₁, h, e) =
    aside w _ v refl (λ r. record { storing = r.storing; due = r.due; removing = r.removing; packet = r.packet; taking = r.taking }) (e ∙ h.3)
