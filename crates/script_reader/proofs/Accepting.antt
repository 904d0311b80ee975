-- How many messages are accepted: what happens above the low side leaves them, and a low look adds the one
-- that it stores.
use Rattle.std.proofs.Common.{◌≡◌, ⊎_elim, ℕ, ◌+◌, Bool, true, false, cond, List, [], ◌∷◌, ◌++◌, length, Option, Some, None, refl, ap, ◌∙◌, length-append, arith}
use Rattle.std.specs.Prelude.{◌==◌, ◌&&◌, nat_lt}
use Rattle.pump_frame.specs.declared.payload.Payload.{Payload}
use Rattle.pump_frame.specs.declared.frame.Kind.{Kind}
use Rattle.pump_frame.specs.declared.frame.Kind.TheVariants as kinds
use Rattle.pump_core.specs.declared.feedback.Feedback.{Feedback}
use Rattle.pump_core.specs.declared.feedback.Feedback.TheVariants.{Quiet, Full, Passed, Released, Repeat}
use Rattle.pump_core.specs.declared.event.Event.{Event as WorldEvent}
use Rattle.pump_core.specs.declared.event.Event.TheVariants.{CarryData, TakeBegin, TakeEnd, TakeUp, RemoveBegin, RemoveEnd}
use Rattle.pump_core.specs.History.{Arrival}
use Rattle.pump_core.specs.History.{Nothing, Came, Bad, Gone}
use Rattle.pump_core.specs.HighLooks.{Perhaps, Returns, IsSent}
use Rattle.pump_core.specs.Replies.{Sent}
use Rattle.pump_core.specs.World.{World}
use Rattle.pump_core.specs.Events.{holds, Happens, Run}
use Rattle.script_reader.specs.Lows.{offers, stored_events, ack_by, acks_of}

abbrev messages : World → List Payload
messages w = w.accepted

-- nothing more is accepted
abbrev pub Leaves : World → World → Type 0
Leaves w v = v.accepted ≡ w.accepted

-- ---- above the low side ----

either : (b : Bool) (w v u : World) → Leaves w v → Leaves w u → Leaves w (cond b v u)
either true w v u h k = h
either false w v u h k = k

pub returns_leave : (w : World) (back : Option ℕ) (v : World) → Returns w back v → Leaves w v
returns_leave w None v e = ap messages e
returns_leave w (Some k) v h = ap messages h.3 ∙ either (h.0 == w.removed && holds w.high_hand h.0) w _ w refl refl

perhaps_leave : (w : World) (e : WorldEvent) (es : List WorldEvent) (v : World) → (Run w (e ∷ es) v → Leaves w v) → Perhaps w e es v → Leaves w v
perhaps_leave w e es v run h = ⊎_elim run (λ (o : ((x : World) → Happens w e x → ⊥) × (v ≡ w)). ap messages o.1) h

pub removes_leave : (w v : World) → Perhaps w RemoveBegin (RemoveEnd ∷ []) v → Leaves w v
removes_leave w v h = perhaps_leave w RemoveBegin (RemoveEnd ∷ []) v by h
  where
    by : Run w (RemoveBegin ∷ RemoveEnd ∷ []) v → Leaves w v
    by (a, b, (c, d, e)) = ap messages e ∙ ap messages d.1 ∙ ap messages b.2

pub takes_up_leave : (w v : World) → Perhaps w TakeUp [] v → Leaves w v
takes_up_leave w v h = perhaps_leave w TakeUp [] v (λ (r : Run w (TakeUp ∷ []) v). ap messages r.2 ∙ ap messages r.1.4) h

pub sends_leave : (b : Bool) (w v : World) → IsSent b w v → Leaves w v
sends_leave true w v h = ap messages h.5
sends_leave false w v e = ap messages e

pub carries_leave : (w : World) (k : ℕ) (v : World) → Happens w (CarryData k) v → Leaves w v
carries_leave w k v h = ap messages h.4 ∙ either (nat_lt h.0.number (length w.received)) w _ _ refl refl

pub takes_leave : (w v : World) → Perhaps w TakeBegin (TakeEnd ∷ []) v → Leaves w v
takes_leave w v h = perhaps_leave w TakeBegin (TakeEnd ∷ []) v by h
  where
    by : Run w (TakeBegin ∷ TakeEnd ∷ []) v → Leaves w v
    by (a, b, (c, d, e)) = ap messages e ∙ ap messages d.3 ∙ ap messages b.3

-- ---- a low look ----

-- the run goes on after events that accept so many messages
record Then (n : ℕ) (w : World) (later : List WorldEvent) (v : World) : Type 0 where
  mid : World
  count : length mid.accepted ≡ length w.accepted + n
  rest : Run mid later v

abbrev accepted_in : World → ℕ
accepted_in w = length w.accepted

after_offer : (f : Feedback) (w : World) (later : List WorldEvent) (v : World) → Run w (offers f ++ later) v → Then 0 w later v
after_offer Quiet w later v r = record { mid = w; count = omega arith; rest = r }
after_offer Full w later v r = record { mid = w; count = omega arith; rest = r }
after_offer (Repeat s) w later v r = record { mid = w; count = omega arith; rest = r }
after_offer (Passed s) w later v (a, h, r) = record { mid = a; count = ap accepted_in h.3 ∙ omega arith; rest = r }
after_offer Released w later v (a, h, r) = record { mid = a; count = ap accepted_in h.3 ∙ omega arith; rest = r }

-- how many messages a look stores
abbrev pub stored_in : Option ℕ → Arrival → ℕ
stored_in (Some n) (Came f) = 1
stored_in _ _ = 0

after_store : (n : Option ℕ) (a : Arrival) (w : World) (later : List WorldEvent) (v : World) → Run w (stored_events n a ++ later) v → Then (stored_in n a) w later v
after_store None a w later v r = record { mid = w; count = omega arith; rest = r }
after_store (Some n) Nothing w later v r = record { mid = w; count = omega arith; rest = r }
after_store (Some n) Bad w later v r = record { mid = w; count = omega arith; rest = r }
after_store (Some n) Gone w later v r = record { mid = w; count = omega arith; rest = r }
after_store (Some n) (Came f) w later v (a, b, (c, d, r)) =
    record { mid = c; count = ap accepted_in d.2 ∙ length-append a.accepted (d.0 ∷ []) ∙ ap (λ (u : World). length u.accepted + 1) b.2; rest = r }

after_ack : (k : Kind) (n : ℕ) (w : World) (later : List WorldEvent) (v : World) → Run w (ack_by k n ++ later) v → Then 0 w later v
after_ack kinds.Ack n w later v (a, h, r) = record { mid = a; count = ap accepted_in h.3 ∙ omega arith; rest = r }
after_ack kinds.Hello n w later v r = record { mid = w; count = omega arith; rest = r }
after_ack kinds.Welcome n w later v r = record { mid = w; count = omega arith; rest = r }
after_ack kinds.Data n w later v r = record { mid = w; count = omega arith; rest = r }
after_ack kinds.Refuse n w later v r = record { mid = w; count = omega arith; rest = r }
after_ack kinds.Attach n w later v r = record { mid = w; count = omega arith; rest = r }
after_ack kinds.Taken n w later v r = record { mid = w; count = omega arith; rest = r }

after_acks : (rs : List Sent) (w v : World) → Run w (acks_of rs) v → length v.accepted ≡ length w.accepted
after_acks [] w v e = ap accepted_in e
after_acks (r ∷ rs) w v run =
    let t = after_ack r.reply.kind r.reply.number w (acks_of rs) v run in
    after_acks rs t.mid v t.rest ∙ t.count ∙ omega arith

pub look_accepts : (f : Feedback) (n : Option ℕ) (a : Arrival) (rs : List Sent) (w v : World) → Run w (offers f ++ (stored_events n a ++ acks_of rs)) v
    → length v.accepted ≡ length w.accepted + stored_in n a
look_accepts f n a rs w v run =
    let o = after_offer f w (stored_events n a ++ acks_of rs) v run in
    let s = after_store n a o.mid (acks_of rs) v o.rest in
    let t = after_acks rs s.mid v s.rest in
    t ∙ s.count ∙ ap (λ (k : ℕ). k + stored_in n a) (o.count ∙ omega arith)
