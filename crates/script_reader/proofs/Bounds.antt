-- A session to which a script leads keeps its bounds.
use Rattle.std.proofs.Common.{◌≡◌, ⊎_elim, ℕ, ◌+◌, ◌-◌, ◌≤◌, zero, suc, Bool, true, false, cond, List, [], ◌∷◌, Option, Some, None, refl, sym, ap, ◌∙◌, subst, arith}
use Rattle.std.specs.Prelude.{◌==◌, ◌&&◌, nat_lt, length}
use Rattle.pump_frame.specs.declared.row.SessionRow.{SessionRow}
use Rattle.pump_core.specs.declared.event.Event.{Event as WorldEvent}
use Rattle.pump_core.specs.declared.event.Event.TheVariants.{StoreBegin, StoreEnd, Forward, TakeUp, Send, CarryData, TakeBegin, TakeEnd, ReturnTaken, RemoveBegin, RemoveEnd, Acknowledge, Crash}
use Rattle.pump_core.specs.World.{World}
use Rattle.pump_core.specs.Lawful.{IsLawful}
use Rattle.pump_core.specs.Events.{Happens, Run, holds, pump_crashed, receiver_crashed}
use Rattle.pump_core.proofs.Laws.{runs_lawfully}
use Rattle.script_reader.specs.declared.line.Line.{Line}
use Rattle.script_reader.specs.declared.line.Line.TheVariants as lines
use Rattle.script_reader.specs.declared.event.Event.{Event}
use Rattle.pump_core.specs.HighLooks.{Perhaps, Returns, IsSent}
use Rattle.script_reader.specs.Past.{Past}
use Rattle.script_reader.specs.Highs.{IsWholeLook, is_ahead, IsReturnBy, IsReturn, IsAttach, IsCarried, place}
use Rattle.script_reader.specs.Openings.{Openings}
use Rattle.script_reader.specs.Restarts.{IsReceiverRestart}
use Rattle.script_reader.specs.Steps.{IsCarriedBack, LineStep}
use Rattle.script_reader.specs.Alone.{PastAlone}
use Rattle.script_reader.specs.Scripts.{Begun, Whole, Alone, GoesOn, made_coarse, Leads, LeadTo}
use Rattle.script_reader.specs.Readouts.{KeepsBounds}
use Rattle.script_reader.proofs.Opened.{opened_lawful}
use Rattle.script_reader.proofs.Leading.{IsNew, led}
use Rattle.script_reader.proofs.Waiting.{step_waits, step_low_waits}

-- the capacity stays
pub record Stays (n : ℕ) (w : World) : Type 0 where
  pub lawful : IsLawful w
  pub capacity : w.capacity ≡ n

either : (b : Bool) (v u : World) (n : ℕ) → v.capacity ≡ n → u.capacity ≡ n → (cond b v u).capacity ≡ n
either true v u n h k = h
either false v u n h k = k

receiver_stays : (w : World) (r : Option Bool) → (receiver_crashed w r).capacity ≡ w.capacity
receiver_stays w None = refl
receiver_stays w (Some b) = refl

pump_stays : (w : World) (p : Option (Bool × Bool)) → (pump_crashed w p).capacity ≡ w.capacity
pump_stays w None = refl
pump_stays w (Some k) = refl

abbrev cap : World → ℕ
cap w = w.capacity

event_stays : (w : World) (e : WorldEvent) (v : World) → Happens w e v → v.capacity ≡ w.capacity
event_stays w (StoreBegin p) v h = ap cap h.2
event_stays w StoreEnd v h = ap cap h.2
event_stays w Forward v h = ap cap h.3
event_stays w TakeUp v h = ap cap h.4
event_stays w Send v h = ap cap h.5
event_stays w (CarryData k) v h = ap cap h.4 ∙ either (nat_lt h.0.number (length w.received)) _ _ w.capacity refl refl
event_stays w TakeBegin v h = ap cap h.3
event_stays w TakeEnd v h = ap cap h.3
event_stays w (ReturnTaken k) v h = ap cap h.3 ∙ either (h.0 == w.removed && holds w.high_hand h.0) _ _ w.capacity refl refl
event_stays w RemoveBegin v h = ap cap h.2
event_stays w RemoveEnd v h = ap cap h.1
event_stays w (Acknowledge n) v h = ap cap h.3
event_stays w (Crash None None) v h = absurd h
event_stays w (Crash None (Some r)) v h = ap cap h ∙ receiver_stays w (Some r)
event_stays w (Crash (Some p) r) v h = ap cap h ∙ receiver_stays (pump_crashed w (Some p)) r ∙ pump_stays w (Some p)

run_stays : (w : World) (es : List WorldEvent) (v : World) → Run w es v → v.capacity ≡ w.capacity
run_stays w [] v e = ap cap e
run_stays w (e ∷ es) v (u, h, r) = run_stays u es v r ∙ event_stays w e u h

pub stays_by : (n : ℕ) (w : World) (es : List WorldEvent) (v : World) → Stays n w → Run w es v → Stays n v
stays_by n w es v s r = record { lawful = runs_lawfully w es v s.lawful r; capacity = run_stays w es v r ∙ s.capacity }

stays_one : (n : ℕ) (w : World) (e : WorldEvent) (v : World) → Stays n w → Happens w e v → Stays n v
stays_one n w e v s h = stays_by n w (e ∷ []) v s (v, h, refl)

pub perhaps_lawful : (n : ℕ) (w : World) (e : WorldEvent) (es : List WorldEvent) (v : World) → (Stays n) w → Perhaps w e es v → (Stays n) v
perhaps_lawful n w e es v l h = ⊎_elim
    (λ (r : Run w (e ∷ es) v). stays_by n w (e ∷ es) v l r)
    (λ (o : ((x : World) → Happens w e x → ⊥) × (v ≡ w)). subst (Stays n) (sym o.1) l)
    h

pub returns_lawful : (n : ℕ) (w : World) (back : Option ℕ) (v : World) → (Stays n) w → Returns w back v → (Stays n) v
returns_lawful n w None v l e = subst (Stays n) (sym e) l
returns_lawful n w (Some k) v l h = stays_one n w (ReturnTaken k) v l h

pub sends_lawful : (n : ℕ) (b : Bool) (w v : World) → (Stays n) w → IsSent b w v → (Stays n) v
sends_lawful n true w v l h = stays_one n w Send v l h
sends_lawful n false w v l e = subst (Stays n) (sym e) l

pub high_lawful : (n : ℕ) (s : SessionRow) (attaches : Bool) (p : Past) (m : ℕ) (back : Option ℕ) (q : Past) (printed : List Event) → (Stays n) p.world → IsWholeLook s attaches p m back q printed → (Stays n) q.world
high_lawful n s attaches p m back q printed l (mid, first, second, r, t, e) =
    let a = returns_lawful n p.world back r.look.answered l r.look.returns in
    let b = perhaps_lawful n r.look.answered RemoveBegin (RemoveEnd ∷ []) mid.world a r.look.removes in
    let c = perhaps_lawful n mid.world TakeUp [] t.look.taken b t.look.takes_up in
    sends_lawful n t.look.is_sent t.look.taken q.world c t.look.sent

return_by_lawful : (b : Bool) (n : ℕ) (s : SessionRow) (attaches : Bool) (p : Past) (m k : ℕ) (q : Past) (printed : List Event) → (Stays n) p.world → IsReturnBy b s attaches p m k q printed → (Stays n) q.world
return_by_lawful true n s attaches p m k q printed l h = subst (λ (t : Past). (Stays n) t.world) (sym h.0) l
return_by_lawful false n s attaches p m k q printed l h = high_lawful n s attaches p m (Some k) q printed l h

return_lawful : (n : ℕ) (s : SessionRow) (p : Past) (m k : ℕ) (q : Past) (printed : List Event) → (Stays n) p.world → IsReturn s p m k q printed → (Stays n) q.world
return_lawful n s p m k q printed l h = return_by_lawful (is_ahead p.world k) n s false p m k q printed l h

attach_lawful : (n : ℕ) (s : SessionRow) (p : Past) (m count : ℕ) (q : Past) (printed : List Event) → (Stays n) p.world → IsAttach s p m count q printed → (Stays n) q.world
attach_lawful n s p m zero q printed l h = high_lawful n s true p m None q printed l h
attach_lawful n s p m (suc k) q printed l (i, at, h) = return_by_lawful (is_ahead p.world i) n s true p m i q printed l h

receiver_lawful : (n : ℕ) (s : SessionRow) (p : Past) (m : ℕ) (q : Past) (printed : List Event) → (Stays n) p.world → IsReceiverRestart s p m q printed → (Stays n) q.world
receiver_lawful n s p m q printed l (mid, (h, is), (more, t, e)) = attach_lawful n s mid m (length mid.world.received) q more (stays_one n p.world (Crash None (Some false)) mid.world l h) t

pub carry_lawful : (n : ℕ) (s : SessionRow) (p : Past) (back : ℕ) (q : Past) (printed : List Event) → (Stays n) p.world → IsCarried s p back q printed → (Stays n) q.world
carry_lawful n s p back q printed l c = perhaps_lawful n c.carried TakeBegin (TakeEnd ∷ []) q.world (stays_one n p.world (CarryData (place p.world.sent back)) c.carried l c.carries) c.takes

goes_lawful : (n : ℕ) (s : SessionRow) (hand : Option ℕ) (p : Past) (m : ℕ) (q : Past) (printed : List Event) → (Stays n) p.world → IsCarriedBack s hand p m q printed → (Stays n) q.world
goes_lawful n s None p m q printed l (e, f) = subst (λ (t : Past). (Stays n) t.world) (sym e) l
goes_lawful n s (Some k) p m q printed l (mid, first, second, c, h, e) = return_lawful n s mid m (place mid.world.returned 0) q second (carry_lawful n s p 0 mid first l c) h

step_lawful : (n : ℕ) (s : SessionRow) (p : Past) (line : Line) (q : Past) (printed : List Event) → (Stays n) p.world → LineStep s p line q printed → (Stays n) q.world
step_lawful n s p lines.Skip q printed l h = absurd h
step_lawful n s p (lines.Session row) q printed l h = absurd h
step_lawful n s p (lines.LowSession row next held) q printed l h = absurd h
step_lawful n s p (lines.Coarse session) q printed l h = absurd h
step_lawful n s p (lines.Told session m w fault told a) q printed l h = absurd h
step_lawful n s p (lines.Step session m w) q printed l h = absurd h
step_lawful n s p (lines.Look session m w a) q printed l (c, comes, (few, (f, i))) = stays_by n p.world _ q.world l i.world
step_lawful n s p (lines.Gone session m) q printed l (f, i) = stays_by n p.world _ q.world l i.world
step_lawful n s p (lines.High session m) q printed l h = high_lawful n s false p m None q printed l h
step_lawful n s p (lines.Carry session back) q printed l h = carry_lawful n s p back q printed l h
step_lawful n s p (lines.Return session m back) q printed l h = return_lawful n s p m (place p.world.returned back) q printed l h
step_lawful n s p (lines.Done session m t) q printed l (mid, first, second, h, g, e) = goes_lawful n s mid.world.high_hand mid (m + t) q second (high_lawful n s false p m None mid first l h) g
step_lawful n s p (lines.Restart session m) q printed l (h, e, f) = stays_one n p.world (Crash (Some (false, false)) None) q.world l h
step_lawful n s p (lines.ReceiverRestart session m) q printed l h = receiver_lawful n s p m q printed l h

-- what holds of the session that runs: its world stays lawful, and at most 64 wait
abbrev pub Holds : Option Begun → Type 0
Holds None = Unit {0}
Holds (Some (Whole s)) = Stays s.row.capacity s.past.world × (length s.past.waits ≤ 64)
Holds (Some (Alone s)) = length s.past.waits ≤ 64

begins_so : (o : Openings) (s : Begun) → IsNew o s → Holds (Some s)
begins_so o (Whole s) new =
    subst (λ (p : Past). Stays s.row.capacity p.world × (length p.waits ≤ 64)) (sym new.2)
    (record { lawful = opened_lawful s.row (o s.row.id) new.0 new.1; capacity = refl }, omega arith)
begins_so o (Alone s) new = subst (λ (p : PastAlone). length p.waits ≤ 64) (sym new.2) (omega arith)

goes_so : (s : Begun) (line : Line) (after : Option Begun) (printed : List Event) → GoesOn s line after printed → Holds (Some s) → Holds after
goes_so (Whole s) line after printed (timely, (q, step, e)) (l, few) =
    subst Holds (sym e) (step_lawful s.row.capacity s.row s.past line q printed l step, step_waits s.row s.past line q printed few step)
goes_so (Alone s) line after printed (timely, (q, step, e)) few = subst Holds (sym e) (step_low_waits s.row s.past line false q printed step)

leads_so : (o : Openings) (running : Option Begun) (line : Line) (after : Option Begun) (printed : List Event) → Leads o running line after printed → Holds running → Holds after
leads_so o running line after printed h k =
    led o running line after printed h
    (λ skip e f. subst Holds (sym e) k)
    (λ s none new e f. subst Holds (sym e) (begins_so o s new))
    (λ s some goes. goes_so s line after printed goes (subst Holds some k))
    (λ s session some is new again e f. subst Holds (sym e) (begins_so o (made_coarse s) again))

pub lead_so : (o : Openings) (running : Option Begun) (script : List Line) (after : Option Begun) (printed : List Event) → LeadTo o running script after printed → Holds running → Holds after
lead_so o running [] after printed (e, f) k = subst Holds (sym e) k
lead_so o running (line ∷ script) after printed (mid, first, second, h, later, e) k = lead_so o mid script after second later (leads_so o running line mid first h k)

pub bounds : (s : Begun) → Holds (Some s) → KeepsBounds s
bounds (Whole s) (l, few) = record {
  waits = few;
  live = subst (λ (n : ℕ). length s.past.world.accepted ≤ s.past.world.removed + n) l.capacity l.lawful.bounded.within.above;
  held = subst (λ (n : ℕ). length s.past.world.held ≤ n - 2) l.capacity l.lawful.bounded.order.room;
  prefix = l.lawful.delivered.prefix;
}
bounds (Alone s) few = few
