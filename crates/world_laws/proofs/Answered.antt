-- The receiver has answered the last message that it took: in each world, and in each session.
use Rattle.std.proofs.Common.{◌≡◌, ⊎_elim, ℕ, ◌+◌, ◌-◌, ◌<◌, ◌≤◌, zero, suc, Bool, true, false, cond, List, [], ◌∷◌, ◌++◌, length, slice_get, Option, Some, None, refl, sym, ap, ◌∙◌, subst, arith, le_trans}
use Rattle.std.specs.Prelude.{◌==◌, ◌&&◌, nat_lt}
use Rattle.pump_frame.specs.declared.payload.Payload.{Payload}
use Rattle.pump_frame.specs.declared.row.SessionRow.{SessionRow}
use Rattle.pump_core.specs.declared.event.Event.{Event}
use Rattle.pump_core.specs.declared.event.Event.TheVariants.{StoreBegin, StoreEnd, Forward, TakeUp, Send, CarryData, TakeBegin, TakeEnd, ReturnTaken, RemoveBegin, RemoveEnd, Acknowledge, Crash}
use Rattle.pump_core.specs.World.{World, last_taken}
use Rattle.pump_core.specs.Events.{Happens, Run, BeginsRun, Empty, Opened, holds, with_kept, with_answer, pump_crashed, receiver_crashed}
use Rattle.pump_core.specs.HighLooks.{Perhaps, Returns, IsSent}
use Rattle.pump_core.specs.Timed.{Step, Arrives, LowLook, HighLook, Offer, Read, Publish, Occurs, Point, LeadsTo, StepsTo}
use Rattle.pump_core.proofs.Lists.{slice_get-append, slice_get-past, length-push}
use Rattle.script_reader.specs.declared.line.Line.{Line}
use Rattle.script_reader.specs.declared.line.Line.TheVariants as lines
use Rattle.script_reader.specs.declared.event.Event.{Event as Printed}
use Rattle.script_reader.specs.declared.fault.Fault.{Fault}
use Rattle.script_reader.specs.Past.{Past}
use Rattle.script_reader.specs.Highs.{IsWholeLook, is_ahead, IsReturnBy, IsReturn, IsAttach, IsCarried, place}
use Rattle.script_reader.specs.Lows.{IsLook}
use Rattle.script_reader.specs.Openings.{Found, Openings, first_past}
use Rattle.script_reader.specs.Restarts.{IsRestart, IsReceiverRestart}
use Rattle.script_reader.specs.Steps.{joined, lost, IsCarriedBack, LineStep, Overfills}
use Rattle.pump_core.specs.History.{Look}
use Rattle.script_reader.specs.Scripts.{Running, Begun, Whole, Alone, GoesOn, made_coarse, Leads, LeadTo, Stops, StopsAfter, ComesTo}
use Rattle.script_reader.proofs.Leading.{IsNew, led}
use Rattle.world_laws.specs.Answered.{HasAnswered, KeepsAnswers}
use Rattle.world_laws.proofs.Runs.Worlds.{world_after}

-- ---- one list of messages, and the TAKEN that were sent ----

abbrev Answers : List Payload → List ℕ → Type 0
Answers received returned = 0 < length received → (k : ℕ) × (slice_get returned k ≡ Some (length received - 1))

one_more : (received : List Payload) (returned : List ℕ) (n : ℕ) → Answers received returned → Answers received (returned ++ n ∷ [])
one_more received returned n a some = let (k, at) = a some in (k, slice_get-append returned (n ∷ []) k (length received - 1) at)

takes_one : (received : List Payload) (returned : List ℕ) (p : Payload) → Answers (received ++ p ∷ []) (returned ++ length received ∷ [])
takes_one received returned p some =
    let last : length (received ++ p ∷ []) - 1 ≡ length received = omega (arith, length-push received p) in
    (length returned, slice_get-past returned (length received) [] ∙ ap (λ n. Some n) (sym last))

pub last_answered : (received : List Payload) → Answers received (last_taken received)
last_answered [] some = absurd (omega (arith, some))
last_answered (p ∷ ps) some = let last : length ps ≡ length (p ∷ ps) - 1 = omega arith in (0, ap (λ n. Some n) last)

-- the last message taken has this number
pub answered_at : (w : World) (n : ℕ) → HasAnswered w → length w.received ≡ suc n → (k : ℕ) × (slice_get w.returned k ≡ Some n)
answered_at w n a e =
    let some : 0 < length w.received = omega (arith, e) in
    let last : length w.received - 1 ≡ n = omega (arith, e) in
    ((a some).0, (a some).1 ∙ ap (λ i. Some i) last)

-- ---- what leads on ----

-- what the receiver has answered stays so, and no TAKEN is lost
pub record Onward (w v : World) : Type 0 where
  pub answered : HasAnswered w → HasAnswered v
  pub more : length w.returned ≤ length v.returned

stays : (w : World) → Onward w w
stays w = record { answered = λ a. a; more = omega arith }

pub stays_same : (w v : World) → v ≡ w → Onward w v
stays_same w v e = subst (Onward w) (sym e) (stays w)

pub twice : (w u v : World) → Onward w u → Onward u v → Onward w v
twice w u v a b = record { answered = λ k. b.answered (a.answered k); more = le_trans a.more b.more }

-- another world with the same receiver
aside : (w v x : World) → x.received ≡ w.received → x.returned ≡ w.returned → v ≡ x → Onward w v
aside w v x received returned e =
    let received_back = sym (ap (λ (u : World). u.received) e ∙ received) in
    let returned_back = sym (ap (λ (u : World). u.returned) e ∙ returned) in
    record { answered = λ a. subst (λ (l : List Payload × List ℕ). Answers l.0 l.1) (λ i. (received_back i, returned_back i)) a; more = (let same = ap length returned_back in omega (arith, same)) }

carried : (w : World) (n : ℕ) (p : Payload) (b : Bool) → Onward w (cond b (record w { returned = w.returned ++ n ∷ [] }) (record w { packet = Some p }))
carried w n p true = record { answered = λ a. one_more w.received w.returned n a; more = omega (arith, length-push w.returned n) }
carried w n p false = record { answered = λ a. a; more = omega arith }

taken : (w : World) (p : Payload) (packet : Option Payload) (taking : Bool)
    → Onward w (record w { returned = w.returned ++ length w.received ∷ []; received = w.received ++ p ∷ []; packet = packet; taking = taking })
taken w p packet taking = record { answered = λ a. takes_one w.received w.returned p; more = omega (arith, length-push w.returned (length w.received)) }

heeded : (w : World) (b : Bool) → Onward w (cond b (record w { due = true }) w)
heeded w true = record { answered = λ a. a; more = omega arith }
heeded w false = stays w

receiver_goes : (w : World) (kept : Bool) (packet : Option Payload)
    → Onward w (record w { returned = with_answer kept packet w.received w.returned; received = with_kept kept packet w.received; packet = None; taking = false })
receiver_goes w true (Some p) = taken w p None false
receiver_goes w true None = record { answered = λ a. a; more = omega arith }
receiver_goes w false packet = record { answered = λ a. a; more = omega arith }

receiver_crashes : (w : World) (r : Option Bool) → Onward w (receiver_crashed w r)
receiver_crashes w None = stays w
receiver_crashes w (Some kept) = receiver_goes w (kept && w.taking) w.packet

pump_crashes : (w : World) (p : Option (Bool × Bool)) → Onward w (pump_crashed w p)
pump_crashes w None = stays w
pump_crashes w (Some kept) = record { answered = λ a. a; more = omega arith }

onto : (w v x : World) → v ≡ x → Onward w x → Onward w v
onto w v x e o = subst (Onward w) (sym e) o

-- ---- events ----

pub event_goes : (w : World) (e : Event) (v : World) → Happens w e v → Onward w v
event_goes w (StoreBegin p) v h = aside w v _ refl refl h.2
event_goes w StoreEnd v h = aside w v _ refl refl h.2
event_goes w Forward v h = aside w v _ refl refl h.3
event_goes w TakeUp v h = aside w v _ refl refl h.4
event_goes w Send v h = aside w v _ refl refl h.5
event_goes w (CarryData k) v h = onto w v _ h.4 (carried w h.0.number h.0.payload (nat_lt h.0.number (length w.received)))
event_goes w TakeBegin v h = aside w v _ refl refl h.3
event_goes w TakeEnd v h = onto w v _ h.3 (taken w h.0 None false)
event_goes w (ReturnTaken k) v h = onto w v _ h.3 (heeded w (h.0 == w.removed && holds w.high_hand h.0))
event_goes w RemoveBegin v h = aside w v _ refl refl h.2
event_goes w RemoveEnd v h = aside w v _ refl refl h.1
event_goes w (Acknowledge n) v h = aside w v _ refl refl h.3
event_goes w (Crash None None) v h = absurd h
event_goes w (Crash None (Some r)) v h = onto w v _ h (receiver_crashes w (Some r))
event_goes w (Crash (Some p) r) v h =
    onto w v _ h (twice w (pump_crashed w (Some p)) _ (pump_crashes w (Some p)) (receiver_crashes (pump_crashed w (Some p)) r))

pub run_goes : (w : World) (es : List Event) (v : World) → Run w es v → Onward w v
run_goes w [] v e = stays_same w v e
run_goes w (e ∷ es) v (u, h, r) = twice w u v (event_goes w e u h) (run_goes u es v r)

pub begins_answered : (w : World) → BeginsRun w → HasAnswered w
begins_answered _ (Empty capacity low high) = λ some. absurd (omega (arith, some))
begins_answered _ (Opened capacity removed received later low high a) = last_answered received

pub runs_answered : (start end : World) (events : List Event) → BeginsRun start → Run start events end → HasAnswered end
runs_answered start end events begins run = (run_goes start events end run).answered (begins_answered start begins)

-- ---- timed runs ----

abbrev world : Point → World
world t = t.world

stays_at : (t u : Point) → u.world ≡ t.world → HasAnswered t.world → HasAnswered u.world
stays_at t u e a = subst HasAnswered (sym e) a

step_answered : (row : SessionRow) (t : Point) (s : Step) (u : Point) → StepsTo row t s u → HasAnswered t.world → HasAnswered u.world
step_answered row t (Arrives c) u m a = stays_at t u (ap world m) a
step_answered row t (LowLook at w gone is_fault) u m a = stays_at t u (ap world m.1) a
step_answered row t (HighLook at) u m a = stays_at t u (ap world m.2) a
step_answered row t Offer u m a = stays_at t u (ap world m) a
step_answered row t Read u m a = stays_at t u (ap world m) a
step_answered row t Publish u m a = stays_at t u (ap world m.2) a
step_answered row t (Occurs e) u (v, h, waits, m) a = subst HasAnswered (sym (ap world m ∙ world_after t e v)) ((event_goes t.world e v h).answered a)

pub leads_answered : (row : SessionRow) (steps : List Step) (t : Point) → LeadsTo row steps t → HasAnswered t.world
leads_answered row [] t (w, b, c, e) = subst HasAnswered (sym (ap world e)) (begins_answered w b)
leads_answered row (s ∷ past) u (t, before, m) = step_answered row t s u m (leads_answered row past t before)

-- ---- looks ----

pub perhaps_goes : (w : World) (e : Event) (es : List Event) (v : World) → Perhaps w e es v → Onward w v
perhaps_goes w e es v h = ⊎_elim
    (λ (r : Run w (e ∷ es) v). run_goes w (e ∷ es) v r)
    (λ (o : ((x : World) → Happens w e x → ⊥) × (v ≡ w)). stays_same w v o.1)
    h

returns_go : (w : World) (back : Option ℕ) (v : World) → Returns w back v → Onward w v
returns_go w None v e = stays_same w v e
returns_go w (Some k) v h = event_goes w (ReturnTaken k) v h

sends_go : (b : Bool) (w v : World) → IsSent b w v → Onward w v
sends_go true w v h = event_goes w Send v h
sends_go false w v e = stays_same w v e

-- ---- sessions ----

-- a session goes on, and what is from before it stays
pub record GoesOnward (p q : Past) : Type 0 where
  pub world : Onward p.world q.world
  pub before : q.returned_before ≡ p.returned_before

pub keeps : (p q : Past) → GoesOnward p q → KeepsAnswers p → KeepsAnswers q
keeps p q g k =
    let same = g.before in
    let was = k.before in
    let more = g.world.more in
    record { answered = g.world.answered k.answered; before = omega (arith, same, was, more) }

abbrev before_in : Past → ℕ
before_in p = p.returned_before

both : (p mid q : Past) → GoesOnward p mid → GoesOnward mid q → GoesOnward p q
both p mid q a b = record { world = twice p.world mid.world q.world a.world b.world; before = b.before ∙ a.before }

-- a past that differs elsewhere
same_past : (p q : Past) → q.world ≡ p.world → q.returned_before ≡ p.returned_before → GoesOnward p q
same_past p q e before = record { world = stays_same p.world q.world e; before = before }

pub low_look_goes : (row : SessionRow) (p : Past) (x : Look) (q : Past) (printed : List Printed) → IsLook row p x q printed → GoesOnward p q
low_look_goes row p x q printed i = record { world = run_goes p.world _ q.world i.world; before = i.first_returned }

pub look_goes : (row : SessionRow) (attaches : Bool) (p : Past) (m : ℕ) (back : Option ℕ) (q : Past) (printed : List Printed) → IsWholeLook row attaches p m back q printed → GoesOnward p q
look_goes row attaches p m back q printed (mid, first, second, r, t, e) = record {
  world =
      twice p.world mid.world q.world
      (twice p.world r.look.answered mid.world (returns_go p.world back r.look.answered r.look.returns) (perhaps_goes r.look.answered RemoveBegin (RemoveEnd ∷ []) mid.world r.look.removes))
      (twice mid.world t.look.taken q.world (perhaps_goes mid.world TakeUp [] t.look.taken t.look.takes_up) (sends_go t.look.is_sent t.look.taken q.world t.look.sent));
  before = ap before_in t.rest ∙ ap before_in r.rest;
}

return_by_goes : (ahead : Bool) (row : SessionRow) (attaches : Bool) (p : Past) (m k : ℕ) (q : Past) (printed : List Printed) → IsReturnBy ahead row attaches p m k q printed → GoesOnward p q
return_by_goes true row attaches p m k q printed h = same_past p q (ap (λ (x : Past). x.world) h.0) (ap before_in h.0)
return_by_goes false row attaches p m k q printed h = look_goes row attaches p m (Some k) q printed h

pub return_goes : (row : SessionRow) (p : Past) (m k : ℕ) (q : Past) (printed : List Printed) → IsReturn row p m k q printed → GoesOnward p q
return_goes row p m k q printed h = return_by_goes (is_ahead p.world k) row false p m k q printed h

pub attach_goes : (row : SessionRow) (p : Past) (m count : ℕ) (q : Past) (printed : List Printed) → IsAttach row p m count q printed → GoesOnward p q
attach_goes row p m zero q printed h = look_goes row true p m None q printed h
attach_goes row p m (suc n) q printed (k, at, h) = return_by_goes (is_ahead p.world k) row true p m k q printed h

pub carry_goes : (row : SessionRow) (p : Past) (back : ℕ) (q : Past) (printed : List Printed) → IsCarried row p back q printed → GoesOnward p q
carry_goes row p back q printed c = record {
  world = twice p.world c.carried q.world (event_goes p.world (CarryData (place p.world.sent back)) c.carried c.carries) (perhaps_goes c.carried TakeBegin (TakeEnd ∷ []) q.world c.takes);
  before = ap before_in c.rest;
}

carried_back_goes : (row : SessionRow) (hand : Option ℕ) (p : Past) (m : ℕ) (q : Past) (printed : List Printed) → IsCarriedBack row hand p m q printed → GoesOnward p q
carried_back_goes row None p m q printed (e, f) = same_past p q (ap (λ (x : Past). x.world) e) (ap before_in e)
carried_back_goes row (Some n) p m q printed (mid, first, second, c, h, e) =
    both p mid q (carry_goes row p 0 mid first c) (return_goes row mid m (place mid.world.returned 0) q second h)

pub restart_goes : (row : SessionRow) (p : Past) (m : ℕ) (q : Past) (printed : List Printed) → IsRestart row p m q printed → GoesOnward p q
restart_goes row p m q printed (h, e, f) = record { world = event_goes p.world (Crash (Some (false, false)) None) q.world h; before = ap before_in e }

pub receiver_restart_goes : (row : SessionRow) (p : Past) (m : ℕ) (q : Past) (printed : List Printed) → IsReceiverRestart row p m q printed → GoesOnward p q
receiver_restart_goes row p m q printed (mid, (h, is), (more, t, e)) =
    both p mid q (record { world = event_goes p.world (Crash None (Some false)) mid.world h; before = ap before_in is }) (attach_goes row mid m (length mid.world.received) q more t)

pub line_goes : (row : SessionRow) (p : Past) (line : Line) (q : Past) (printed : List Printed) → LineStep row p line q printed → GoesOnward p q
line_goes row p lines.Skip q printed h = absurd h
line_goes row p (lines.Session other) q printed h = absurd h
line_goes row p (lines.LowSession other next held) q printed h = absurd h
line_goes row p (lines.Coarse session) q printed h = absurd h
line_goes row p (lines.Told session m w fault told a) q printed h = absurd h
line_goes row p (lines.Step session m w) q printed h = absurd h
line_goes row p (lines.Look session m w a) q printed (c, comes, (few, (f, i))) = both p (joined p c) q (same_past p (joined p c) refl refl) (low_look_goes row (joined p c) _ q printed i)
line_goes row p (lines.Gone session m) q printed (f, i) = both p (lost p) q (same_past p (lost p) refl refl) (low_look_goes row (lost p) _ q printed i)
line_goes row p (lines.High session m) q printed h = look_goes row false p m None q printed h
line_goes row p (lines.Carry session back) q printed h = carry_goes row p back q printed h
line_goes row p (lines.Return session m back) q printed h = return_goes row p m (place p.world.returned back) q printed h
line_goes row p (lines.Done session m t) q printed (mid, first, second, h, g, e) =
    both p mid q (look_goes row false p m None mid first h) (carried_back_goes row mid.world.high_hand mid (m + t) q second g)
line_goes row p (lines.Restart session m) q printed h = restart_goes row p m q printed h
line_goes row p (lines.ReceiverRestart session m) q printed h = receiver_restart_goes row p m q printed h

-- .. and so does one that stops the script
pub stopped_goes : (row : SessionRow) (p : Past) (line : Line) (q : Past) (printed : List Printed) (end size_of_message size : ℕ) → Overfills row p line q printed end size_of_message size → GoesOnward p q
stopped_goes row p (lines.Carry session back) q printed end k size h = same_past p q (ap (λ (x : Past). x.world) h.1) (ap before_in h.1)
stopped_goes row p (lines.Done session m t) q printed end k size h = look_goes row false p m None q printed h.0
stopped_goes row p lines.Skip q printed end k size h = absurd h
stopped_goes row p (lines.Session other) q printed end k size h = absurd h
stopped_goes row p (lines.LowSession other next held) q printed end k size h = absurd h
stopped_goes row p (lines.Coarse session) q printed end k size h = absurd h
stopped_goes row p (lines.Told session m w fault told a) q printed end k size h = absurd h
stopped_goes row p (lines.Step session m w) q printed end k size h = absurd h
stopped_goes row p (lines.Look session m w a) q printed end k size h = absurd h
stopped_goes row p (lines.Gone session m) q printed end k size h = absurd h
stopped_goes row p (lines.High session m) q printed end k size h = absurd h
stopped_goes row p (lines.Return session m back) q printed end k size h = absurd h
stopped_goes row p (lines.Restart session m) q printed end k size h = absurd h
stopped_goes row p (lines.ReceiverRestart session m) q printed end k size h = absurd h

-- ---- scripts ----

-- a session that begins keeps its answers
pub opened_keeps : (row : SessionRow) (f : Found) → KeepsAnswers (first_past row f)
opened_keeps row f = record { answered = last_answered f.received; before = omega arith }

abbrev Keeps : Option Begun → Type 0
Keeps None = Unit {0}
Keeps (Some (Whole s)) = KeepsAnswers s.past
Keeps (Some (Alone s)) = Unit {0}

new_keeps : (o : Openings) (s : Begun) → IsNew o s → Keeps (Some s)
new_keeps o (Whole s) new = subst KeepsAnswers (sym new.2) (opened_keeps s.row (o s.row.id))
new_keeps o (Alone s) new = tt

goes_keeps : (s : Begun) (line : Line) (after : Option Begun) (printed : List Printed) → GoesOn s line after printed → Keeps (Some s) → Keeps after
goes_keeps (Whole s) line after printed (timely, (q, step, e)) k = subst Keeps (sym e) (keeps s.past q (line_goes s.row s.past line q printed step) k)
goes_keeps (Alone s) line after printed (timely, (q, step, e)) k = subst Keeps (sym e) tt

leads_keeps : (o : Openings) (running : Option Begun) (line : Line) (after : Option Begun) (printed : List Printed) → Leads o running line after printed → Keeps running → Keeps after
leads_keeps o running line after printed h k =
    led o running line after printed h
    (λ skip e f. subst Keeps (sym e) k)
    (λ s none new e f. subst Keeps (sym e) (new_keeps o s new))
    (λ s some goes. goes_keeps s line after printed goes (subst Keeps some k))
    (λ s session some is new made e f. subst Keeps (sym e) (new_keeps o (made_coarse s) made))

pub lead_keeps : (o : Openings) (running : Option Begun) (script : List Line) (after : Option Begun) (printed : List Printed) → LeadTo o running script after printed → Keeps running → Keeps after
lead_keeps o running [] after printed (e, f) k = subst Keeps (sym e) k
lead_keeps o running (line ∷ script) after printed (mid, first, second, h, later, e) k = lead_keeps o mid script after second later (leads_keeps o running line mid first h k)

stops_keeps : (running : Option Begun) (line : Line) (after : Option Begun) (printed : List Printed) (fault : Fault) → Stops running line after printed fault → Keeps running → Keeps after
stops_keeps None line after printed fault h k = absurd h
stops_keeps (Some (Whole s)) line after printed fault (timely, (q, end, size_of_message, size, over, is, e)) k =
    subst Keeps (sym e) (keeps s.past q (stopped_goes s.row s.past line q printed end size_of_message size over) k)
stops_keeps (Some (Alone s)) line after printed fault (timely, (q, step, is, e)) k = subst Keeps (sym e) tt

comes_keeps : (o : Openings) (script : List Line) (after : Option Begun) (printed : List Printed) → ComesTo o script after printed → Keeps after
comes_keeps o script after printed h = ⊎_elim
    (λ (l : LeadTo o None script after printed). lead_keeps o None script after printed l tt)
    (λ (s : StopsAfter o script after printed). stops_keeps s.running s.line after s.last s.fault s.stops (lead_keeps o None s.before s.running s.first s.leads tt))
    h

pub sessions_keep : (o : Openings) (script : List Line) (s : Running) (printed : List Printed) → ComesTo o script (Some (Whole s)) printed → KeepsAnswers s.past
sessions_keep o script s printed h = comes_keeps o script (Some (Whole s)) printed h
