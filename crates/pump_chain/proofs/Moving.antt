-- A line moves the lists of its session below the passage or above it, and never both.
use Rattle.std.proofs.Common.{◌≡◌, ◌⊎◌, inl, inr, ⊎_elim, ℕ, ◌+◌, ◌≤◌, Bool, true, false, cond, List, [], ◌∷◌, length, Option, Some, None, refl, sym, ap, ◌∙◌, subst}
use Rattle.std.specs.Prelude.{◌==◌, ◌&&◌, nat_lt, zero, suc}
use Rattle.disk_model.specs.declared.name.Role.{Role}
use Rattle.disk_model.specs.declared.name.Role.TheVariants as roles
use Rattle.pump_frame.specs.declared.row.SessionRow.{SessionRow}
use Rattle.pump_core.specs.declared.event.Event.{Event}
use Rattle.pump_core.specs.declared.event.Event.TheVariants.{TakeUp, CarryData, TakeBegin, TakeEnd, RemoveBegin, RemoveEnd}
use Rattle.pump_core.specs.World.{World}
use Rattle.pump_core.specs.Events.{Happens, Run, holds}
use Rattle.pump_core.specs.HighLooks.{Perhaps, Returns, IsSent}
use Rattle.pump_core.specs.History.{Arrival, Look}
use Rattle.pump_core.specs.Lawful.{IsPrefixOf}
use Rattle.script_reader.specs.declared.event.Event.{Event as Printed}
use Rattle.script_reader.specs.declared.line.Arriving.{Arriving}
use Rattle.script_reader.specs.declared.line.Line.{Line}
use Rattle.script_reader.specs.declared.line.Line.TheVariants as lines
use Rattle.script_reader.specs.Past.{Past}
use Rattle.script_reader.specs.Breaks.{IsLost, IsUnremoved, IsUntaken, BreaksOff, Breaks}
use Rattle.script_reader.specs.Highs.{IsWholeLook, is_ahead, IsReturnBy, IsReturn, IsAttach, IsCarried, place}
use Rattle.script_reader.specs.Lows.{IsLook}
use Rattle.script_reader.specs.Restarts.{IsRestart, IsReceiverRestart}
use Rattle.script_reader.specs.Steps.{LineComing, Arrives, joined, lost, IsCarriedBack, IsDone, LineStep, Overfills}
use Rattle.two_worlds.proofs.Low.Grows.{look_grows}
use Rattle.pump_chain.proofs.Prefixes.{prefix_same, prefix_more, prefix_then}

-- ---- above the passage ----

-- nothing is accepted or begins to be, and the receiver's list may grow
pub record Above (w v : World) : Type 0 where
  pub accepted : v.accepted ≡ w.accepted
  pub storing : v.storing ≡ w.storing
  pub received : IsPrefixOf w.received v.received

-- nothing changes at the receiver, and the accepted list may grow
pub record Below (w v : World) : Type 0 where
  pub received : v.received ≡ w.received
  pub packet : v.packet ≡ w.packet
  pub taking : v.taking ≡ w.taking
  pub accepted : IsPrefixOf w.accepted v.accepted

stays : (w : World) → Above w w
stays w = record { accepted = refl; storing = refl; received = prefix_same w.received w.received refl }

by_same : (w v x : World) → v ≡ x → Above w x → Above w v
by_same w v x e a = subst (Above w) (sym e) a

stays_same : (w v : World) → v ≡ w → Above w v
stays_same w v e = by_same w v w e (stays w)

pub twice : (w u v : World) → Above w u → Above u v → Above w v
twice w u v a b = record {
  accepted = b.accepted ∙ a.accepted;
  storing = b.storing ∙ a.storing;
  received = prefix_then w.received u.received v.received a.received b.received;
}

-- a world with other hands, marks and packets
aside : (w v x : World) → x.accepted ≡ w.accepted → x.storing ≡ w.storing → x.received ≡ w.received → v ≡ x → Above w v
aside w v x accepted storing received e = by_same w v x e (record { accepted = accepted; storing = storing; received = prefix_same w.received x.received (sym received) })

either : (b : Bool) (w v u : World) → Above w v → Above w u → Above w (cond b v u)
either true w v u h k = h
either false w v u h k = k

returns_go : (w : World) (back : Option ℕ) (v : World) → Returns w back v → Above w v
returns_go w None v e = stays_same w v e
returns_go w (Some k) v h = by_same w v _ h.3 (either (h.0 == w.removed && holds w.high_hand h.0) w _ w (record { accepted = refl; storing = refl; received = prefix_same _ _ refl }) (stays w))

perhaps_go : (w : World) (e : Event) (es : List Event) (v : World) → (Run w (e ∷ es) v → Above w v) → Perhaps w e es v → Above w v
perhaps_go w e es v run h = ⊎_elim run (λ (o : ((x : World) → Happens w e x → ⊥) × (v ≡ w)). stays_same w v o.1) h

removes_go : (w v : World) → Perhaps w RemoveBegin (RemoveEnd ∷ []) v → Above w v
removes_go w v h = perhaps_go w RemoveBegin (RemoveEnd ∷ []) v by h
  where
    by : Run w (RemoveBegin ∷ RemoveEnd ∷ []) v → Above w v
    by (a, b, (c, d, e)) = twice w a v (aside w a _ refl refl refl b.2) (by_same a v c e (aside a c _ refl refl refl d.1))

takes_up_go : (w v : World) → Perhaps w TakeUp [] v → Above w v
takes_up_go w v h = perhaps_go w TakeUp [] v (λ (r : Run w (TakeUp ∷ []) v). by_same w v r.0 r.2 (aside w r.0 _ refl refl refl r.1.4)) h

sends_go : (b : Bool) (w v : World) → IsSent b w v → Above w v
sends_go true w v h = aside w v _ refl refl refl h.5
sends_go false w v e = stays_same w v e

carries_go : (w : World) (k : ℕ) (v : World) → Happens w (CarryData k) v → Above w v
carries_go w k v h = by_same w v _ h.4 (either (nat_lt h.0.number (length w.received)) w _ _ (record { accepted = refl; storing = refl; received = prefix_same _ _ refl }) (record { accepted = refl; storing = refl; received = prefix_same _ _ refl }))

begins_go : (w v : World) → Happens w TakeBegin v → Above w v
begins_go w v h = aside w v _ refl refl refl h.3

takes_go : (w v : World) → Perhaps w TakeBegin (TakeEnd ∷ []) v → Above w v
takes_go w v h = perhaps_go w TakeBegin (TakeEnd ∷ []) v by h
  where
    by : Run w (TakeBegin ∷ TakeEnd ∷ []) v → Above w v
    by (a, b, (c, d, e)) = twice w a v (begins_go w a b) (by_same a v c e (by_same a c _ d.3 (record { accepted = refl; storing = refl; received = prefix_more a.received (d.0 ∷ []) })))

-- ---- sessions ----

-- the line moves the session above the passage, and what waits for the low process stays
pub record Upper (p q : Past) : Type 0 where
  pub world : Above p.world q.world
  pub waits : q.waits ≡ p.waits

abbrev waits_in : Past → List Arrival
waits_in p = p.waits

abbrev world_in : Past → World
world_in p = p.world

both : (p mid q : Past) → Upper p mid → Upper mid q → Upper p q
both p mid q a b = record { world = twice p.world mid.world q.world a.world b.world; waits = b.waits ∙ a.waits }

same_past : (p q : Past) → q.world ≡ p.world → q.waits ≡ p.waits → Upper p q
same_past p q e waits = record { world = stays_same p.world q.world e; waits = waits }

pub look_goes : (row : SessionRow) (attaches : Bool) (p : Past) (m : ℕ) (back : Option ℕ) (q : Past) (printed : List Printed) → IsWholeLook row attaches p m back q printed → Upper p q
look_goes row attaches p m back q printed (mid, first, second, r, t, e) = record {
  world =
      twice p.world mid.world q.world
      (twice p.world r.look.answered mid.world (returns_go p.world back r.look.answered r.look.returns) (removes_go r.look.answered mid.world r.look.removes))
      (twice mid.world t.look.taken q.world (takes_up_go mid.world t.look.taken t.look.takes_up) (sends_go t.look.is_sent t.look.taken q.world t.look.sent));
  waits = ap waits_in t.rest ∙ ap waits_in r.rest;
}

return_by_goes : (ahead : Bool) (row : SessionRow) (attaches : Bool) (p : Past) (m k : ℕ) (q : Past) (printed : List Printed) → IsReturnBy ahead row attaches p m k q printed → Upper p q
return_by_goes true row attaches p m k q printed h = same_past p q (ap world_in h.0) (ap waits_in h.0)
return_by_goes false row attaches p m k q printed h = look_goes row attaches p m (Some k) q printed h

pub return_goes : (row : SessionRow) (p : Past) (m k : ℕ) (q : Past) (printed : List Printed) → IsReturn row p m k q printed → Upper p q
return_goes row p m k q printed h = return_by_goes (is_ahead p.world k) row false p m k q printed h

attach_goes : (row : SessionRow) (p : Past) (m count : ℕ) (q : Past) (printed : List Printed) → IsAttach row p m count q printed → Upper p q
attach_goes row p m zero q printed h = look_goes row true p m None q printed h
attach_goes row p m (suc n) q printed (k, at, h) = return_by_goes (is_ahead p.world k) row true p m k q printed h

pub carry_goes : (row : SessionRow) (p : Past) (back : ℕ) (q : Past) (printed : List Printed) → IsCarried row p back q printed → Upper p q
carry_goes row p back q printed c = record {
  world = twice p.world c.carried q.world (carries_go p.world (place p.world.sent back) c.carried c.carries) (takes_go c.carried q.world c.takes);
  waits = ap waits_in c.rest;
}

carried_back_goes : (row : SessionRow) (hand : Option ℕ) (p : Past) (m : ℕ) (q : Past) (printed : List Printed) → IsCarriedBack row hand p m q printed → Upper p q
carried_back_goes row None p m q printed (e, f) = same_past p q (ap world_in e) (ap waits_in e)
carried_back_goes row (Some n) p m q printed (mid, first, second, c, h, e) =
    both p mid q (carry_goes row p 0 mid first c) (return_goes row mid m (place mid.world.returned 0) q second h)

pub receiver_restart_goes : (row : SessionRow) (p : Past) (m : ℕ) (q : Past) (printed : List Printed) → IsReceiverRestart row p m q printed → Upper p q
receiver_restart_goes row p m q printed (mid, (h, is), (more, t, e)) =
    both p mid q (record { world = aside p.world mid.world _ refl refl refl h; waits = ap waits_in is }) (attach_goes row mid m (length mid.world.received) q more t)

pub done_goes : (row : SessionRow) (p : Past) (m t : ℕ) (q : Past) (printed : List Printed) → IsDone row p m t q printed → Upper p q
done_goes row p m t q printed (mid, first, second, h, g, e) =
    both p mid q (look_goes row false p m None mid first h) (carried_back_goes row mid.world.high_hand mid (m + t) q second g)

-- ---- below the passage ----

look_below : (row : SessionRow) (p : Past) (x : Look) (q : Past) (printed : List Printed) → IsLook row p x q printed → Below p.world q.world
look_below row p x q printed i =
    let g = look_grows x.feedback _ x.arrival i.new p.world q.world i.world in
    record { received = g.received; packet = g.packet; taking = g.taking; accepted = (_, sym g.accepted) }

restart_below : (row : SessionRow) (p : Past) (m : ℕ) (q : Past) (printed : List Printed) → IsRestart row p m q printed → Below p.world q.world
restart_below row p m q printed (h, e, f) = subst (Below p.world) (sym h) (record { received = refl; packet = refl; taking = refl; accepted = prefix_same _ _ refl })

-- ---- lines ----

abbrev pub Moves : Past → Past → Type 0
Moves p q = Above p.world q.world ⊎ Below p.world q.world

pub line_moves : (row : SessionRow) (p : Past) (line : Line) (q : Past) (printed : List Printed) → LineStep row p line q printed → Moves p q
line_moves row p lines.Skip q printed h = absurd h
line_moves row p (lines.Session other) q printed h = absurd h
line_moves row p (lines.LowSession other next held) q printed h = absurd h
line_moves row p (lines.Coarse session) q printed h = absurd h
line_moves row p (lines.Told session m w fault told a) q printed h = absurd h
line_moves row p (lines.Step session m w) q printed h = absurd h
line_moves row p (lines.Look session m w a) q printed (c, comes, (few, (f, i))) = inr (look_below row (joined p c) _ q printed i)
line_moves row p (lines.Gone session m) q printed (f, i) = inr (look_below row (lost p) _ q printed i)
line_moves row p (lines.High session m) q printed h = inl (look_goes row false p m None q printed h).world
line_moves row p (lines.Carry session back) q printed h = inl (carry_goes row p back q printed h).world
line_moves row p (lines.Return session m back) q printed h = inl (return_goes row p m (place p.world.returned back) q printed h).world
line_moves row p (lines.Done session m t) q printed h = inl (done_goes row p m t q printed h).world
line_moves row p (lines.Restart session m) q printed h = inr (restart_below row p m q printed h)
line_moves row p (lines.ReceiverRestart session m) q printed h = inl (receiver_restart_goes row p m q printed h).world

-- ---- lines that are cut short ----

unremoved_goes : (p : Past) (m : ℕ) (back : Option ℕ) (q : Past) → IsUnremoved p m back q → Above p.world q.world
unremoved_goes p m back q u = twice p.world u.answered q.world (returns_go p.world back u.answered u.returns) (aside u.answered q.world _ refl refl refl u.begins.2)

untaken_goes : (p : Past) (back : ℕ) (q : Past) → IsUntaken p back q → Above p.world q.world
untaken_goes p back q u = by u.begins
  where
    by : Run p.world (CarryData (place p.world.sent back) ∷ TakeBegin ∷ []) q.world → Above p.world q.world
    by (a, b, (c, d, e)) = twice p.world a q.world (carries_go p.world (place p.world.sent back) a b) (by_same a q.world c e (begins_go a c d))

breaks_off : (row : SessionRow) (p mid : Past) (m : ℕ) (role : Role) (q : Past) (printed : List Printed) → Above p.world mid.world → BreaksOff row mid m role q printed → Above p.world q.world
breaks_off row p mid m roles.Low q printed a h = absurd h
breaks_off row p mid m roles.Recv q printed a (h, e) = twice p.world mid.world q.world a (untaken_goes mid 0 q h)
breaks_off row p mid m roles.High q printed a (carried, c, u) =
    twice p.world mid.world q.world a (twice mid.world carried.world q.world (carry_goes row mid 0 carried printed c).world (unremoved_goes carried m (Some (place carried.world.returned 0)) q u))

same_world : (p q : Past) → q ≡ p → Above p.world q.world
same_world p q e = stays_same p.world q.world (ap world_in e)

-- the low disk fails in the store of a look
abbrev pub IsLostBy : SessionRow → Past → Line → Past → List Printed → Type 0
IsLostBy row p line q printed = (session m w : ℕ) × (a : Arriving) × (line ≡ lines.Look session m w a)
    × ((c : LineComing) × Arrives session p.reading a c × (length (joined p c).waits ≤ 64) × IsLost row (joined p c) m w q printed)

pub breaks_case : (row : SessionRow) (p : Past) (line : Line) (role : Role) (q : Past) (printed : List Printed) → Breaks row p line role q printed → Above p.world q.world ⊎ IsLostBy row p line q printed
breaks_case row p (lines.Look session m w a) roles.Low q printed h = inr (session, m, w, a, refl, h)
breaks_case row p (lines.Look session m w a) roles.High q printed h = absurd h
breaks_case row p (lines.Look session m w a) roles.Recv q printed h = absurd h
breaks_case row p (lines.Carry session back) roles.Recv q printed (h, e) = inl (untaken_goes p back q h)
breaks_case row p (lines.Carry session back) roles.Low q printed h = absurd h
breaks_case row p (lines.Carry session back) roles.High q printed h = absurd h
breaks_case row p (lines.Return session m back) roles.High q printed (h, e) = inl (unremoved_goes p m (Some (place p.world.returned back)) q h)
breaks_case row p (lines.Return session m back) roles.Low q printed h = absurd h
breaks_case row p (lines.Return session m back) roles.Recv q printed h = absurd h
breaks_case row p (lines.Done session m t) role q printed (mid, n, first, second, h, hand, b, e) =
    inl (breaks_off row p mid (m + t) role q second (look_goes row false p m None mid first h).world b)
breaks_case row p (lines.Restart session m) roles.Low q printed (e, f) = inl (same_world p q e)
breaks_case row p (lines.Restart session m) roles.High q printed (e, f) = inl (same_world p q e)
breaks_case row p (lines.Restart session m) roles.Recv q printed h = absurd h
breaks_case row p (lines.ReceiverRestart session m) roles.Recv q printed (e, f) = inl (same_world p q e)
breaks_case row p (lines.ReceiverRestart session m) roles.High q printed (mid, (h, is), u, e) =
    inl (twice p.world mid.world q.world (aside p.world mid.world _ refl refl refl h) (unremoved_goes mid m (Some u.at) q u.unremoved))
breaks_case row p (lines.ReceiverRestart session m) roles.Low q printed h = absurd h
breaks_case row p lines.Skip role q printed h = absurd h
breaks_case row p (lines.Session other) role q printed h = absurd h
breaks_case row p (lines.LowSession other next held) role q printed h = absurd h
breaks_case row p (lines.Coarse session) role q printed h = absurd h
breaks_case row p (lines.Told session m w fault told a) role q printed h = absurd h
breaks_case row p (lines.Step session m w) role q printed h = absurd h
breaks_case row p (lines.Gone session m) role q printed h = absurd h
breaks_case row p (lines.High session m) role q printed h = absurd h

pub breaks_move : (row : SessionRow) (p : Past) (line : Line) (role : Role) (q : Past) (printed : List Printed) → Breaks row p line role q printed → Moves p q
breaks_move row p line role q printed h = ⊎_elim
    (λ (a : Above p.world q.world). inl a)
    (λ (l : IsLostBy row p line q printed). let (session, m, w, a, e, (c, comes, few, lost)) = l in inr (subst (Below p.world) (sym lost.begins.2) (record { received = refl; packet = refl; taking = refl; accepted = prefix_same _ _ refl })))
    (breaks_case row p line role q printed h)

pub overfills_move : (row : SessionRow) (p : Past) (line : Line) (q : Past) (printed : List Printed) (end k size : ℕ) → Overfills row p line q printed end k size → Upper p q
overfills_move row p (lines.Carry session back) q printed end k size (o, e, f) = same_past p q (ap world_in e) (ap waits_in e)
overfills_move row p (lines.Done session m t) q printed end k size (h, hand, o) = look_goes row false p m None q printed h
overfills_move row p lines.Skip q printed end k size h = absurd h
overfills_move row p (lines.Session other) q printed end k size h = absurd h
overfills_move row p (lines.LowSession other next held) q printed end k size h = absurd h
overfills_move row p (lines.Coarse session) q printed end k size h = absurd h
overfills_move row p (lines.Told session m w fault told a) q printed end k size h = absurd h
overfills_move row p (lines.Step session m w) q printed end k size h = absurd h
overfills_move row p (lines.Look session m w a) q printed end k size h = absurd h
overfills_move row p (lines.Gone session m) q printed end k size h = absurd h
overfills_move row p (lines.High session m) q printed end k size h = absurd h
overfills_move row p (lines.Return session m back) q printed end k size h = absurd h
overfills_move row p (lines.Restart session m) q printed end k size h = absurd h
overfills_move row p (lines.ReceiverRestart session m) q printed end k size h = absurd h
