-- A line loses no accepted message.
use Rattle.std.proofs.Common.{ℕ, zero, suc, ◌+◌, Bool, true, false, List, [], ◌∷◌, Option, Some, None, refl, sym, ap, subst}
use Rattle.disk_model.specs.declared.name.Role.{Role}
use Rattle.disk_model.specs.declared.name.Role.TheVariants as roles
use Rattle.pump_frame.specs.declared.row.SessionRow.{SessionRow}
use Rattle.pump_core.specs.World.{World}
use Rattle.pump_core.specs.History.{Look}
use Rattle.script_reader.specs.declared.event.Event.{Event as Printed}
use Rattle.script_reader.specs.declared.line.Line.{Line}
use Rattle.script_reader.specs.declared.line.Line.TheVariants as lines
use Rattle.script_reader.specs.Past.{Past}
use Rattle.script_reader.specs.Breaks.{Breaks}
use Rattle.script_reader.specs.Highs.{is_ahead, IsReturnBy, IsReturn, IsAttach, place}
use Rattle.script_reader.specs.Lows.{IsLook}
use Rattle.script_reader.specs.Restarts.{IsReceiverRestart}
use Rattle.script_reader.specs.Steps.{IsCarriedBack, LineStep, Overfills}
use Rattle.two_worlds.proofs.Low.Grows.{look_grows}
use Rattle.pump_wrapper.specs.Comparing.{Begins}
use Rattle.pump_wrapper.specs.Sending.{LedBy}
use Rattle.pump_wrapper.proofs.Prefixes.{begins_same, begins_then}
use Rattle.pump_wrapper.proofs.Moving.{Keeps, keeps_same, twice, aside, look_keeps, carry_keeps, unremoved_keeps, untaken_keeps, breaks_off_keeps}

abbrev Grows : World → World → Type 0
Grows w v = Begins w.accepted v.accepted

by_keeping : (w v : World) → Keeps w v → Grows w v
by_keeping w v k = begins_same w.accepted v.accepted k.accepted

abbrev world_in : Past → World
world_in p = p.world

-- ---- a line that is applied ----

low_grows : (row : SessionRow) (p : Past) (x : Look) (q : Past) (printed : List Printed) → IsLook row p x q printed → Grows p.world q.world
low_grows row p x q printed i = (_, (look_grows x.feedback _ x.arrival i.new p.world q.world i.world).accepted)

return_by_keeps : (ahead : Bool) (row : SessionRow) (attaches : Bool) (p : Past) (m k : ℕ) (q : Past) (printed : List Printed) → IsReturnBy ahead row attaches p m k q printed → Keeps p.world q.world
return_by_keeps true row attaches p m k q printed h = keeps_same p.world q.world (ap world_in h.0)
return_by_keeps false row attaches p m k q printed h = look_keeps row attaches p m (Some k) q printed h

return_keeps : (row : SessionRow) (p : Past) (m k : ℕ) (q : Past) (printed : List Printed) → IsReturn row p m k q printed → Keeps p.world q.world
return_keeps row p m k q printed h = return_by_keeps (is_ahead p.world k) row false p m k q printed h

attach_keeps : (row : SessionRow) (p : Past) (m count : ℕ) (q : Past) (printed : List Printed) → IsAttach row p m count q printed → Keeps p.world q.world
attach_keeps row p m zero q printed h = look_keeps row true p m None q printed h
attach_keeps row p m (suc n) q printed (k, at, h) = return_by_keeps (is_ahead p.world k) row true p m k q printed h

carried_back_keeps : (row : SessionRow) (hand : Option ℕ) (p : Past) (m : ℕ) (q : Past) (printed : List Printed) → IsCarriedBack row hand p m q printed → Keeps p.world q.world
carried_back_keeps row None p m q printed (e, f) = keeps_same p.world q.world (ap world_in e)
carried_back_keeps row (Some n) p m q printed (mid, first, second, c, h, e) =
    twice p.world mid.world q.world (carry_keeps row p 0 mid first c) (return_keeps row mid m (place mid.world.returned 0) q second h)

receiver_restart_keeps : (row : SessionRow) (p : Past) (m : ℕ) (q : Past) (printed : List Printed) → IsReceiverRestart row p m q printed → Keeps p.world q.world
receiver_restart_keeps row p m q printed (mid, (h, is), (more, t, e)) = twice p.world mid.world q.world (aside p.world mid.world _ refl refl h) (attach_keeps row mid m _ q more t)

line_grows : (row : SessionRow) (p : Past) (line : Line) (q : Past) (printed : List Printed) → LineStep row p line q printed → Grows p.world q.world
line_grows row p lines.Skip q printed h = absurd h
line_grows row p (lines.Session other) q printed h = absurd h
line_grows row p (lines.LowSession other next held) q printed h = absurd h
line_grows row p (lines.Coarse session) q printed h = absurd h
line_grows row p (lines.Told session m w fault told a) q printed h = absurd h
line_grows row p (lines.Step session m w) q printed h = absurd h
line_grows row p (lines.Look session m w a) q printed (c, comes, (few, (f, i))) = low_grows row _ _ q printed i
line_grows row p (lines.Gone session m) q printed (f, i) = low_grows row _ _ q printed i
line_grows row p (lines.High session m) q printed h = by_keeping p.world q.world (look_keeps row false p m None q printed h)
line_grows row p (lines.Carry session back) q printed h = by_keeping p.world q.world (carry_keeps row p back q printed h)
line_grows row p (lines.Return session m back) q printed h = by_keeping p.world q.world (return_keeps row p m (place p.world.returned back) q printed h)
line_grows row p (lines.Done session m t) q printed (mid, first, second, h, g, e) =
    by_keeping p.world q.world (twice p.world mid.world q.world (look_keeps row false p m None mid first h) (carried_back_keeps row mid.world.high_hand mid (m + t) q second g))
line_grows row p (lines.Restart session m) q printed (h, e, f) = subst (Grows p.world) (sym h) (begins_same p.world.accepted _ refl)
line_grows row p (lines.ReceiverRestart session m) q printed h = by_keeping p.world q.world (receiver_restart_keeps row p m q printed h)

pub led_grows : (row : SessionRow) (p : Past) (given : List Line) (q : Past) → LedBy row p given q → Grows p.world q.world
led_grows row p [] q e = begins_same p.world.accepted q.world.accepted (ap (λ (x : Past). x.world.accepted) e)
led_grows row p (line ∷ later) q (mid, printed, step, more) =
    begins_then p.world.accepted mid.world.accepted q.world.accepted (line_grows row p line mid printed step) (led_grows row mid later q more)

-- ---- a line that is cut short ----

pub breaks_grow : (row : SessionRow) (p : Past) (line : Line) (role : Role) (q : Past) (printed : List Printed) → Breaks row p line role q printed → Grows p.world q.world
breaks_grow row p (lines.Look session m w a) roles.Low q printed (c, comes, few, lost) = begins_same p.world.accepted q.world.accepted (ap (λ (w : World). w.accepted) lost.begins.2)
breaks_grow row p (lines.Look session m w a) roles.High q printed h = absurd h
breaks_grow row p (lines.Look session m w a) roles.Recv q printed h = absurd h
breaks_grow row p (lines.Carry session back) roles.Recv q printed (h, e) = by_keeping p.world q.world (untaken_keeps p back q h)
breaks_grow row p (lines.Carry session back) roles.Low q printed h = absurd h
breaks_grow row p (lines.Carry session back) roles.High q printed h = absurd h
breaks_grow row p (lines.Return session m back) roles.High q printed (h, e) = by_keeping p.world q.world (unremoved_keeps p m (Some (place p.world.returned back)) q h)
breaks_grow row p (lines.Return session m back) roles.Low q printed h = absurd h
breaks_grow row p (lines.Return session m back) roles.Recv q printed h = absurd h
breaks_grow row p (lines.Done session m t) role q printed (mid, n, first, second, h, hand, b, e) =
    by_keeping p.world q.world (breaks_off_keeps row p mid (m + t) role q second (look_keeps row false p m None mid first h) b)
breaks_grow row p (lines.Restart session m) roles.Low q printed (e, f) = by_keeping p.world q.world (keeps_same p.world q.world (ap world_in e))
breaks_grow row p (lines.Restart session m) roles.High q printed (e, f) = by_keeping p.world q.world (keeps_same p.world q.world (ap world_in e))
breaks_grow row p (lines.Restart session m) roles.Recv q printed h = absurd h
breaks_grow row p (lines.ReceiverRestart session m) roles.Recv q printed (e, f) = by_keeping p.world q.world (keeps_same p.world q.world (ap world_in e))
breaks_grow row p (lines.ReceiverRestart session m) roles.High q printed (mid, (h, is), u, e) =
    by_keeping p.world q.world (twice p.world mid.world q.world (aside p.world mid.world _ refl refl h) (unremoved_keeps mid m (Some u.at) q u.unremoved))
breaks_grow row p (lines.ReceiverRestart session m) roles.Low q printed h = absurd h
breaks_grow row p lines.Skip role q printed h = absurd h
breaks_grow row p (lines.Session other) role q printed h = absurd h
breaks_grow row p (lines.LowSession other next held) role q printed h = absurd h
breaks_grow row p (lines.Coarse session) role q printed h = absurd h
breaks_grow row p (lines.Told session m w fault told a) role q printed h = absurd h
breaks_grow row p (lines.Step session m w) role q printed h = absurd h
breaks_grow row p (lines.Gone session m) role q printed h = absurd h
breaks_grow row p (lines.High session m) role q printed h = absurd h

pub overfills_grow : (row : SessionRow) (p : Past) (line : Line) (q : Past) (printed : List Printed) (end k size : ℕ) → Overfills row p line q printed end k size → Grows p.world q.world
overfills_grow row p (lines.Carry session back) q printed end k size (o, e, f) = by_keeping p.world q.world (keeps_same p.world q.world (ap world_in e))
overfills_grow row p (lines.Done session m t) q printed end k size (h, hand, o) = by_keeping p.world q.world (look_keeps row false p m None q printed h)
overfills_grow row p lines.Skip q printed end k size h = absurd h
overfills_grow row p (lines.Session other) q printed end k size h = absurd h
overfills_grow row p (lines.LowSession other next held) q printed end k size h = absurd h
overfills_grow row p (lines.Coarse session) q printed end k size h = absurd h
overfills_grow row p (lines.Told session m w fault told a) q printed end k size h = absurd h
overfills_grow row p (lines.Step session m w) q printed end k size h = absurd h
overfills_grow row p (lines.Look session m w a) q printed end k size h = absurd h
overfills_grow row p (lines.Gone session m) q printed end k size h = absurd h
overfills_grow row p (lines.High session m) q printed end k size h = absurd h
overfills_grow row p (lines.Return session m back) q printed end k size h = absurd h
overfills_grow row p (lines.Restart session m) q printed end k size h = absurd h
overfills_grow row p (lines.ReceiverRestart session m) q printed end k size h = absurd h
