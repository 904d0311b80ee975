-- Where the lines by which a pump is emptied and a file is sent may be stopped.
use Rattle.std.proofs.Common.{◌≡◌, inl, inr, ℕ, ◌+◌, ◌<◌, ◌≤◌, ◌^◌, Bool, true, false, List, [], ◌∷◌, ◌++◌, length, slice_get, Option, Some, None, Result, Ok, Err, refl, sym, ap, ◌∙◌, subst, arith, append-nil}
use Rattle.std.specs.Prelude.{◌==◌, ◌&&◌, nat_lt}
use Rattle.std.proofs.lemmas.Bool.{and_parts, eqb-true}
use Rattle.disk_model.specs.Disk.{Meaning}
use Rattle.disk_model.specs.declared.name.Role.{Role}
use Rattle.disk_model.specs.declared.name.Role.TheVariants as roles
use Rattle.pump_frame.specs.declared.frame.Frame.{Frame}
use Rattle.pump_frame.specs.declared.frame.Item.{Item}
use Rattle.pump_frame.specs.declared.payload.Payload.{Payload}
use Rattle.pump_frame.specs.declared.row.SessionRow.{SessionRow}
use Rattle.pump_core.specs.Events.{with_kept}
use Rattle.pump_core.specs.Exchanges.{is_next, IsFrame}
use Rattle.pump_core.specs.History.{Arrival, Came, Nothing}
use Rattle.pump_core.specs.Lawful.{IsLawful, IsMessage}
use Rattle.pump_core.specs.World.{World}
use Rattle.pump_core.proofs.Lists.{All-at}
use Rattle.script_reader.specs.declared.event.Event.{Event as Printed}
use Rattle.script_reader.specs.declared.line.Arriving.TheVariants as arriving
use Rattle.script_reader.specs.declared.line.Line.{Line}
use Rattle.script_reader.specs.declared.line.Line.TheVariants as lines
use Rattle.script_reader.specs.Breaks.{Breaks}
use Rattle.script_reader.specs.Highs.{IsOverfull, receiver_size, log_end}
use Rattle.script_reader.specs.Lows.{first_of}
use Rattle.script_reader.specs.Openings.{accepted_in}
use Rattle.script_reader.specs.Past.{Past}
use Rattle.script_reader.specs.Steps.{LineStep, Overfills, hello_frame, data_frame}
use Rattle.script_reader.proofs.LineSteps.{offer_applies, pass_applies, done_applies, turn_applies}
use Rattle.script_reader.proofs.LookSteps.{Stands, waiting}
use Rattle.two_worlds.specs.declared.applied.Stop.{Stop}
use Rattle.two_worlds.specs.declared.applied.Stop.TheVariants as stops
use Rattle.two_worlds.specs.declared.pump.Pump.{Pump}
use Rattle.two_worlds.specs.declared.pump.state.PumpState.{PumpState}
use Rattle.two_worlds.specs.declared.pump.state.PumpState.TheVariants.{Open, Shut}
use Rattle.two_worlds.specs.States.{StandsIn}
use Rattle.pump_wrapper.specs.Comparing.{Begins}
use Rattle.pump_wrapper.specs.Halting.{found_of, HasNoRoom, IsBetween, Halts}
use Rattle.pump_wrapper.specs.Sending.{empty_look, turn_lines, message_lines, greeting, pause, LedBy, Follows, EndsWithin}
use Rattle.pump_wrapper.proofs.Applying.{LinesApply, never_line, lines_go, lines_lead, Emptying, Sent}
use Rattle.pump_wrapper.proofs.Prefixes.{begins_same, begins_more, begins_then, kept_begins, kept_none}
use Rattle.pump_wrapper.proofs.Leaving.{accepted_found}
use Rattle.pump_wrapper.proofs.Moving.{Keeps, look_keeps, breaks_off_keeps}

-- wherever the line is stopped, the accepted messages are between these
pub record LineHalts (row : SessionRow) (p : Past) (line : Line) (first most : List Payload) : Type 0 where
  pub breaks : (role : Role) (q : Past) (printed : List Printed) → Breaks row p line role q printed → IsBetween first most q.world
  pub over : (q : Past) (printed : List Printed) (end k size : ℕ) → Overfills row p line q printed end k size → IsBetween first most q.world

-- .. each of the lines, one after another
abbrev pub LinesHalt : SessionRow → Past → List Line → List Payload → List Payload → Type 0
LinesHalt row p [] first most = Unit {0}
LinesHalt row p (line ∷ later) first most = LineHalts row p line first most × ((q : Past) (printed : List Printed) → LineStep row p line q printed → LinesHalt row q later first most)

-- nothing waits, and no store is unfinished
pub record IsCalm (p : Past) (accepted : List Payload) : Type 0 where
  pub waits : p.waits ≡ []
  pub broken : p.is_broken ≡ false
  pub storing : p.world.storing ≡ None
  pub accepted_is : p.world.accepted ≡ accepted

between : (first most accepted : List Payload) (w v : World) → w.storing ≡ None → w.accepted ≡ accepted → Keeps w v → Begins first accepted → Begins accepted most → IsBetween first most v
between first most accepted w v none is k from to =
    let same : v.accepted ≡ accepted = k.accepted ∙ is in
    record {
      from = begins_then first accepted v.accepted from (begins_same accepted v.accepted same);
      to = begins_then _ accepted most (begins_same _ accepted (sym (kept_none true v.storing v.accepted (k.storing ∙ none) ∙ same))) to;
    }

-- ---- each line ----

offered : (b : Bool) (xs ys : List Arrival) → xs ≡ [] → b ≡ false → first_of b (xs ++ ys) ≡ first_of false ys
offered b xs ys none whole = λ i. first_of (whole i) (none i ++ ys)

module _ (row : SessionRow) (p : Past) (accepted first most : List Payload) (calm : IsCalm p accepted) (from : Begins first accepted) (to : Begins accepted most) where
  -- no frame is offered
  pub empty_halts : (m : ℕ) → LineHalts row p (empty_look row m) first most
  empty_halts m = record { breaks = breaks; over = λ q printed end k size h. absurd h }
    where
      breaks : (role : Role) (q : Past) (printed : List Printed) → Breaks row p (empty_look row m) role q printed → IsBetween first most q.world
      breaks roles.Low q printed (c, comes, few, l) =
          let none : Nothing ≡ Came l.frame = sym (offered p.is_broken p.waits [] calm.waits calm.broken) ∙ ap (λ (added : List Arrival). first_of p.is_broken (p.waits ++ added)) (sym (ap (λ x. x.added) comes)) ∙ l.comes in
          absurd (cc)
      breaks roles.High q printed h = absurd h
      breaks roles.Recv q printed h = absurd h

  pub done_halts : (m t : ℕ) → LineHalts row p (lines.Done row.id m t) first most
  done_halts m t = record {
    breaks = λ role q printed (mid, n, one, two, h, hand, b, e).
        between first most accepted p.world q.world calm.storing calm.accepted_is (breaks_off_keeps row p mid (m + t) role q two (look_keeps row false p m None mid one h) b) from to;
    over = λ q printed end k size (h, hand, o). between first most accepted p.world q.world calm.storing calm.accepted_is (look_keeps row false p m None q printed h) from to;
  }

  -- a HELLO is not stored
  pub greeting_halts : LineHalts row p (greeting row) first most
  greeting_halts = record { breaks = breaks; over = λ q printed end k size h. absurd h }
    where
      breaks : (role : Role) (q : Past) (printed : List Printed) → Breaks row p (greeting row) role q printed → IsBetween first most q.world
      breaks roles.Low q printed (c, comes, few, l) =
          let hello = Came (hello_frame row.id row.low row.high) in
          let is : first_of p.is_broken (p.waits ++ c.added) ≡ hello =
          ap (λ (added : List Arrival). first_of p.is_broken (p.waits ++ added)) (ap (λ x. x.added) comes) ∙ offered p.is_broken p.waits (hello ∷ []) calm.waits calm.broken in
          let next = subst (IsFrame (is_next row _ _)) is l.cut_with.are_parts.0.part.0.next in
          absurd (cc)
      breaks roles.High q printed h = absurd h
      breaks roles.Recv q printed h = absurd h

-- the message that comes is stored, or begins to be
pub data_halts : (row : SessionRow) (p : Past) (accepted : List Payload) (message : Payload) (calm : IsCalm p accepted) (number m : ℕ)
    → LineHalts row p (lines.Look row.id m 0 (arriving.Data number message)) accepted (accepted ++ message ∷ [])
data_halts row p accepted message calm number m = record { breaks = breaks; over = λ q printed end k size h. absurd h }
  where
    breaks : (role : Role) (q : Past) (printed : List Printed) → Breaks row p (lines.Look row.id m 0 (arriving.Data number message)) role q printed → IsBetween accepted (accepted ++ message ∷ []) q.world
    breaks roles.Low q printed (c, comes, few, l) =
        let arrival = Came (data_frame row.id number message) in
        let is : first_of p.is_broken (p.waits ++ c.added) ≡ arrival =
        ap (λ (added : List Arrival). first_of p.is_broken (p.waits ++ added)) (ap (λ x. x.added) comes) ∙ offered p.is_broken p.waits (arrival ∷ []) calm.waits calm.broken in
        let frame : l.frame ≡ data_frame row.id number message = (let e = sym l.comes ∙ is in cc) in
        let payload : l.frame.payload ≡ message = ap (λ (f : Frame). f.payload) frame in
        let world = l.begins.2 in
        record {
          from = begins_same accepted q.world.accepted (ap (λ (w : World). w.accepted) world ∙ calm.accepted_is);
          to = begins_same _ (accepted ++ message ∷ []) (sym (ap (λ (w : World). with_kept true w.storing w.accepted) world ∙ (λ i. calm.accepted_is i ++ payload i ∷ [])));
        }
    breaks roles.High q printed h = absurd h
    breaks roles.Recv q printed h = absurd h

-- ---- lines ----

pub calm_of : (row : SessionRow) (p : Past) (low : Option ℕ) (k r m : ℕ) (s : _) (accepted : List Payload) → Stands row p [] low k r m s → p.world.accepted ≡ accepted → IsCalm p accepted
calm_of row p low k r m s accepted stands is = record { waits = stands.waits_are; broken = stands.broken; storing = stands.rests.calm.storing; accepted_is = is }

pub turn_halts : (row : SessionRow) (p : Past) (k r m0 m : ℕ) (accepted : List Payload) → Emptying row k r m0 accepted p → m0 ≤ m → r < k → LinesHalt row p (turn_lines row m) accepted accepted
turn_halts row p k r m0 m accepted (low, stands, is) le some =
    let all = begins_same accepted accepted refl in
    let look = turn_applies row p low k r m0 m 0 stands le some in (
      empty_halts row p accepted accepted accepted (calm_of row p low k r m0 _ accepted stands is) all all m,
      λ q printed step.
          let (mid, at, one, same) = look.after q printed step in
          (done_halts row q accepted accepted accepted (calm_of row q mid k r m _ accepted at (same ∙ is)) all all m 1, λ u out taken. tt),
    )

pub greeting_only : (row : SessionRow) (p : Past) (k m0 : ℕ) (s : _) (accepted : List Payload) → Stands row p [] None k k m0 s → p.world.accepted ≡ accepted → LinesHalt row p (greeting row ∷ []) accepted accepted
greeting_only row p k m0 s accepted stands is =
    let all = begins_same accepted accepted refl in
    (greeting_halts row p accepted accepted accepted (calm_of row p None k k m0 s accepted stands is) all all, λ q printed step. tt)

pub message_halts : (row : SessionRow) (p : Past) (k m0 m : ℕ) (accepted : List Payload) (message : Payload) → Sent row k m0 accepted p → m0 ≤ m → length message ≤ row.message → k < 2 ^ 48 → m + 1 ≤ 2 ^ 62
    → LinesHalt row p (message_lines row k m message) accepted (accepted ++ message ∷ [])
message_halts row p k m0 m accepted message (stands, is) le short few end =
    let stays = stands.rests.calm.stays in
    let more = accepted ++ message ∷ [] in
    let from = begins_more accepted (message ∷ []) in
    let to = begins_same more more refl in
    let offer = offer_applies row p k k m0 m 0 message stands le short few in (
      data_halts row p accepted message (calm_of row p None k k m0 _ accepted stands is) k m,
      λ a printed_a step_a.
          let (stands_a, adds_a) = offer.after a printed_a step_a in
          let is_a : a.world.accepted ≡ more = adds_a.accepted ∙ ap (λ (l : List Payload). l ++ message ∷ []) is in
          let pass = pass_applies row a k k m m 0 stands_a (omega arith) (omega (arith, stays.capacity, stays.lawful.bounded.size.0)) in (
            empty_halts row a more accepted more (calm_of row a (Some k) (k + 1) k m _ more stands_a is_a) from to m,
            λ b printed_b step_b.
                let (at, due, (stands_b, adds_b)) = pass.after b printed_b step_b in
                let is_b : b.world.accepted ≡ more = adds_b.accepted ∙ append-nil a.world.accepted ∙ is_a in
                let done = done_applies row b None (k + 1) k m m 1 (waiting k at) stands_b (omega arith) (omega arith) end in (
                  done_halts row b more accepted more (calm_of row b None (k + 1) k m _ more stands_b is_b) from to m 1,
                  λ c printed_c step_c.
                      let (stands_c, same_c) = done.after c printed_c step_c in
                      (empty_halts row c more accepted more (calm_of row c None (k + 1) (k + 1) (m + 1) _ more stands_c (same_c ∙ is_b)) from to (m + pause row), λ q printed step. tt),
                ),
          ),
    )

halt_at : (row : SessionRow) (p mid : Past) (lines before later : List Line) (line : Line) (first most : List Payload) → LinesHalt row p lines first most
    → lines ≡ before ++ line ∷ later → LedBy row p before mid → LineHalts row mid line first most
halt_at row p mid [] [] later line first most h is led = absurd (cc is)
halt_at row p mid [] (b ∷ before) later line first most h is led = absurd (cc is)
halt_at row p mid (x ∷ xs) [] later line first most h is e =
    let same : x ≡ line = cc is in
    subst (λ (y : Past). LineHalts row y line first most) (sym e) (subst (λ (l : Line). LineHalts row p l first most) same h.0)
halt_at row p mid (x ∷ xs) (b ∷ before) later line first most h is (next, printed, step, more) =
    let same : x ≡ b = cc is in
    let rest : xs ≡ before ++ line ∷ later = cc is in
    halt_at row next mid xs before later line first most (h.1 next printed (subst (λ (l : Line). LineStep row p l next printed) (sym same) step)) rest more

-- ---- a message that does not fit ----

over_past : (w : World) (packet : Item) → (packet.number == length w.received && nat_lt receiver_size (log_end w.received + 2 + length packet.payload)) ≡ true
    → (packet.number ≡ length w.received) × (receiver_size < log_end w.received + 2 + length packet.payload)
over_past w packet e =
    let parts = and_parts (packet.number == length w.received) (nat_lt receiver_size (log_end w.received + 2 + length packet.payload)) e in
    (eqb-true packet.number (length w.received) parts.0, (let lt = parts.1 in grind (arith, lt)))

no_room : (w : World) (back end k size : ℕ) → IsLawful w → IsOverfull w back end k size → HasNoRoom (found_of w) end k size
no_room w back end k size lawful o =
    let at = All-at (IsMessage w.removed w.accepted) w.sent _ o.packet lawful.bounded.sent o.at in
    let over = over_past w o.packet o.over in
    let next : slice_get (accepted_in (found_of w)) (length w.received) ≡ Some o.packet.payload =
    (λ i. slice_get (accepted_found w lawful.delivered.prefix i) (sym over.0 i)) ∙ at.payload in
    record {
      message = o.packet.payload;
      next = next;
      end_is = o.end_is;
      length_is = o.length_is;
      size_is = o.size_is;
      over = (let more = over.1 in let is = o.size_is in let at_end = o.end_is in omega (arith, more, is, at_end));
    }

over_at : (row : SessionRow) (p : Past) (line : Line) (q : Past) (printed : List Printed) (end k size : ℕ) → Overfills row p line q printed end k size → (back : ℕ) × IsOverfull q.world back end k size
over_at row p (lines.Carry session back) q printed end k size (o, e, f) = (back, subst (λ (x : Past). IsOverfull x.world back end k size) (sym e) o)
over_at row p (lines.Done session m t) q printed end k size (h, hand, o) = (0, o)
over_at row p lines.Skip q printed end k size h = absurd h
over_at row p (lines.Session other) q printed end k size h = absurd h
over_at row p (lines.LowSession other next held) q printed end k size h = absurd h
over_at row p (lines.Coarse session) q printed end k size h = absurd h
over_at row p (lines.Told session m w fault told a) q printed end k size h = absurd h
over_at row p (lines.Step session m w) q printed end k size h = absurd h
over_at row p (lines.Look session m w a) q printed end k size h = absurd h
over_at row p (lines.Gone session m) q printed end k size h = absurd h
over_at row p (lines.High session m) q printed end k size h = absurd h
over_at row p (lines.Return session m back) q printed end k size h = absurd h
over_at row p (lines.Restart session m) q printed end k size h = absurd h
over_at row p (lines.ReceiverRestart session m) q printed end k size h = absurd h

pub state_lawful : {D : Type 0} (m : Meaning D) (s : PumpState D) (p : Past) → StandsIn m s p → IsLawful p.world
state_lawful m (Open c) p s = s.sound.lawful
state_lawful m (Shut d) p s = absurd s

-- ---- a pump that is stopped ----

module _ {D : Type 0} {g : _} (m : Meaning D) (t : Pump D g) (row : SessionRow) (p : Past) (given : List Line) (After : Past → Type 0) (first most : List Payload)
    (apply : LinesApply row p given After) (halt : LinesHalt row p given first most) where
  pub halts : (stop : Stop) → Follows m t row p given (Err stop) → Halts m t first most stop
  halts stops.Line follows = absurd (never_line m t row p given After apply follows)
  halts (stops.Device role faults) (before, line, later, mid, is, led, (q, printed, breaks, fails)) = record {
    past = q;
    stands = inr (role, faults, fails);
    between = (halt_at row p mid given before later line first most halt is led).breaks role q printed breaks;
    by = tt;
  }
  halts (stops.Full end k size) (before, line, later, mid, is, led, (q, printed, over, stands)) =
      let at = over_at row mid line q printed end k size over in
      record {
        past = q;
        stands = inl stands;
        between = (halt_at row p mid given before later line first most halt is led).over q printed end k size over;
        by = (stands, no_room q.world at.0 end k size (state_lawful m t.state q stands) at.1);
      }
  halts (stops.Disk role why) (before, line, later, mid, is, led, stopped) = absurd stopped

  -- wherever it is stopped or not, others begin with what is accepted, where they begin with the most
  pub ends_within : ((q : Past) → After q → Begins q.world.accepted most) → (all : List Payload) → Begins most all → (r : Result (Unit {0}) Stop) → EndsWithin m t row p given all r
  ends_within after all to (Ok done) = λ q led stands. begins_then q.world.accepted most all (after q (lines_lead row p q given After apply led)) to
  ends_within after all to (Err stops.Line) = λ before line later mid is led refused stands. absurd (lines_go row p mid given before later line After apply is led refused)
  ends_within after all to (Err (stops.Device role faults)) = λ before line later mid is led q printed breaks fails.
      begins_then _ most all ((halt_at row p mid given before later line first most halt is led).breaks role q printed breaks).to to
  ends_within after all to (Err (stops.Full end k size)) = λ before line later mid is led q printed over stands.
      begins_then q.world.accepted _ all (kept_begins true q.world.storing q.world.accepted)
      (begins_then _ most all ((halt_at row p mid given before later line first most halt is led).over q printed end k size over).to to)
  ends_within after all to (Err (stops.Disk role why)) = λ before line later mid is led. tt

-- .. between wider lists
pub halts_wider : {D : Type 0} {g : _} (m : Meaning D) (t : Pump D g) (first most first' most' : List Payload) (stop : Stop) → Begins first' first → Begins most most' → Halts m t first most stop → Halts m t first' most' stop
halts_wider m t first most first' most' stop from to h = record {
  past = h.past;
  stands = h.stands;
  between = record {
    from = begins_then first' first h.past.world.accepted from h.between.from;
    to = begins_then _ most most' h.between.to to;
  };
  by = h.by;
}
