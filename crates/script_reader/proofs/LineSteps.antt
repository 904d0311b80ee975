-- The lines by which a session of any row sends a message, and takes what an opening found in it to the receiver: that
-- they can be applied, and where they lead.
use Rattle.std.proofs.Common.{◌≡◌, inl, ℕ, ◌+◌, ◌-◌, ◌^◌, ◌<◌, ◌≤◌, Bool, true, false, List, [], ◌∷◌, ◌++◌, length, Option, Some, None, refl, sym, ap, ◌∙◌, subst, arith, append-nil, length-append}
use Rattle.std.specs.Prelude.{◌==◌, ◌&&◌, ◌||◌, not, nat_le, if◌then◌else◌, option_to_list}
use Rattle.std.specs.List.{AllByRecursion}
use Rattle.std.proofs.lemmas.Bool.{eqb-true, eqb-false, eq-eqb, le-leb}
use Rattle.std.proofs.lemmas.List.Elements.{recursion_from_All}
use Rattle.std.proofs.lemmas.List.FromFn.{length-range_with_len}
use Rattle.pump_frame.specs.Rows.{IsLawfulRow}
use Rattle.pump_frame.specs.declared.payload.Payload.{Payload}
use Rattle.pump_frame.specs.declared.row.SessionRow.{SessionRow}
use Rattle.pump_core.specs.History.{Arrival, Nothing as NothingComes, Came}
use Rattle.pump_core.specs.declared.feedback.Feedback.{Feedback}
use Rattle.pump_core.specs.Phases.{Idle, Passing}
use Rattle.pump_core.specs.Standing.{State}
use Rattle.pump_core.specs.World.{World, live}
use Rattle.script_reader.specs.declared.event.Event.{Event}
use Rattle.script_reader.specs.declared.line.Arriving.{Arriving}
use Rattle.script_reader.specs.declared.line.Arriving.TheVariants.{Nothing, Hello, Data}
use Rattle.script_reader.specs.declared.line.Line.{Line}
use Rattle.script_reader.specs.declared.line.Line.TheVariants as lines
use Rattle.script_reader.specs.Lows.{first_of, IsLook}
use Rattle.script_reader.specs.Openings.{Found, CanOpen, accepted_in, opened_world, first_past}
use Rattle.script_reader.specs.Past.{Past}
use Rattle.script_reader.specs.Steps.{is_timely, IsCrowded, LineStep, LineComing, Arrives, joined, goes_on, data_frame, look_of}
use Rattle.pump_core.proofs.Runs.{run}
use Rattle.script_reader.proofs.DoneSteps.{HasOne, done_removes}
use Rattle.script_reader.proofs.LookSteps.{Stands, Adds, at_rest, idle, leftover, passing, waiting, own_hello, rest_goes, data_goes, pass_goes, full_goes, held_goes, release_goes, ack_goes, hello_goes}
use Rattle.script_reader.proofs.Opened.{opened_lawful}

-- the line can be applied, and where it leads, this holds
pub record LineApplies (row : SessionRow) (p : Past) (line : Line) (After : Past → Type 0) : Type 0 where
  pub timely : is_timely row p line ≡ true
  pub few : IsCrowded p line → ⊥
  pub after : (q : Past) (printed : List Event) → LineStep row p line q printed → After q

-- ---- one line ----

pub stands_later : (row : SessionRow) (p : Past) (waits : List Arrival) (low : Option ℕ) (k r m n : ℕ) (s : State) → m ≤ n → Stands row p waits low k r m s → Stands row p waits low k r n s
stands_later row p waits low k r m n s le h = record {
  rests = h.rests;
  waits_are = h.waits_are;
  broken = h.broken;
  low_is = h.low_is;
  count = h.count;
  short = h.short;
  removed_is = h.removed_is;
  state = h.state;
  moment = omega (arith, h.moment, le);
}

-- so many are live
pub live_are : (row : SessionRow) (p : Past) (waits : List Arrival) (low : Option ℕ) (k r m : ℕ) (s : State) → Stands row p waits low k r m s
    → length (option_to_list p.world.high_hand) + (length p.world.held + length (option_to_list low)) ≡ k - r
live_are row p waits low k r m s h =
    let w = p.world in
    let order = ap length h.rests.calm.stays.lawful.bounded.order.order ∙ length-range_with_len w.removed (length w.accepted - w.removed) in
    let parts = length-append (option_to_list w.high_hand) (w.held ++ option_to_list w.low_hand) in
    let rest = length-append w.held (option_to_list w.low_hand) in
    let low_len : length (option_to_list w.low_hand) ≡ length (option_to_list low) = ap (λ (o : Option ℕ). length (option_to_list o)) h.low_is in
    omega (arith, order, parts, rest, low_len, h.count, h.removed_is)

both_true : (a b : Bool) → a ≡ true → b ≡ true → (a && b) ≡ true
both_true true b e f = f
both_true false b e f = absurd (cc e)

or_true : (a b : Bool) → b ≡ true → (not a || b) ≡ true
or_true true b e = e
or_true false b e = refl

look_applies : (row : SessionRow) (p : Past) (low : Option ℕ) (k r m0 : ℕ) (s : State) (m w : ℕ) (a : Arriving) (added : List Arrival) (x : Arrival) (After : Past → Type 0)
    → Stands row p [] low k r m0 s → m0 ≤ m → ((c : LineComing) → Arrives row.id p.reading a c → c.added ≡ added) → length added ≤ 1 → first_of false added ≡ x
    → ((before : Past) (f : Feedback) (q : Past) (printed : List Event) → Stands row before added low k r m0 s → before.world ≡ p.world
    → IsLook row before (look_of m w x f) q printed → After q)
    → LineApplies row p (lines.Look row.id m w a) After
look_applies row p low k r m0 s m w a added x After h le adds one first next = record {
  timely = both_true (row.id == row.id) (nat_le p.moment m) (eq-eqb row.id row.id refl) (le-leb p.moment m (omega (arith, h.moment, le)));
  few = λ (c, comes, many).
      let waits : (joined p c).waits ≡ added = (λ j. h.waits_are j ++ adds c comes j) in
      absurd (omega (arith, ap length waits, one, many));
  after = λ q printed (c, comes, (few, (f, i))).
      let waits : (joined p c).waits ≡ added = (λ j. h.waits_are j ++ adds c comes j) in
      let at : first_of p.is_broken (joined p c).waits ≡ x = (λ j. first_of (h.broken j) (waits j)) ∙ first in
      next (joined p c) f q printed (record {
        rests = h.rests;
        waits_are = waits;
        broken = h.broken;
        low_is = h.low_is;
        count = h.count;
        short = h.short;
        removed_is = h.removed_is;
        state = h.state;
        moment = h.moment;
      }) refl (subst (λ y. IsLook row (joined p c) (look_of m w y f) q printed) at i);
}

empty_applies : (row : SessionRow) (p : Past) (low : Option ℕ) (k r m0 : ℕ) (s : State) (m w : ℕ) (After : Past → Type 0)
    → Stands row p [] low k r m0 s → m0 ≤ m
    → ((before : Past) (f : Feedback) (q : Past) (printed : List Event) → Stands row before [] low k r m0 s → before.world ≡ p.world
    → IsLook row before (look_of m w NothingComes f) q printed → After q)
    → LineApplies row p (lines.Look row.id m w Nothing) After
empty_applies row p low k r m0 s m w After h le next =
    look_applies row p low k r m0 s m w Nothing [] NothingComes After h le (λ c e. ap (λ (t : LineComing). t.added) e) (omega arith) refl next

-- where a line leads that stores these messages
abbrev pub Goes : SessionRow → Past → Option ℕ → ℕ → ℕ → ℕ → State → List Payload → Past → Type 0
Goes row p low k r m s added q = Stands row q [] low k r m s × Adds p.world q.world added

adds_from : (w u v : World) (added : List Payload) → u ≡ w → Adds u v added → Adds w v added
adds_from w u v added same a = subst (λ (x : World). Adds x v added) same a

-- ---- a message on its way ----

-- the connection is greeted
pub greeting_applies : (row : SessionRow) (p : Past) (greeted : Bool) (k r m0 m w : ℕ) → Stands row p [] None k r m0 (at_rest greeted k) → m0 ≤ m
    → LineApplies row p (lines.Look row.id m w (Hello row.low row.high)) (Goes row p None k r m (idle k) [])
greeting_applies row p greeted k r m0 m w h le =
    let x = Came (own_hello row) in
    look_applies row p None k r m0 (at_rest greeted k) m w (Hello row.low row.high) (x ∷ []) x _ h le (λ c e. ap (λ (t : LineComing). t.added) e) (omega arith) refl
    (λ before f q printed s same i.
    let d = hello_goes row before greeted k r m0 m w f q printed s i in
    (d.0, adds_from p.world before.world q.world [] same d.1))

-- the first look of the next message
pub offer_applies : (row : SessionRow) (p : Past) (k r m0 m w : ℕ) (payload : Payload) → Stands row p [] None k r m0 (idle k) → m0 ≤ m → length payload ≤ row.message → k < 2 ^ 48
    → LineApplies row p (lines.Look row.id m w (Data k payload)) (Goes row p (Some k) (k + 1) r m (passing k) (payload ∷ []))
offer_applies row p k r m0 m w payload h le short few =
    let x = Came (data_frame row.id k payload) in
    look_applies row p None k r m0 (idle k) m w (Data k payload) (x ∷ []) x _ h le (λ c e. ap (λ (t : LineComing). t.added) e) (omega arith) refl
    (λ before f q printed s same i.
    let d = data_goes row before k r m0 m w payload f q printed s short few i in
    (d.0, adds_from p.world before.world q.world (payload ∷ []) same d.1))

-- where the look leads that passes it on: its acknowledgement is due `longest` microseconds later at most
abbrev pub Passed : SessionRow → Past → ℕ → ℕ → ℕ → Past → Type 0
Passed row p k r m q = (at : ℕ) × (at ≤ m + row.longest) × Goes row p None (k + 1) r m (waiting k at) [] q

pub pass_applies : (row : SessionRow) (p : Past) (k r m0 m w : ℕ) → Stands row p [] (Some k) (k + 1) r m0 (passing k) → m0 ≤ m → k - r < row.capacity - 2
    → LineApplies row p (lines.Look row.id m w Nothing) (Passed row p k r m)
pass_applies row p k r m0 m w h le few =
    empty_applies row p (Some k) (k + 1) r m0 (passing k) m w _ h le
    (λ before f q printed s same i.
    let live = live_are row before [] (Some k) (k + 1) r m0 (passing k) s in
    let d = pass_goes row before k r m0 m w f q printed s (λ e. absurd (omega (arith, e, live, few))) i in
    (d.0.at, d.0.due, (d.0.stands, adds_from p.world before.world q.world [] same d.1)))

-- the look that finds the passage full
pub full_applies : (row : SessionRow) (p : Past) (k r m0 m w : ℕ) → Stands row p [] (Some k) (k + 1) r m0 (passing k) → m0 ≤ m → k ≡ r + (row.capacity - 2) → p.world.high_hand ≡ None
    → LineApplies row p (lines.Look row.id m w Nothing) (Goes row p (Some k) (k + 1) r m (passing k) [])
full_applies row p k r m0 m w h le full none =
    empty_applies row p (Some k) (k + 1) r m0 (passing k) m w _ h le
    (λ before f q printed s same i.
    let live = live_are row before [] (Some k) (k + 1) r m0 (passing k) s in
    let empty : length (option_to_list before.world.high_hand) ≡ 0 = ap (λ (o : Option ℕ). length (option_to_list o)) (ap (λ (u : World). u.high_hand) same ∙ none) in
    let d = full_goes row before k r m0 m w f q printed s (omega (arith, live, empty, full)) i in
    (d.0, adds_from p.world before.world q.world [] same d.1))

-- the look in which it is acknowledged
pub ack_applies : (row : SessionRow) (p : Past) (k r m0 m w at : ℕ) → Stands row p [] None (k + 1) r m0 (waiting k at) → at ≤ m → m0 ≤ m
    → LineApplies row p (lines.Look row.id m w Nothing) (Goes row p None (k + 1) r m (idle (k + 1)) [])
ack_applies row p k r m0 m w at h due le =
    empty_applies row p None (k + 1) r m0 (waiting k at) m w _ h le
    (λ before f q printed s same i.
    let d = ack_goes row before k r m0 m w at f q printed s due i in
    (d.0, adds_from p.world before.world q.world [] same d.1))

-- the receiver takes the first live message, and it is removed
pub done_applies : (row : SessionRow) (p : Past) (low : Option ℕ) (k r m0 m t : ℕ) (s : State)
    → Stands row p [] low k r m0 s → m0 ≤ m → length (option_to_list low) < k - r → m + t ≤ 2 ^ 62
    → LineApplies row p (lines.Done row.id m t) (λ q. Stands row q [] low k (r + 1) (m + t) s × (q.world.accepted ≡ p.world.accepted))
done_applies row p low k r m0 m t s h le one end =
    let low_len : length (option_to_list p.world.low_hand) ≡ length (option_to_list low) = ap (λ (o : Option ℕ). length (option_to_list o)) h.low_is in
    let has : HasOne p.world = omega (arith, low_len, one, h.count, h.removed_is) in
    let on_time : (nat_le p.moment m && (not (goes_on p.world) || nat_le (m + t) (2 ^ 62))) ≡ true =
    both_true (nat_le p.moment m) _ (le-leb p.moment m (omega (arith, h.moment, le))) (or_true (goes_on p.world) (nat_le (m + t) (2 ^ 62)) (le-leb (m + t) (2 ^ 62) end)) in
    record {
      timely = both_true (row.id == row.id) _ (eq-eqb row.id row.id refl) on_time;
      few = λ crowded. absurd crowded;
      after = λ q printed step.
          let d = done_removes row p q m t printed h.rests has step in (
            record {
              rests = d.rests;
              waits_are = d.waits ∙ h.waits_are;
              broken = d.broken ∙ h.broken;
              low_is = d.low ∙ h.low_is;
              count = ap length d.accepted ∙ h.count;
              short = subst (AllByRecursion (λ x. length x ≤ row.message)) (sym d.accepted) h.short;
              removed_is = d.removed ∙ ap (λ x. x + 1) h.removed_is;
              state = ap (λ g. run row g.life.opening g.life.looks) d.history ∙ h.state;
              moment = omega (arith, d.moment);
            },
            d.accepted,
          );
    }

-- ---- what an opening found ----

-- the state of a low process that stored nothing since its opening, by what is in the low hand
abbrev pub since_opening : Option ℕ → ℕ → State
since_opening None k = at_rest false k
since_opening (Some n) k = leftover false k

state_opened : (b : Bool) (n k : ℕ) → record { next = k; greeted = false; phase = if b then Passing None else Idle } ≡ since_opening (if b then Some n else None) k
state_opened true n k = refl
state_opened false n k = refl

-- a session before its first line
pub opened_stands : (row : SessionRow) (f : Found) → IsLawfulRow row → CanOpen row f
    → Stands row (first_past row f) [] (opened_world row f).low_hand (length (accepted_in f)) f.removed 0 (since_opening (opened_world row f).low_hand (length (accepted_in f)))
opened_stands row f lawful can = record {
  rests = record {
    calm = record {
      stays = record { lawful = opened_lawful row f lawful can; capacity = refl };
      storing = refl;
      due = refl;
      removing = refl;
      packet = refl;
      taking = refl;
    };
    below = tt;
    last = λ n is. inl tt;
  };
  waits_are = refl;
  broken = refl;
  low_is = refl;
  count = refl;
  short = recursion_from_All (λ message. length message ≤ row.message) (accepted_in f) can.short;
  removed_is = refl;
  state = state_opened (live (opened_world row f) == row.capacity) (length (accepted_in f) - 1) (length (accepted_in f));
  moment = omega arith;
}

-- where an empty look leads: something is live that is not in the low hand
abbrev pub Turned : SessionRow → Past → ℕ → ℕ → ℕ → Past → Type 0
Turned row p k r m q =
    (low : Option ℕ) × Stands row q [] low k r m (since_opening low k) × (length (option_to_list low) < k - r) × (q.world.accepted ≡ p.world.accepted)

turned : (row : SessionRow) (p q : Past) (low : Option ℕ) (k r m : ℕ) → Goes row p low k r m (since_opening low k) [] q → length (option_to_list low) < k - r → Turned row p k r m q
turned row p q low k r m g one = (low, g.0, one, g.1.accepted ∙ append-nil p.world.accepted)

turns_held : (row : SessionRow) (p : Past) (j k r m0 m w : ℕ) (b : Bool) → (length p.world.held == row.capacity - 2) ≡ b → Stands row p [] (Some j) k r m0 (leftover false k) → r < k
    → (before : Past) (f : Feedback) (q : Past) (printed : List Event) → Stands row before [] (Some j) k r m0 (leftover false k) → before.world ≡ p.world
    → IsLook row before (look_of m w NothingComes f) q printed → Turned row p k r m q
turns_held row p j k r m0 m w true full h some before f q printed s same i =
    let is : length p.world.held ≡ row.capacity - 2 = eqb-true (length p.world.held) (row.capacity - 2) full in
    let d = held_goes row before false j k r m0 m w f q printed s (ap (λ (u : World). length u.held) same ∙ is) i in
    let stays = h.rests.calm.stays in
    turned row p q (Some j) k r m (d.0, adds_from p.world before.world q.world [] same d.1)
    (omega (arith, live_are row p [] (Some j) k r m0 (leftover false k) h, is, stays.capacity, stays.lawful.bounded.size.0))
turns_held row p j k r m0 m w false room h some before f q printed s same i =
    let other : length p.world.held ≡ row.capacity - 2 → ⊥ = eqb-false (length p.world.held) (row.capacity - 2) room in
    let d = release_goes row before false j k r m0 m w f q printed s (λ e. other (sym (ap (λ (u : World). length u.held) same) ∙ e)) i in
    turned row p q None k r m (d.0, adds_from p.world before.world q.world [] same d.1) (omega (arith, some))

-- an empty look, while something is live
pub turn_applies : (row : SessionRow) (p : Past) (low : Option ℕ) (k r m0 m w : ℕ) → Stands row p [] low k r m0 (since_opening low k) → m0 ≤ m → r < k
    → LineApplies row p (lines.Look row.id m w Nothing) (Turned row p k r m)
turn_applies row p None k r m0 m w h le some =
    empty_applies row p None k r m0 (at_rest false k) m w _ h le
    (λ before f q printed s same i.
    let d = rest_goes row before false k r m0 m w f q printed s i in
    turned row p q None k r m (d.0, adds_from p.world before.world q.world [] same d.1) (omega (arith, some)))
turn_applies row p (Some j) k r m0 m w h le some =
    empty_applies row p (Some j) k r m0 (leftover false k) m w _ h le
    (turns_held row p j k r m0 m w (length p.world.held == row.capacity - 2) refl h some)
