-- What the looks of a session of any row do on the low side: a HELLO greets, the next message is stored, passed on and
-- acknowledged, and one that an opening found in the low hand is passed on.
use Rattle.std.proofs.Common.{◌≡◌, ℕ, ◌+◌, ◌-◌, ◌^◌, ◌<◌, ◌≤◌, Bool, true, false, List, [], ◌∷◌, ◌++◌, length, drop, Option, Some, None, refl, sym, ap, ◌∙◌, subst, arith, append-nil}
use Rattle.std.specs.Prelude.{◌==◌, ◌&&◌, ◌||◌, nat_lt, nat_le, min, if◌then◌else◌}
use Rattle.std.specs.List.{AllByRecursion}
use Rattle.std.proofs.lemmas.Bool.{ne_eqb, eq-eqb, le-ltb, le-leb, lt-ltb}
use Rattle.std.proofs.lemmas.Slice.Eq.{bytes_eq-Decides}
use Rattle.std.proofs.Math.Nat.{min-le_left}
use Rattle.std.proofs.lemmas.Option.{same_Some}
use Rattle.pump_frame.specs.Frames.{greeting}
use Rattle.pump_frame.specs.declared.frame.Frame.{Frame}
use Rattle.pump_frame.specs.declared.frame.Kind.{Kind}
use Rattle.pump_frame.specs.declared.frame.Kind.TheVariants as kinds
use Rattle.pump_frame.specs.declared.payload.Payload.{Payload}
use Rattle.pump_frame.specs.declared.row.SessionRow.{SessionRow}
use Rattle.pump_core.specs.declared.event.Event.{Event as WorldEvent}
use Rattle.pump_core.specs.declared.event.Event.TheVariants.{Forward}
use Rattle.pump_core.specs.declared.feedback.Feedback.{Feedback}
use Rattle.pump_core.specs.declared.feedback.Feedback.TheVariants.{Quiet, Full, Passed, Released, Repeat}
use Rattle.pump_core.specs.History.{Arrival, Nothing, Came, Look, Opening}
use Rattle.pump_core.specs.Phases.{Idle, Passing, Waiting as Waits}
use Rattle.pump_core.specs.Exchanges.{permits_frame, Part, Holding, Release, Empty, Leaving, Answer, Repeated, Offering, Dropped, Delivery, Loss, Waiting, Over, due, is_fit, is_repeat}
use Rattle.pump_core.specs.Comings.{may_take}
use Rattle.pump_core.specs.Replies.{Sent, takes, stores}
use Rattle.pump_core.specs.Standing.{State, phase_after, end_of}
use Rattle.pump_core.specs.Step.{after, takes_at, stores_at, is_full}
use Rattle.pump_core.specs.World.{World}
use Rattle.pump_core.specs.Events.{Run, stored as stored_world}
use Rattle.pump_core.proofs.Lists.{length-push}
use Rattle.pump_core.proofs.Runs.{run, ran}
use Rattle.pump_core.proofs.Cuts.{newest_of_cut}
use Rattle.pump_core.proofs.CutsFit.{cuts_fit}
use Rattle.script_reader.specs.declared.event.Event.{Event}
use Rattle.script_reader.specs.Past.{Past, pair}
use Rattle.script_reader.specs.Lows.{is_owed, is_bad, arrival_feedback, feedback_at, acks_of, ack_by, offers, stored_events, IsLook}
use Rattle.script_reader.specs.Steps.{data_frame, hello_frame, look_of}
use Rattle.script_reader.proofs.Bounds.{Stays, stays_by}
use Rattle.script_reader.proofs.DoneSteps.{Rests}

abbrev pub low_state : SessionRow → Past → State
low_state row p = run row p.history.life.opening p.history.life.looks

-- ---- a look ----

-- what a look does to the state of the low process
record Goes (row : SessionRow) (p : Past) (x : Look) (q : Past) (s : State) (before after_it : List Part) : Type 0 where
  before_is : end_of row p.history.life.opening before ≡ s
  state : low_state row q ≡ after row s x
  taken : takes after_it ≡ takes_at s x
  stored : stores after_it ≡ stores_at row s x

goes : (row : SessionRow) (p : Past) (x : Look) (q : Past) (printed : List Event) (i : IsLook row p x q printed) (s : State) → low_state row p ≡ s → Goes row p x q s i.before i.after
goes row p x q printed i s is =
    let o = p.history.life.opening in
    let e = sym i.cut_with.looks ∙ ap (λ l. x ∷ l) i.cut.looks in
    let fits = cuts_fit row o x i.before i.after i.cut.are_parts i.cut_with.are_parts e in
    let newest = newest_of_cut row o x i.before i.after i.cut.are_parts i.cut_with.are_parts e fits in
    let ends : end_of row o i.before ≡ s = sym (ran row o i.before i.cut.are_parts).state ∙ ap (run row o) (sym i.cut.looks) ∙ is in
    record {
      before_is = ends;
      state = ap (λ h. run row h.life.opening h.life.looks) i.history ∙ ap (λ t. after row t x) is;
      taken = newest.taken ∙ ap (λ t. takes_at t x) ends;
      stored = newest.stored ∙ ap (λ t. stores_at row t x) ends;
    }

-- acknowledgements change nothing else
acks_only : (k : Kind) (n : ℕ) (rs : List Sent) (w v : World) → ((w : World) → Run w (acks_of rs) v → v ≡ record w { acknowledged = v.acknowledged })
    → Run w (ack_by k n ++ acks_of rs) v → v ≡ record w { acknowledged = v.acknowledged }
acks_only kinds.Ack n rs w v later (u, h, r) = later u r ∙ ap (λ (x : World). record x { acknowledged = v.acknowledged }) h.3
acks_only kinds.Welcome n rs w v later r = later w r
acks_only kinds.Hello n rs w v later r = later w r
acks_only kinds.Data n rs w v later r = later w r
acks_only kinds.Refuse n rs w v later r = later w r
acks_only kinds.Attach n rs w v later r = later w r
acks_only kinds.Taken n rs w v later r = later w r

acknowledges : (rs : List Sent) (w v : World) → Run w (acks_of rs) v → v ≡ record w { acknowledged = v.acknowledged }
acknowledges [] w v e = e ∙ ap (λ (a : List ℕ). record w { acknowledged = a }) (sym (ap (λ (u : World). u.acknowledged) e))
acknowledges (r ∷ rs) w v run = acks_only r.reply.kind r.reply.number rs w v (λ u h. acknowledges rs u v h) run

-- a low look leaves the high side's world
low_rests : (row : SessionRow) (w v : World) (sends : List _) (accepted : List Payload) (low : Option ℕ) (held acknowledged : List ℕ) → Rests row w sends → Stays row.capacity v
    → v ≡ record w { accepted = accepted; storing = None; low_hand = low; held = held; acknowledged = acknowledged } → Rests row v sends
low_rests row w v sends accepted low held acknowledged r stays e =
    subst (λ (u : World). Rests row u sends) (sym e) (record {
      calm = record {
        stays = subst (Stays row.capacity) e stays;
        storing = refl;
        due = r.calm.due;
        removing = r.calm.removing;
        packet = r.calm.packet;
        taking = r.calm.taking;
      };
      below = r.below;
      last = r.last;
    })

-- ---- between two lines ----

-- this waits; the low process is in this state with this hand, so many messages are accepted and removed, and
-- the last moment was at most m
pub record Stands (row : SessionRow) (p : Past) (waits : List Arrival) (low : Option ℕ) (accepted removed m : ℕ) (s : State) : Type 0 where
  pub rests : Rests row p.world p.sends
  pub waits_are : p.waits ≡ waits
  pub broken : p.is_broken ≡ false
  pub low_is : p.world.low_hand ≡ low
  pub count : length p.world.accepted ≡ accepted
  pub short : AllByRecursion (λ x. length x ≤ row.message) p.world.accepted
  pub removed_is : p.world.removed ≡ removed
  pub state : low_state row p ≡ s
  pub moment : p.moment ≤ m

-- nothing is stored that was not passed on; the connection is greeted or not
abbrev pub at_rest : Bool → ℕ → State
at_rest greeted k = record { next = k; greeted = greeted; phase = Idle }

abbrev pub idle : ℕ → State
idle k = at_rest true k

abbrev pub ungreeted : ℕ → State
ungreeted k = at_rest false k

-- an opening found a message in the low hand
abbrev pub leftover : Bool → ℕ → State
leftover greeted k = record { next = k; greeted = greeted; phase = Passing None }

abbrev pub passing : ℕ → State
passing k = record { next = k + 1; greeted = true; phase = Passing (Some k) }

abbrev pub waiting : ℕ → ℕ → State
waiting k at = record { next = k + 1; greeted = true; phase = Waits k at }

-- ---- the looks ----

and_no : (b : Bool) → (false || (b && false)) ≡ false
and_no true = refl
and_no false = refl

both_false : (a b : Bool) → b ≡ false → (a && b) ≡ false
both_false true b e = e
both_false false b e = refl

and_none : (b : Bool) → (b && false) ≡ false
and_none true = refl
and_none false = refl

no_repeat : (row : SessionRow) (p : Past) (before : List Part) → arrival_feedback row p before Nothing ≡ Quiet
no_repeat row p before = ap (λ (b : Bool). if b then Repeat (pair row p) else Quiet) (and_none (may_take p.history.life.opening before))

-- a world after a low look
abbrev low_world : World → List Payload → Option ℕ → List ℕ → List ℕ → World
low_world w accepted low held acknowledged =
    record w { accepted = accepted; storing = None; low_hand = low; held = held; acknowledged = acknowledged }

stands_on : (row : SessionRow) (p q : Past) (x : Look) (printed : List Event) (i : IsLook row p x q printed) (b : Bool) (accepted : List Payload) (low : Option ℕ) (held : List ℕ)
    (k r : ℕ) (s : State) → Rests row p.world p.sends → p.world.removed ≡ r → takes i.after ≡ b → (if b then drop 1 p.waits else p.waits) ≡ [] → p.is_broken ≡ false
    → is_bad x.arrival ≡ false → q.world ≡ low_world p.world accepted low held q.world.acknowledged → length accepted ≡ k → AllByRecursion (λ m. length m ≤ row.message) accepted
    → low_state row q ≡ s → Stands row q [] low k r x.moment s
stands_on row p q x printed i b accepted low held k r s rests removed taken left whole good e count short state = record {
  rests = subst (Rests row q.world) (sym i.sends) (low_rests row p.world q.world p.sends accepted low held q.world.acknowledged rests (stays_by row.capacity p.world _ q.world rests.calm.stays i.world) e);
  waits_are = i.waits ∙ ap (λ (t : Bool). if t then drop 1 p.waits else p.waits) taken ∙ left;
  broken = i.broken ∙ ap (λ (t : Bool × Bool). t.0 || (takes i.after && t.1)) (λ j. (whole j, good j)) ∙ and_no (takes i.after);
  low_is = ap (λ (w : World). w.low_hand) e;
  count = ap (λ (w : World). length w.accepted) e ∙ count;
  short = subst (AllByRecursion (λ m. length m ≤ row.message)) (sym (ap (λ (w : World). w.accepted) e)) short;
  removed_is = ap (λ (w : World). w.removed) e ∙ removed;
  state = state;
  moment = omega (arith, i.moment);
}

-- a look that offers nothing, stores nothing, and takes no message
quiet_world : (row : SessionRow) (p q : Past) (x : Look) (printed : List Event) (i : IsLook row p x q printed) → offers x.feedback ≡ [] → stores i.after ≡ None → p.world.storing ≡ None
    → q.world ≡ low_world p.world p.world.accepted p.world.low_hand p.world.held q.world.acknowledged
quiet_world row p q x printed i offer store free =
    let run : Run p.world (acks_of i.new) q.world =
    subst (λ (t : List WorldEvent × Option ℕ). Run p.world (t.0 ++ (stored_events t.1 x.arrival ++ acks_of i.new)) q.world) (λ j. (offer j, store j)) i.world in
    let e = acknowledges i.new p.world q.world run in
    e ∙ ap (λ (o : Option Payload). record p.world { storing = o; acknowledged = q.world.acknowledged }) free

-- what a look of the low side keeps, and what it stores
pub record Adds (w v : World) (added : List Payload) : Type 0 where
  pub accepted : v.accepted ≡ w.accepted ++ added
  pub high : v.high_hand ≡ w.high_hand

adds_none : (w v : World) (low : Option ℕ) (held acknowledged : List ℕ) → v ≡ low_world w w.accepted low held acknowledged → Adds w v []
adds_none w v low held acknowledged e = record {
  accepted = ap (λ (u : World). u.accepted) e ∙ sym (append-nil w.accepted);
  high = ap (λ (u : World). u.high_hand) e;
}

-- a look to which nothing comes, with an empty low hand: it is told nothing
empty_quiet : (row : SessionRow) (p : Past) (k r m0 m w : ℕ) (s : State) (f : Feedback) (q : Past) (printed : List Event) → Stands row p [] None k r m0 s
    → IsLook row p (look_of m w Nothing f) q printed → f ≡ Quiet
empty_quiet row p k r m0 m w s f q printed st i = i.told ∙ ap (λ (o : Option ℕ). feedback_at row p i.before o Nothing) st.low_is ∙ no_repeat row p i.before

-- .. and where nothing is stored the low side's part of the world stays
empty_goes : (row : SessionRow) (p : Past) (k r m0 m w : ℕ) (s t : State) (f : Feedback) (q : Past) (printed : List Event) → Stands row p [] None k r m0 s
    → (i : IsLook row p (look_of m w Nothing f) q printed) → takes i.after ≡ false → stores i.after ≡ None → low_state row q ≡ t
    → Stands row q [] None k r m t × Adds p.world q.world []
empty_goes row p k r m0 m w s t f q printed st i taken stored state =
    let x = look_of m w Nothing f in
    let e = quiet_world row p q x printed i (ap offers (empty_quiet row p k r m0 m w s f q printed st i)) stored st.rests.calm.storing in (
      stands_on row p q x printed i false p.world.accepted None p.world.held k r t st.rests st.removed_is taken st.waits_are st.broken refl
          (e ∙ ap (λ (o : Option ℕ). low_world p.world p.world.accepted o p.world.held q.world.acknowledged) st.low_is) st.count st.short state,
      adds_none p.world q.world p.world.low_hand p.world.held q.world.acknowledged e,
    )

-- nothing happens
pub rest_goes : (row : SessionRow) (p : Past) (greeted : Bool) (k r m0 m w : ℕ) (f : Feedback) (q : Past) (printed : List Event) → Stands row p [] None k r m0 (at_rest greeted k)
    → IsLook row p (look_of m w Nothing f) q printed → Stands row q [] None k r m (at_rest greeted k) × Adds p.world q.world []
rest_goes row p greeted k r m0 m w f q printed s i =
    let g = goes row p (look_of m w Nothing f) q printed i (at_rest greeted k) s.state in
    empty_goes row p k r m0 m w (at_rest greeted k) (at_rest greeted k) f q printed s i g.taken g.stored g.state

-- the acknowledgement is due
pub ack_goes : (row : SessionRow) (p : Past) (k r m0 m w at : ℕ) (f : Feedback) (q : Past) (printed : List Event) → Stands row p [] None (k + 1) r m0 (waiting k at) → at ≤ m
    → IsLook row p (look_of m w Nothing f) q printed → Stands row q [] None (k + 1) r m (idle (k + 1)) × Adds p.world q.world []
ack_goes row p k r m0 m w at f q printed s due i =
    let g = goes row p (look_of m w Nothing f) q printed i (waiting k at) s.state in
    let ends : low_state row q ≡ idle (k + 1) = g.state ∙ ap (λ (b : Bool). if b then idle (k + 1) else waiting k at) (le-leb at m due) in
    empty_goes row p (k + 1) r m0 m w (waiting k at) (idle (k + 1)) f q printed s i g.taken g.stored ends

-- a message in the low hand after a delivery's first look is owed
owed_in : (row : SessionRow) (o : Opening) (k : ℕ) (parts : List Part) → phase_after row o parts ≡ Passing (Some k) → is_owed parts ≡ true
owed_in row o k [] e = absurd (elim o.is_held as (λ b. (if b then Passing None else Idle) ≡ Passing (Some k) → ⊥) [ true ↦ λ h. cc h | false ↦ λ h. cc h ] e)
owed_in row o k (Holding newest older ∷ before) e = absurd (cc e)
owed_in row o k (Release looks last ∷ before) e = absurd (cc e)
owed_in row o k (Empty x ∷ before) e = absurd (cc e)
owed_in row o k (Leaving x ∷ before) e = absurd (cc e)
owed_in row o k (Answer x ∷ before) e = absurd (cc e)
owed_in row o k (Repeated first (Waiting quiet) ∷ before) e = absurd (cc e)
owed_in row o k (Repeated first (Over quiet last) ∷ before) e = absurd (cc e)
owed_in row o k (Offering first full ∷ before) e = refl
owed_in row o k (Dropped first full gone ∷ before) e = absurd (cc e)
owed_in row o k (Delivery first full x (Waiting quiet) ∷ before) e = absurd (cc e)
owed_in row o k (Delivery first full x (Over quiet last) ∷ before) e = absurd (cc e)
owed_in row o k (Loss first rest ∷ before) e = absurd (cc e)

-- one that an opening found there is not
unowed_in : (row : SessionRow) (o : Opening) (parts : List Part) → phase_after row o parts ≡ Passing None → is_owed parts ≡ false
unowed_in row o [] e = refl
unowed_in row o (Holding newest older ∷ before) e = refl
unowed_in row o (Release looks last ∷ before) e = refl
unowed_in row o (Empty x ∷ before) e = refl
unowed_in row o (Leaving x ∷ before) e = refl
unowed_in row o (Answer x ∷ before) e = refl
unowed_in row o (Repeated first wait ∷ before) e = refl
unowed_in row o (Offering first full ∷ before) e = absurd (cc e)
unowed_in row o (Dropped first full gone ∷ before) e = refl
unowed_in row o (Delivery first full x wait ∷ before) e = refl
unowed_in row o (Loss first rest ∷ before) e = refl

-- what an offer is told, by whether the passage is full and whether an acknowledgement is owed
offer_told : (row : SessionRow) (p : Past) (n m w : ℕ) (f : Feedback) (q : Past) (printed : List Event) (full owed : Bool) → p.world.low_hand ≡ Some n
    → (i : IsLook row p (look_of m w Nothing f) q printed) → (length p.world.held == row.capacity - 2) ≡ full → is_owed i.before ≡ owed
    → f ≡ (if full then Full else if owed then Passed (pair row p) else Released)
offer_told row p n m w f q printed full owed low i is_full owes =
    i.told ∙ ap (λ (o : Option ℕ). feedback_at row p i.before o Nothing) low
    ∙ ap (λ (b : Bool × Bool). if b.0 then Full else if b.1 then Passed (pair row p) else Released) (λ j. (is_full j, owes j))

-- the world after the message in the low hand was passed on
forwarded : (row : SessionRow) (p : Past) (m w : ℕ) (f : Feedback) (q : Past) (printed : List Event) → (i : IsLook row p (look_of m w Nothing f) q printed)
    → offers f ≡ Forward ∷ [] → stores i.after ≡ None → p.world.storing ≡ None
    → (n : ℕ) × (q.world ≡ low_world p.world p.world.accepted None (p.world.held ++ n ∷ []) q.world.acknowledged)
forwarded row p m w f q printed i offer stored free =
    let run = subst (λ (t : List WorldEvent × Option ℕ). Run p.world (t.0 ++ (stored_events t.1 Nothing ++ acks_of i.new)) q.world) (λ j. (offer j, stored j)) i.world in
    let n = run.1.0 in (
      n,
      acknowledges i.new run.0 q.world run.2 ∙ ap (λ (u : World). record u { acknowledged = q.world.acknowledged }) run.1.3
          ∙ ap (λ (o : Option Payload). record p.world { storing = o; low_hand = None; held = p.world.held ++ n ∷ []; acknowledged = q.world.acknowledged }) free,
    )

-- the message is passed, and its acknowledgement due `longest` microseconds later at most
pub record Passes (row : SessionRow) (q : Past) (k r m : ℕ) : Type 0 where
  pub at : ℕ
  pub due : at ≤ m + row.longest
  pub stands : Stands row q [] None (k + 1) r m (waiting k at)

least_below : (a b c : ℕ) → a + min b c ≤ a + b
least_below a b c = omega (arith, min-le_left b c)

pub pass_goes : (row : SessionRow) (p : Past) (k r m0 m w : ℕ) (f : Feedback) (q : Past) (printed : List Event) → Stands row p [] (Some k) (k + 1) r m0 (passing k)
    → (length p.world.held ≡ row.capacity - 2 → ⊥) → IsLook row p (look_of m w Nothing f) q printed → Passes row q k r m × Adds p.world q.world []
pass_goes row p k r m0 m w f q printed s room i =
    let x = look_of m w Nothing f in
    let g = goes row p x q printed i (passing k) s.state in
    let owed : is_owed i.before ≡ true = owed_in row p.history.life.opening k i.before (ap (λ (t : State). t.phase) g.before_is) in
    let free : (length p.world.held == row.capacity - 2) ≡ false = ne_eqb (length p.world.held) (row.capacity - 2) room in
    let passed : f ≡ Passed (pair row p) = offer_told row p k m w f q printed false true s.low_is i free owed in
    let at = due row x in
    let state : low_state row q ≡ waiting k at =
    g.state ∙ ap (λ (t : Feedback). if is_full t then passing k else waiting k at) passed in
    let on = forwarded row p m w f q printed i (ap offers passed) g.stored s.rests.calm.storing in (
      record {
        at = at;
        due = least_below m row.longest _;
        stands = stands_on row p q x printed i false p.world.accepted None (p.world.held ++ on.0 ∷ []) (k + 1) r (waiting k at) s.rests s.removed_is g.taken s.waits_are s.broken refl
            on.1 s.count s.short state;
      },
      adds_none p.world q.world None (p.world.held ++ on.0 ∷ []) q.world.acknowledged on.1,
    )

-- a message that an opening found in the low hand is passed on, where the passage has room
pub release_goes : (row : SessionRow) (p : Past) (greeted : Bool) (j k r m0 m w : ℕ) (f : Feedback) (q : Past) (printed : List Event) → Stands row p [] (Some j) k r m0 (leftover greeted k)
    → (length p.world.held ≡ row.capacity - 2 → ⊥) → IsLook row p (look_of m w Nothing f) q printed → Stands row q [] None k r m (at_rest greeted k) × Adds p.world q.world []
release_goes row p greeted j k r m0 m w f q printed s room i =
    let x = look_of m w Nothing f in
    let g = goes row p x q printed i (leftover greeted k) s.state in
    let owed : is_owed i.before ≡ false = unowed_in row p.history.life.opening i.before (ap (λ (t : State). t.phase) g.before_is) in
    let free : (length p.world.held == row.capacity - 2) ≡ false = ne_eqb (length p.world.held) (row.capacity - 2) room in
    let released : f ≡ Released = offer_told row p j m w f q printed false false s.low_is i free owed in
    let state : low_state row q ≡ at_rest greeted k =
    g.state ∙ ap (λ (t : Feedback). if is_full t then leftover greeted k else at_rest greeted k) released in
    let on = forwarded row p m w f q printed i (ap offers released) g.stored s.rests.calm.storing in (
      stands_on row p q x printed i false p.world.accepted None (p.world.held ++ on.0 ∷ []) k r (at_rest greeted k) s.rests s.removed_is g.taken s.waits_are s.broken refl
          on.1 s.count s.short state,
      adds_none p.world q.world None (p.world.held ++ on.0 ∷ []) q.world.acknowledged on.1,
    )

-- the passage is full: whatever is in the low hand stays there
full_by : (row : SessionRow) (p : Past) (j k r m0 m w : ℕ) (s : State) (f : Feedback) (q : Past) (printed : List Event) → Stands row p [] (Some j) k r m0 s
    → length p.world.held ≡ row.capacity - 2 → (i : IsLook row p (look_of m w Nothing f) q printed) → takes i.after ≡ false → stores i.after ≡ None → (f ≡ Full → low_state row q ≡ s)
    → Stands row q [] (Some j) k r m s × Adds p.world q.world []
full_by row p j k r m0 m w s f q printed st none i taken stored state =
    let x = look_of m w Nothing f in
    let full : f ≡ Full = offer_told row p j m w f q printed true (is_owed i.before) st.low_is i (eq-eqb (length p.world.held) (row.capacity - 2) none) refl in
    let e = quiet_world row p q x printed i (ap offers full) stored st.rests.calm.storing in (
      stands_on row p q x printed i false p.world.accepted (Some j) p.world.held k r s st.rests st.removed_is taken st.waits_are st.broken refl
          (e ∙ ap (λ (o : Option ℕ). low_world p.world p.world.accepted o p.world.held q.world.acknowledged) st.low_is) st.count st.short (state full),
      adds_none p.world q.world p.world.low_hand p.world.held q.world.acknowledged e,
    )

pub full_goes : (row : SessionRow) (p : Past) (k r m0 m w : ℕ) (f : Feedback) (q : Past) (printed : List Event) → Stands row p [] (Some k) (k + 1) r m0 (passing k)
    → length p.world.held ≡ row.capacity - 2 → IsLook row p (look_of m w Nothing f) q printed → Stands row q [] (Some k) (k + 1) r m (passing k) × Adds p.world q.world []
full_goes row p k r m0 m w f q printed s none i =
    let x = look_of m w Nothing f in
    let g = goes row p x q printed i (passing k) s.state in
    full_by row p k (k + 1) r m0 m w (passing k) f q printed s none i g.taken g.stored
    (λ full. g.state ∙ ap (λ (t : Feedback). if is_full t then passing k else waiting k (due row x)) full)

-- .. also for one that an opening found there
pub held_goes : (row : SessionRow) (p : Past) (greeted : Bool) (j k r m0 m w : ℕ) (f : Feedback) (q : Past) (printed : List Event) → Stands row p [] (Some j) k r m0 (leftover greeted k)
    → length p.world.held ≡ row.capacity - 2 → IsLook row p (look_of m w Nothing f) q printed → Stands row q [] (Some j) k r m (leftover greeted k) × Adds p.world q.world []
held_goes row p greeted j k r m0 m w f q printed s none i =
    let g = goes row p (look_of m w Nothing f) q printed i (leftover greeted k) s.state in
    full_by row p j k r m0 m w (leftover greeted k) f q printed s none i g.taken g.stored
    (λ full. g.state ∙ ap (λ (t : Feedback). if is_full t then leftover greeted k else at_rest greeted k) full)

-- ---- what comes ----

short_push : (s : ℕ) (xs : List Payload) (x : Payload) → AllByRecursion (λ m. length m ≤ s) xs → length x ≤ s → AllByRecursion (λ m. length m ≤ s) (xs ++ x ∷ [])
short_push s [] x h k = (k, tt)
short_push s (y ∷ ys) x h k = (h.0, short_push s ys x h.1 k)

module _ (row : SessionRow) (k : ℕ) (payload : Payload) (own : (row.id == row.id) ≡ true) (short : nat_le (length payload) row.message ≡ true) (again : nat_lt k k ≡ false) (next : (k == k) ≡ true) (few : nat_lt k (2 ^ 48) ≡ true) where
  state_next : (m w : ℕ) (f : Feedback) → after row (idle k) (look_of m w (Came (data_frame row.id k payload)) f) ≡ passing k
  state_next m w f = rw (own, short, again, next, few) refl

  stores_next : (m w : ℕ) (f : Feedback) → stores_at row (idle k) (look_of m w (Came (data_frame row.id k payload)) f) ≡ Some k
  stores_next m w f = rw (own, short, again, next, few) refl

-- the world after a message was stored
stored_by : (row : SessionRow) (p : Past) (k m w : ℕ) (payload : Payload) (f : Feedback) (q : Past) (printed : List Event)
    → (i : IsLook row p (look_of m w (Came (data_frame row.id k payload)) f) q printed) → f ≡ Quiet → stores i.after ≡ Some k
    → q.world ≡ low_world p.world (p.world.accepted ++ payload ∷ []) (Some (length p.world.accepted)) p.world.held q.world.acknowledged
stored_by row p k m w payload f q printed i quiet stored =
    let frame = data_frame row.id k payload in
    let run = subst (λ (t : Feedback × Option ℕ). Run p.world (offers t.0 ++ (stored_events t.1 (Came frame) ++ acks_of i.new)) q.world) (λ j. (quiet j, stored j)) i.world in
    let begun = run.1.2 in
    let one = run.2.1.0 in
    let same : one ≡ payload = same_Some one payload (sym run.2.1.1 ∙ ap (λ (u : World). u.storing) begun) in
    let whole : run.2.0 ≡ record p.world { accepted = p.world.accepted ++ payload ∷ []; low_hand = Some (length p.world.accepted); storing = None } =
    run.2.1.2 ∙ ap (λ (t : World × Payload). stored_world t.0 t.1) (λ j. (begun j, same j)) in
    acknowledges i.new run.2.0 q.world run.2.2 ∙ ap (λ (u : World). record u { acknowledged = q.world.acknowledged }) whole

-- the next message is stored
pub data_goes : (row : SessionRow) (p : Past) (k r m0 m w : ℕ) (payload : Payload) (f : Feedback) (q : Past) (printed : List Event)
    → Stands row p (Came (data_frame row.id k payload) ∷ []) None k r m0 (idle k) → length payload ≤ row.message → k < 2 ^ 48
    → IsLook row p (look_of m w (Came (data_frame row.id k payload)) f) q printed → Stands row q [] (Some k) (k + 1) r m (passing k) × Adds p.world q.world (payload ∷ [])
data_goes row p k r m0 m w payload f q printed s small few i =
    let frame = data_frame row.id k payload in
    let x = look_of m w (Came frame) f in
    let g = goes row p x q printed i (idle k) s.state in
    let own : (row.id == row.id) ≡ true = eq-eqb row.id row.id refl in
    let short : nat_le (length payload) row.message ≡ true = le-leb (length payload) row.message small in
    let again : nat_lt k k ≡ false = le-ltb k k (omega arith) in
    let next : (k == k) ≡ true = eq-eqb k k refl in
    let low : nat_lt k (2 ^ 48) ≡ true = lt-ltb k (2 ^ 48) few in
    let before : State = end_of row p.history.life.opening i.before in
    let comes : is_repeat row before.next before.greeted frame ≡ false =
    ap (λ (t : State). is_repeat row t.next t.greeted frame) g.before_is ∙ both_false (is_fit row true frame) (nat_lt k k) again in
    let quiet : f ≡ Quiet =
    i.told ∙ ap (λ (o : Option ℕ). feedback_at row p i.before o (Came frame)) s.low_is
    ∙ ap (λ (b : Bool). if b then Repeat (pair row p) else Quiet) (both_false (may_take p.history.life.opening i.before) _ comes) in
    let stored : stores i.after ≡ Some k = g.stored ∙ stores_next row k payload own short again next low m w f in
    let e = stored_by row p k m w payload f q printed i quiet stored in
    let accepted = p.world.accepted ++ payload ∷ [] in
    let e' = e ∙ ap (λ n. low_world p.world accepted (Some n) p.world.held q.world.acknowledged) s.count in (
      stands_on row p q x printed i true accepted (Some k) p.world.held (k + 1) r (passing k) s.rests s.removed_is g.taken (ap (λ (l : List Arrival). drop 1 l) s.waits_are) s.broken refl
          e' (length-push p.world.accepted payload ∙ ap (λ n. n + 1) s.count) (short_push row.message p.world.accepted payload s.short small)
          (g.state ∙ state_next row k payload own short again next low m w f),
      record {
        accepted = ap (λ (u : World). u.accepted) e;
        high = ap (λ (u : World). u.high_hand) e;
      },
    )

-- ---- the connection is greeted ----

-- the row's own HELLO
abbrev pub own_hello : SessionRow → Frame
own_hello row = hello_frame row.id row.low row.high

permits : (row : SessionRow) (f : Frame) → f.session ≡ row.id → f.payload ≡ greeting row.low row.high → permits_frame row f ≡ true
permits row f one names = ap (λ (b : Bool × Bool). b.0 && b.1) (λ j. (eq-eqb f.session row.id one j, (bytes_eq-Decides f.payload (greeting row.low row.high)).1 names j))

pub hello_goes : (row : SessionRow) (p : Past) (greeted : Bool) (k r m0 m w : ℕ) (f : Feedback) (q : Past) (printed : List Event) → Stands row p (Came (own_hello row) ∷ []) None k r m0 (at_rest greeted k)
    → IsLook row p (look_of m w (Came (own_hello row)) f) q printed → Stands row q [] None k r m (idle k) × Adds p.world q.world []
hello_goes row p greeted k r m0 m w f q printed s i =
    let hello = own_hello row in
    let x = look_of m w (Came hello) f in
    let g = goes row p x q printed i (at_rest greeted k) s.state in
    let quiet : f ≡ Quiet =
    i.told ∙ ap (λ (o : Option ℕ). feedback_at row p i.before o (Came hello)) s.low_is
    ∙ ap (λ (b : Bool). if b then Repeat (pair row p) else Quiet) (both_false (may_take p.history.life.opening i.before) false refl) in
    let state : low_state row q ≡ idle k = g.state ∙ ap (λ (b : Bool). at_rest b k) (permits row hello refl refl) in
    let e = quiet_world row p q x printed i (ap offers quiet) g.stored s.rests.calm.storing in (
      stands_on row p q x printed i true p.world.accepted None p.world.held k r (idle k) s.rests s.removed_is g.taken (ap (λ (l : List Arrival). drop 1 l) s.waits_are) s.broken refl
          (e ∙ ap (λ (o : Option ℕ). low_world p.world p.world.accepted o p.world.held q.world.acknowledged) s.low_is) s.count s.short state,
      adds_none p.world q.world p.world.low_hand p.world.held q.world.acknowledged e,
    )
