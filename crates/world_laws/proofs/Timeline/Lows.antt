-- A low look goes on with a timed run: it is offered what came, told what the run tells it, and its
-- steps stand in their places.
use Rattle.std.proofs.Common.{◌≡◌, ℕ, ◌-◌, ◌≤◌, Bool, true, false, List, [], ◌∷◌, ◌++◌, length, map, Option, Some, None, refl, sym, ap, ◌∙◌, subst, append_assoc}
use Rattle.std.specs.Prelude.{if◌then◌else◌, ◌&&◌, not, ◌==◌, reverse}
use Rattle.pump_frame.specs.declared.row.SessionRow.{SessionRow}
use Rattle.pump_core.specs.declared.event.Event.{Event as WorldEvent}
use Rattle.pump_core.specs.declared.feedback.Seen.{Seen}
use Rattle.pump_core.specs.declared.feedback.Feedback.{Feedback}
use Rattle.pump_core.specs.declared.feedback.Feedback.TheVariants.{Quiet, Full, Passed, Released, Repeat}
use Rattle.pump_core.specs.History.{Arrival, Look, Opening, Life, History, looked}
use Rattle.pump_core.specs.Exchanges.{is_gone, Part, count_after, greeted_after, IsCut}
use Rattle.pump_core.specs.Replies.{Sent, replies_of, takes, stores, LowReplies}
use Rattle.pump_core.specs.Pairs.{uncounted}
use Rattle.pump_core.specs.Comings.{LookMade, Timed, Comes, Looks, comings, first_of, offer, may_take, is_nothing, taken_after, IsOffered}
use Rattle.pump_core.specs.World.{World}
use Rattle.pump_core.specs.Events.{Run}
use Rattle.pump_core.specs.Timed.{Step, LowLook, Offer, Read, Occurs, Point, offered, seen, look_begun, LeadsTo}
use Rattle.pump_core.specs.Runs.{LifeFeedback, with_feedback, steps_in, IsRun}
use Rattle.pump_core.proofs.Runs.{one_list_of_lives}
use Rattle.pump_core.proofs.Cuts.{one_cut}
use Rattle.pump_core.proofs.Onward.{looks_to}
use Rattle.script_reader.specs.declared.event.Event.{Event}
use Rattle.script_reader.specs.Past.{Past, pair}
use Rattle.script_reader.specs.Lows.{is_owed, comes_again, feedback_at, feedback, offers, stored_events, acks_of, IsLook}
use Rattle.script_reader.specs.Steps.{look_of}
use Rattle.world_laws.specs.Timelines.{taken_in}
use Rattle.world_laws.proofs.Timeline.Cuts.{Newest, newest_of}
use Rattle.world_laws.proofs.Timeline.Deeds.{Deed, Rests, Stores, FindsFull, Releases, Passes, Reads, Acknowledges, feedback_by, own_events, events_by, steps_by}
use Rattle.world_laws.proofs.Timeline.Worlds.{Leaves, deed_leaves, has_places}
use Rattle.pump_core.specs.declared.event.Event.TheVariants.{StoreBegin, StoreEnd, Forward, Acknowledge}

-- ---- the replies of the look ----

cancel : (xs a b : List Sent) → xs ++ a ≡ xs ++ b → a ≡ b
cancel [] a b e = e
cancel (x ∷ xs) a b e = cancel xs a b (let f : xs ++ a ≡ xs ++ b = cc in f)

-- the replies that a look adds to those of its history are those of its part
new_replies : (row : SessionRow) (p : Past) (x : Look) (q : Past) (printed : List Event) (i : IsLook row p x q printed)
    → (n : Newest row p.history.life.opening p.history.life.looks x i.after) → i.new ≡ n.new
new_replies row p x q printed i n = by i.are_replies
  where
    life : Life
    life = p.history.life

    by : LowReplies row p.history i.replies → i.new ≡ n.new
    by (older, newer, was, (parts, cut, told), e) =
        let before : IsCut row p.history.life n.before = record { are_parts = n.are_parts; looks = sym n.looks } in
        let same : parts ≡ n.before = one_cut row p.history.life parts n.before cut before in
        let with : newer ++ n.new ≡ replies_of row p.history.life.opening i.after =
        ap (λ l. l ++ n.new) (told ∙ ap (replies_of row p.history.life.opening) same) ∙ sym n.replies in
        let all : LowReplies row (looked p.history x) (i.replies ++ n.new) =
        (older, newer ++ n.new, was, (i.after, i.cut_with, with), ap (λ l. l ++ n.new) e ∙ append_assoc older newer n.new) in
        let h = looked p.history x in
        cancel i.replies i.new n.new (one_list_of_lives row (h.life ∷ h.earlier) (i.replies ++ i.new) (i.replies ++ n.new) i.are_replies_with all)

-- ---- what the look is told ----

-- what a feedback says: whether all places are full, and what a read gives
abbrev pub Says : Bool → Seen → Feedback → Type 0
Says full s Quiet = Unit {0}
Says full s Full = full ≡ true
Says full s Released = full ≡ false
Says full s (Passed t) = (full ≡ false) × (t ≡ s)
Says full s (Repeat t) = t ≡ s

says_offer : (full owed : Bool) (s : Seen) → Says full s (if full then Full else if owed then Passed s else Released)
says_offer true owed s = refl
says_offer false true s = (refl, refl)
says_offer false false s = refl

says_arrival : (full again : Bool) (s : Seen) → Says full s (if again then Repeat s else Quiet)
says_arrival full true s = refl
says_arrival full false s = tt

says_gone : (full gone : Bool) (s : Seen) (f : Feedback) → Says full s f → Says full s (if gone then Quiet else f)
says_gone full true s f h = tt
says_gone full false s f h = h

says_at : (row : SessionRow) (p : Past) (before : List Part) (hand : Option ℕ) (a : Arrival)
    → Says (length p.world.held == row.capacity - 2) (pair row p) (feedback_at row p before hand a)
says_at row p before None a = says_arrival (length p.world.held == row.capacity - 2)
    (may_take p.history.life.opening before && comes_again row (count_after p.history.life.opening before) (greeted_after row before) a) (pair row p)
says_at row p before (Some n) a = says_offer (length p.world.held == row.capacity - 2) (is_owed before) (pair row p)

says : (row : SessionRow) (p : Past) (before : List Part) (a : Arrival)
    → Says (length p.world.held == row.capacity - 2) (pair row p) (feedback row p before a)
says row p before a = says_gone (length p.world.held == row.capacity - 2) (is_gone a) (pair row p) (feedback_at row p before p.world.low_hand a) (says_at row p before p.world.low_hand a)

-- ---- the steps of the look ----

-- a look with this feedback, in which the disk did not fail
abbrev pub made_with : ℕ → ℕ → Bool → Feedback → LookMade
made_with m w gone f = record (look_begun m w gone false) { feedback = f }

-- the point t after a look with this feedback, in which these steps stood and which led to this world
abbrev looked_to : Point → ℕ → ℕ → Bool → Feedback → List Step → World → Point
looked_to t m w gone f stood v = looks_to t (record t { world = v; looked = m }) (made_with m w gone f) stood

-- the steps of a look in which this was done
abbrev pub done_steps : ℕ → ℕ → Bool → List Step → List Step
done_steps m w gone stood = reverse stood ++ LowLook m w gone false ∷ []

is_offered : (full : Bool) (f : Feedback) → full ≡ true → (if full then Full else f) ≡ Full
is_offered full f e = rw e refl

is_released : (full : Bool) (f : Feedback) → full ≡ false → (if full then Full else f) ≡ f
is_released full f e = rw e refl

module _ (row : SessionRow) (past : List Step) (t : Point) (m w : ℕ) (gone : Bool) (leads : LeadsTo row past t) (late : t.looked ≤ m) where
  abbrev to : Feedback → List Step → World → Point
  to f stood v = looked_to t m w gone f stood v

  began : LeadsTo row (LowLook m w gone false ∷ past) (to Quiet [] t.world)
  began = (t, leads, (late, refl))

  offers_so : (f : Feedback) → offered t.world Quiet ≡ f → LeadsTo row (Offer ∷ LowLook m w gone false ∷ past) (to f (Offer ∷ []) t.world)
  offers_so f e = (to Quiet [] t.world, began, ap (λ (g : Feedback). to g (Offer ∷ []) t.world) (sym e))

  pub deed_leads : (d : Deed) (v : World) → Says (length t.world.held == t.world.capacity - 2) (seen row t.high.times) (feedback_by d)
      → Run t.world (events_by d) v → LeadsTo row (done_steps m w gone (steps_by d) ++ past) (to (feedback_by d) (steps_by d) v)
  deed_leads Rests v s r = subst (λ (u : World). LeadsTo row (LowLook m w gone false ∷ past) (to Quiet [] u)) (sym r) began
  deed_leads (Stores p) v s (v₁, h₁, (v₂, h₂, e)) =
      (to Quiet (Occurs (StoreBegin p) ∷ []) v₁, (to Quiet [] t.world, began, (v₁, h₁, tt, refl)), (v₂, h₂, tt, ap (λ (u : World). to Quiet (Occurs (StoreBegin p) ∷ Occurs StoreEnd ∷ []) u) e))
  deed_leads FindsFull v s r =
      subst (λ (u : World). LeadsTo row (Offer ∷ LowLook m w gone false ∷ past) (to Full (Offer ∷ []) u)) (sym r) (offers_so Full (is_offered _ Released s))
  deed_leads Releases v s (v₁, h₁, e) =
      (to Released (Offer ∷ []) t.world, offers_so Released (is_released _ Released s), (v₁, h₁, tt, ap (λ (u : World). to Released (Offer ∷ Occurs Forward ∷ []) u) e))
  deed_leads (Passes a) v s (v₁, h₁, e) = (
    to Released (Offer ∷ Occurs Forward ∷ []) v,
    (to Released (Offer ∷ []) t.world, offers_so Released (is_released _ Released s.0), (v₁, h₁, tt, ap (λ (u : World). to Released (Offer ∷ Occurs Forward ∷ []) u) e)),
    ap (λ (b : Seen). to (Passed b) (Offer ∷ Occurs Forward ∷ Read ∷ []) v) s.1,
  )
  deed_leads (Reads a) v s r =
      subst (λ (u : World). LeadsTo row (Read ∷ LowLook m w gone false ∷ past) (to (Repeat a) (Read ∷ []) u)) (sym r)
      (to Quiet [] t.world, began, ap (λ (b : Seen). to (Repeat b) (Read ∷ []) t.world) s)
  deed_leads (Acknowledges n) v s (v₁, h₁, e) =
      (to Quiet [] t.world, began, (v₁, h₁, tt, ap (λ (u : World). to Quiet (Occurs (Acknowledge n) ∷ []) u) e))

-- ---- the look ----

-- changed feedback changes nothing of what came
comings_with : (g : Feedback → Feedback) (events : List Timed) → comings (map (with_feedback g) events) ≡ comings events
comings_with g [] = refl
comings_with g (Comes c ∷ past) = ap (λ l. l ++ c ∷ []) (comings_with g past)
comings_with g (Looks made ∷ past) = ap (λ l. if made.is_gone then [] else l) (comings_with g past)

pub counts : (gone takes t : Bool) (taken : ℕ) → (gone ≡ false → takes ≡ t) → taken_after gone takes taken ≡ taken_after gone t taken
counts true takes t taken e = refl
counts false takes t taken e = ap (λ b. taken_after false b taken) (e refl)

pub second : (b c : Bool) → (b && not c) ≡ true → c ≡ false
second true false e = refl
second true true e = absurd (cc)
second false c e = absurd (cc)

-- the newest look's feedback is added
abbrev told_also : Feedback → List LifeFeedback → List LifeFeedback
told_also f [] = []
told_also f (l ∷ ls) = record { is_held = l.is_held; looks = f ∷ l.looks } ∷ ls

-- a run that went on by this look, in which the world became v
pub record HasLooked (row : SessionRow) (steps : List Step) (t : Point) (h : History) (run : IsRun row steps t h) (m w : ℕ) (a : Arrival) (f : Feedback) (parts : List Part) (v : World) : Type 0 where
  pub to : Point
  pub run_on : IsRun row (done_steps m w (is_gone a) (steps_in parts) ++ steps) to (looked h (look_of m w a f))
  pub world : to.world ≡ v
  pub high : to.high ≡ t.high
  pub late : to.looked ≡ m
  pub events : to.life.side.events ≡ Looks (made_with m w (is_gone a) f) ∷ t.life.side.events
  pub count : taken_in row (done_steps m w (is_gone a) (steps_in parts) ++ steps) to (looked h (look_of m w a f)) run_on ≡ taken_after (is_gone a) (takes parts) (taken_in row steps t h run)
  -- what it takes is something
  pub some : is_gone a ≡ false → takes parts ≡ true → is_nothing a ≡ false
  pub leaves : Leaves t.world v

module _ (row : SessionRow) (p : Past) (steps : List Step) (t : Point) (m w : ℕ) (a : Arrival) (f : Feedback) (q : Past) (printed : List Event)
    (run : IsRun row steps t p.history) (world : t.world ≡ p.world) (times : t.high.times ≡ p.times) (late : t.looked ≤ m)
    (comes : is_gone a ≡ false → a ≡ offer t.life.side.events (taken_in row steps t p.history run))
    (i : IsLook row p (look_of m w a f) q printed) where
  abbrev x : Look
  x = look_of m w a f

  abbrev o : Opening
  o = p.history.life.opening

  abbrev taken : ℕ
  taken = taken_in row steps t p.history run

  abbrev now : ℕ
  now = taken_after (is_gone a) (takes i.after) taken

  n : Newest row o p.history.life.looks x i.after
  n = newest_of row o x p.history.life.looks i.after i.cut_with.are_parts (sym i.cut_with.looks) refl

  full_is : (length p.world.held == row.capacity - 2) ≡ (length t.world.held == t.world.capacity - 2)
  full_is =
      let places = has_places row steps t run.leads in
      sym (λ j. length ((world j).held) == places j - 2)

  does : Says (length t.world.held == t.world.capacity - 2) (seen row t.high.times) (feedback_by n.deed)
  does =
      let back = sym times in
      let told : feedback row p i.before a ≡ feedback_by n.deed = sym i.told ∙ n.feedback in
      subst (λ (k : Bool × Seen × Feedback). Says k.0 k.1 k.2) (λ j. (full_is j, seen row (back j), told j)) (says row p i.before a)

  happened : Run t.world (events_by n.deed) q.world
  happened =
      let acks : acks_of i.new ≡ acks_of n.new = ap acks_of (new_replies row p x q printed i n) in
      let own : stored_events (stores i.after) a ++ acks_of i.new ≡ own_events n.deed = ap (λ l. stored_events (stores i.after) a ++ l) acks ∙ n.events in
      let all : offers f ++ (stored_events (stores i.after) a ++ acks_of i.new) ≡ events_by n.deed = (λ j. offers (n.feedback j) ++ own j) in
      let was = sym world in
      subst (λ (k : World × List WorldEvent). Run k.0 k.1 q.world) (λ j. (was j, all j)) i.world

  abbrev end : Point
  end = looks_to t (record t { world = q.world; looked = m }) (made_with m w (is_gone a) f) (steps_by n.deed)

  goes : LeadsTo row (done_steps m w (is_gone a) (steps_in i.after) ++ steps) end
  goes =
      let l = deed_leads row steps t m w (is_gone a) run.leads late n.deed q.world does happened in
      let feedback_back = sym n.feedback in
      let steps_back = sym n.steps in
      subst (λ (k : Feedback × List Step). LeadsTo row (done_steps m w (is_gone a) k.1 ++ steps) (looks_to t (record t { world = q.world; looked = m }) (made_with m w (is_gone a) k.0) (steps_by n.deed))) (λ j. (feedback_back j, steps_back j)) l

  offered_here : IsOffered row p.history.life (map (with_feedback uncounted) t.life.side.events) x taken now
  offered_here = record {
    before = n.before;
    cut = record { are_parts = n.are_parts; looks = sym n.looks };
    arrival = λ g k. comes g ∙ ap (λ l. first_of l taken) (sym (comings_with uncounted t.life.side.events));
    count = counts (is_gone a) (takes i.after) (may_take o n.before && not (is_nothing a)) taken n.taken;
  }

  here : IsOffered row (record { opening = t.life.side.opening; looks = p.history.life.looks }) (map (with_feedback uncounted) t.life.side.events) x taken now
  here =
      subst (λ (k : Opening). IsOffered row (record { opening = k; looks = p.history.life.looks }) (map (with_feedback uncounted) t.life.side.events) x taken now) run.low.0 offered_here

  pub look_on : HasLooked row steps t p.history run m w a f i.after q.world
  look_on = record {
    to = end;
    run_on = record {
      leads = goes;
      low = (run.low.0, (now, (refl, taken, here, run.low.1.1)), run.low.2);
      feedback = ap (told_also f) run.feedback;
      places = (((i.after, i.cut_with, sym n.steps), run.places.0), run.places.1);
    };
    world = refl;
    high = refl;
    late = refl;
    events = refl;
    count = refl;
    some = λ g k. second (may_take o n.before) (is_nothing a) (sym (n.taken g) ∙ k);
    leaves = deed_leaves n.deed t.world q.world happened;
  }
