-- A look of a script goes on with a timed run of its session, and so does what comes before it.
use Rattle.std.proofs.Common.{◌≡◌, ℕ, ◌+◌, ◌≤◌, Bool, true, false, List, [], ◌∷◌, ◌++◌, map, drop, refl, sym, ap, ◌∙◌, subst, arith, append_assoc, append-nil}
use Rattle.std.specs.Prelude.{if◌then◌else◌, ◌&&◌, ◌||◌, reverse}
use Rattle.std.proofs.Math.Bool.{or-false}
use Rattle.std.proofs.lemmas.List.{reverse-append}
use Rattle.pump_frame.specs.declared.row.SessionRow.{SessionRow}
use Rattle.pump_core.specs.declared.feedback.Feedback.{Feedback}
use Rattle.pump_core.specs.History.{Arrival, Gone, History, looked}
use Rattle.pump_core.specs.Exchanges.{is_gone}
use Rattle.pump_core.specs.Replies.{takes}
use Rattle.pump_core.specs.Comings.{Coming, comings, is_nothing, taken_after}
use Rattle.pump_core.specs.Sendings.{Sending}
use Rattle.pump_core.specs.Timed.{Step, HighSide, Arrives, Point}
use Rattle.pump_core.specs.Runs.{steps_in, IsRun}
use Rattle.pump_core.proofs.Onward.{arrives_to}
use Rattle.script_reader.specs.declared.event.Event.{Event}
use Rattle.script_reader.specs.Past.{Past}
use Rattle.script_reader.specs.Lows.{first_of, is_bad, IsLook}
use Rattle.script_reader.specs.Steps.{lost, look_of}
use Rattle.world_laws.specs.Timelines.{taken_in, arrived, AreLeft, IsAtRest, HasSent, IsTimeline}
use Rattle.world_laws.proofs.Timeline.Lows.{done_steps, HasLooked, look_on}
use Rattle.world_laws.proofs.Timeline.Waits.{comes_more, offered_first, offers_no_gone, takes_first}

-- ---- a timed run of a past ----

-- the run of a history that is the past's
pub timeline : (row : SessionRow) (q : Past) (steps : List Step) (t : Point) (h : History) → q.history ≡ h
    → (run : IsRun row steps t h) → t.world ≡ q.world → IsAtRest q.world → HasSent q.times q.sends t.high
    → AreLeft (comings t.life.side.events) (taken_in row steps t h run) q.waits q.is_broken
    → t.looked ≤ q.moment → t.high.moment ≤ q.moment → IsTimeline row q steps t
timeline row q steps t h e run world rest high left low_moment high_moment =
    let r = subst (λ (k : History). (run : IsRun row steps t k) × AreLeft (comings t.life.side.events) (taken_in row steps t k run) q.waits q.is_broken) (sym e) (run, left) in
    record { run = r.0; world = world; rest = rest; high = high; waits = r.1; low_moment = low_moment; high_moment = high_moment }

-- the session's timed run went on by more steps
abbrev pub HasMore : SessionRow → Past → List Step → List Step → Type 0
HasMore row q steps more = (t : Point) × IsTimeline row q (more ++ steps) t

-- two times on
pub both : (row : SessionRow) (mid q : Past) (steps first second : List Step) → HasMore row mid steps first
    → ((past : List Step) (t : Point) → IsTimeline row mid past t → HasMore row q past second) → HasMore row q steps (second ++ first)
both row mid q steps first second (t, i) next =
    let (u, k) = next (first ++ steps) t i in
    (u, subst (λ (l : List Step). IsTimeline row q l u) (sym (append_assoc second first steps)) k)

-- ---- what comes ----

-- one more comes
pub one_comes : (row : SessionRow) (p : Past) (steps : List Step) (t : Point) (c : Coming) → IsTimeline row p steps t
    → IsTimeline row (record p { waits = p.waits ++ arrived c ∷ [] }) (Arrives c ∷ steps) (arrives_to t c)
one_comes row p steps t c i = record {
  run = record { leads = (t, i.run.leads, refl); low = i.run.low; feedback = i.run.feedback; places = i.run.places };
  world = i.world;
  rest = i.rest;
  high = i.high;
  waits = comes_more (comings t.life.side.events) (taken_in row steps t p.history i.run) p.waits p.is_broken c i.waits;
  low_moment = i.low_moment;
  high_moment = i.high_moment;
}

pub all_come : (row : SessionRow) (p : Past) (steps : List Step) (t : Point) (cs : List Coming) → IsTimeline row p steps t
    → HasMore row (record p { waits = p.waits ++ map arrived cs }) steps (reverse (map (λ k. Arrives k) cs))
all_come row p steps t [] i =
    (t, subst (λ (ws : List Arrival). IsTimeline row (record p { waits = ws }) steps t) (sym (append-nil p.waits)) i)
all_come row p steps t (c ∷ cs) i =
    let one : Past = record p { waits = p.waits ++ arrived c ∷ [] } in
    let (u, k) = all_come row one (Arrives c ∷ steps) (arrives_to t c) cs (one_comes row p steps t c i) in
    let later : List Step = reverse (map (λ k. Arrives k) cs) in
    let steps_so : later ++ Arrives c ∷ steps ≡ reverse (map (λ k. Arrives k) (c ∷ cs)) ++ steps =
    sym (append_assoc later (Arrives c ∷ []) steps) ∙ ap (λ l. l ++ steps) (sym (reverse-append (Arrives c ∷ []) (map (λ k. Arrives k) cs))) in
    let waits_so = append_assoc p.waits (arrived c ∷ []) (map arrived cs) in
    (u, subst (λ (s : List Step × List Arrival). IsTimeline row (record p { waits = s.1 }) s.0 u) (λ j. (steps_so j, waits_so j)) k)

-- ---- a look ----

module _ (row : SessionRow) (p : Past) (steps : List Step) (t : Point) (m w : ℕ) (a : Arrival) (f : Feedback) (q : Past) (printed : List Event)
    (run : IsRun row steps t p.history) (world : t.world ≡ p.world) (i : IsLook row p (look_of m w a f) q printed) where
  -- what the run comes to is the session's after the look
  after_look : (l : HasLooked row steps t p.history run m w a f i.after q.world)
      → IsAtRest p.world → HasSent p.times p.sends t.high → t.high.moment ≤ m
      → AreLeft (comings l.to.life.side.events) (taken_in row (done_steps m w (is_gone a) (steps_in i.after) ++ steps) l.to (looked p.history (look_of m w a f)) l.run_on) q.waits q.is_broken
      → HasMore row q steps (done_steps m w (is_gone a) (steps_in i.after))
  after_look l rest high high_moment left =
      let times_back = sym i.times in
      let sends_back = sym i.sends in
      let high_back = sym l.high in
      let high_same : l.to.high.moment ≡ t.high.moment = ap (λ (h : HighSide). h.moment) l.high in
      let late = l.late in
      let moment = i.moment in (
        l.to,
        timeline row q (done_steps m w (is_gone a) (steps_in i.after) ++ steps) l.to (looked p.history (look_of m w a f)) i.history l.run_on l.world
            (l.leaves.rest (subst IsAtRest (sym world) rest))
            (subst (λ (k : List ℕ × List Sending × HighSide). HasSent k.0 k.1 k.2) (λ j. (times_back j, sends_back j, high_back j)) high)
            left (omega (arith, late, moment)) (omega (arith, high_same, high_moment, moment)),
      )

-- what waits after a look that may take the first of it
pub left_after : (came : List Coming) (taken : ℕ) (waits : List Arrival) (behind takes : Bool) → AreLeft came taken waits behind
    → (takes ≡ true → is_nothing (first_of behind waits) ≡ false)
    → AreLeft came (if takes then taken + 1 else taken) (if takes then drop 1 waits else waits) (behind || (takes && is_bad (first_of behind waits)))
left_after came taken waits behind true left some = takes_first came taken waits behind left (some refl)
left_after came taken waits behind false left some =
    subst (λ (b : Bool). AreLeft came taken waits b) (sym (or-false behind)) left

-- a look that is offered what waits
pub offered_look : (row : SessionRow) (p : Past) (steps : List Step) (t : Point) (m w : ℕ) (f : Feedback) (q : Past) (printed : List Event)
    → IsTimeline row p steps t → p.moment ≤ m → (i : IsLook row p (look_of m w (first_of p.is_broken p.waits) f) q printed)
    → HasMore row q steps (done_steps m w false (steps_in i.after))
offered_look row p steps t m w f q printed k late i =
    let came = comings t.life.side.events in
    let taken = taken_in row steps t p.history k.run in
    let a = first_of p.is_broken p.waits in
    let stays = offers_no_gone came taken p.waits p.is_broken k.waits in
    let low_moment = k.low_moment in
    let high_moment = k.high_moment in
    let l : HasLooked row steps t p.history k.run m w a f i.after q.world =
    look_on row p steps t m w a f q printed k.run k.world k.high.times (omega (arith, low_moment, late)) (λ g. offered_first came taken p.waits p.is_broken k.waits) i in
    let left = left_after came taken p.waits p.is_broken (takes i.after) k.waits (λ e. l.some stays e) in
    let events : comings l.to.life.side.events ≡ came = ap comings l.events ∙ ap (λ (b : Bool). if b then [] else came) stays in
    let count : taken_in row (done_steps m w (is_gone a) (steps_in i.after) ++ steps) l.to (looked p.history (look_of m w a f)) l.run_on ≡ (if takes i.after then taken + 1 else taken) =
    l.count ∙ ap (λ b. taken_after b (takes i.after) taken) stays in
    let events_back = sym events in
    let count_back = sym count in
    let waits_back = sym i.waits in
    let broken_back = sym i.broken in
    subst (λ (b : Bool). HasMore row q steps (done_steps m w b (steps_in i.after))) stays
    (after_look row p steps t m w a f q printed k.run k.world i l k.rest k.high (omega (arith, high_moment, late))
    (subst (λ (u : List Coming × ℕ × List Arrival × Bool). AreLeft u.0 u.1 u.2 u.3) (λ j. (events_back j, count_back j, waits_back j, broken_back j)) left))

pub none_left : (takes : Bool) (waits : List Arrival) (behind : Bool) → waits ≡ (if takes then [] else []) → behind ≡ (takes && false)
    → AreLeft [] 0 waits behind
none_left true waits behind e k = record { came_before = omega arith; rest = e; behind = k }
none_left false waits behind e k = record { came_before = omega arith; rest = e; behind = k }

-- a look with the news that the connection is lost
pub lost_look : (row : SessionRow) (p : Past) (steps : List Step) (t : Point) (m w : ℕ) (f : Feedback) (q : Past) (printed : List Event)
    → IsTimeline row p steps t → p.moment ≤ m → (i : IsLook row (lost p) (look_of m w Gone f) q printed)
    → HasMore row q steps (done_steps m w true (steps_in i.after))
lost_look row p steps t m w f q printed k late i =
    let low_moment = k.low_moment in
    let high_moment = k.high_moment in
    let l : HasLooked row steps t p.history k.run m w Gone f i.after q.world =
    look_on row (lost p) steps t m w Gone f q printed k.run k.world k.high.times (omega (arith, low_moment, late)) (λ g. absurd (cc)) i in
    let left = none_left (takes i.after) q.waits q.is_broken i.waits i.broken in
    let events_back = sym (ap comings l.events) in
    let count_back = sym l.count in
    after_look row (lost p) steps t m w Gone f q printed k.run k.world i l k.rest k.high (omega (arith, high_moment, late))
    (subst (λ (u : List Coming × ℕ). AreLeft u.0 u.1 q.waits q.is_broken) (λ j. (events_back j, count_back j)) left)
