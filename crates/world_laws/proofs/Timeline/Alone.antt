-- What comes to a low side alone, and its looks, line by line.
use Rattle.std.proofs.Common.{◌≡◌, ℕ, Bool, true, false, List, [], ◌∷◌, ◌++◌, map, Option, Some, None, refl, sym, ap, ◌∙◌, subst, arith, append_assoc, append-nil}
use Rattle.std.specs.Prelude.{if◌then◌else◌, ◌&&◌, not, reverse}
use Rattle.std.proofs.lemmas.List.{reverse-append}
use Rattle.pump_frame.specs.declared.row.SessionRow.{SessionRow}
use Rattle.pump_core.specs.declared.feedback.Feedback.{Feedback}
use Rattle.pump_core.specs.History.{Arrival, Gone, Look, Opening, History, looked}
use Rattle.pump_core.specs.Exchanges.{is_gone}
use Rattle.pump_core.specs.Replies.{takes}
use Rattle.pump_core.specs.Pairs.{uncounted}
use Rattle.pump_core.specs.Comings.{Coming, Timed, Comes, Looks, HasSides, comings, offer, may_take, is_nothing, taken_after, IsOffered}
use Rattle.script_reader.specs.declared.line.Line.{Line}
use Rattle.script_reader.specs.declared.line.Line.TheVariants as lines
use Rattle.script_reader.specs.declared.line.ToldFeedback.{ToldFeedback}
use Rattle.script_reader.specs.declared.event.Event.{Event}
use Rattle.script_reader.specs.Lows.{first_of}
use Rattle.script_reader.specs.Openings.{Openings}
use Rattle.script_reader.specs.Alone.{PastAlone, fresh_alone, joined_alone, lost_alone, IsToldLook, StepAlone}
use Rattle.script_reader.specs.Scripts.{RunningAlone, Begun, Whole, Alone, GoesAlone, GoesOn, made_coarse, Leads, LeadTo}
use Rattle.script_reader.proofs.Leading.{IsNew, led}
use Rattle.world_laws.specs.Timelines.{arrived, AreLeft}
use Rattle.world_laws.specs.TimelinesAlone.{side_of, IsTimelineAlone, GoesOnAlone}
use Rattle.world_laws.proofs.Timeline.Cuts.{Newest, newest_of}
use Rattle.world_laws.proofs.Timeline.Looks.{left_after, none_left}
use Rattle.world_laws.proofs.Timeline.Lows.{made_with, counts, second}
use Rattle.world_laws.proofs.Timeline.Scripts.{arrives_came}
use Rattle.world_laws.proofs.Timeline.Waits.{comes_more, offered_first, offers_no_gone}

-- ---- what comes ----

one_comes : (row : SessionRow) (p : PastAlone) (events : List Timed) (c : Coming) → IsTimelineAlone row p events
    → IsTimelineAlone row (record p { waits = p.waits ++ arrived c ∷ [] }) (Comes c ∷ events)
one_comes row p events c i = record {
  sides = i.sides;
  waits = comes_more (comings events) i.sides.1.0 p.waits p.is_broken c i.waits;
}

all_come : (row : SessionRow) (p : PastAlone) (events : List Timed) (cs : List Coming) → IsTimelineAlone row p events
    → IsTimelineAlone row (record p { waits = p.waits ++ map arrived cs }) (reverse (map (λ k. Comes k) cs) ++ events)
all_come row p events [] i = subst (λ (ws : List Arrival). IsTimelineAlone row (record p { waits = ws }) events) (sym (append-nil p.waits)) i
all_come row p events (c ∷ cs) i =
    let k = all_come row (record p { waits = p.waits ++ arrived c ∷ [] }) (Comes c ∷ events) cs (one_comes row p events c i) in
    let later : List Timed = reverse (map (λ k. Comes k) cs) in
    let events_so : later ++ Comes c ∷ events ≡ reverse (map (λ k. Comes k) (c ∷ cs)) ++ events =
    sym (append_assoc later (Comes c ∷ []) events) ∙ ap (λ l. l ++ events) (sym (reverse-append (Comes c ∷ []) (map (λ k. Comes k) cs))) in
    let waits_so = append_assoc p.waits (arrived c ∷ []) (map arrived cs) in
    subst (λ (s : List Timed × List Arrival). IsTimelineAlone row (record p { waits = s.1 }) s.0) (λ j. (events_so j, waits_so j)) k

-- ---- a look ----

-- the look of a line in which no disk fails
abbrev told_look : ℕ → ℕ → Arrival → Feedback → Look
told_look m w a f = record { moment = m; word = w; arrival = a; is_fault = false; feedback = f }

module _ (row : SessionRow) (p : PastAlone) (events : List Timed) (m w : ℕ) (a : Arrival) (f : Feedback) (told : ToldFeedback) (q : PastAlone) (printed : List Event)
    (sides : HasSides row (side_of p events ∷ []) p.history) (comes : is_gone a ≡ false → a ≡ offer events sides.1.0) (i : IsToldLook row p told (told_look m w a f) q printed) where
  abbrev x : Look
  x = told_look m w a f

  abbrev o : Opening
  o = p.history.life.opening

  abbrev taken : ℕ
  taken = sides.1.0

  abbrev now : ℕ
  now = taken_after (is_gone a) (takes i.after) taken

  abbrev more : List Timed
  more = Looks (made_with m w (is_gone a) (uncounted f)) ∷ events

  n : Newest row o p.history.life.looks x i.after
  n = newest_of row o x p.history.life.looks i.after i.cut_with.are_parts (sym i.cut_with.looks) refl

  here : IsOffered row p.history.life events x taken now
  here = record {
    before = n.before;
    cut = record { are_parts = n.are_parts; looks = sym n.looks };
    arrival = λ g k. comes g;
    count = counts (is_gone a) (takes i.after) (may_take o n.before && not (is_nothing a)) taken n.taken;
  }

  -- what it takes is something
  some : is_gone a ≡ false → takes i.after ≡ true → is_nothing a ≡ false
  some g k = second (may_take o n.before) (is_nothing a) (sym (n.taken g) ∙ k)

  looks_on : AreLeft (comings more) now q.waits q.is_broken → IsTimelineAlone row q more
  looks_on left =
      let so : HasSides row (record { opening = o; events = more } ∷ []) (looked p.history x) = (sides.0, (now, (refl, taken, here, sides.1.1)), sides.2) in
      let r = subst (λ (h : History). (s : HasSides row (record { opening = h.life.opening; events = more } ∷ []) h) × AreLeft (comings more) s.1.0 q.waits q.is_broken) (sym i.history) (so, left) in
      record { sides = r.0; waits = r.1 }

-- a look that is offered what waits
offered_on : (row : SessionRow) (p : PastAlone) (events : List Timed) (m w : ℕ) (f : Feedback) (told : ToldFeedback) (q : PastAlone) (printed : List Event)
    → IsTimelineAlone row p events → IsToldLook row p told (told_look m w (first_of p.is_broken p.waits) f) q printed
    → IsTimelineAlone row q (Looks (made_with m w false (uncounted f)) ∷ events)
offered_on row p events m w f told q printed k i =
    let came = comings events in
    let taken = k.sides.1.0 in
    let a = first_of p.is_broken p.waits in
    let stays = offers_no_gone came taken p.waits p.is_broken k.waits in
    let comes : is_gone a ≡ false → a ≡ offer events taken = λ g. offered_first came taken p.waits p.is_broken k.waits in
    let left = left_after came taken p.waits p.is_broken (takes i.after) k.waits (λ e. some row p events m w a f told q printed k.sides comes i stays e) in
    let waits_back = sym i.waits in
    let broken_back = sym i.broken in
    let stays_back = sym stays in
    let left_so : AreLeft (if is_gone a then [] else came) (taken_after (is_gone a) (takes i.after) taken) q.waits q.is_broken =
    subst (λ (u : Bool × List Arrival × Bool). AreLeft (if u.0 then [] else came) (taken_after u.0 (takes i.after) taken) u.1 u.2) (λ j. (stays_back j, waits_back j, broken_back j)) left in
    subst (λ (b : Bool). IsTimelineAlone row q (Looks (made_with m w b (uncounted f)) ∷ events)) stays
    (looks_on row p events m w a f told q printed k.sides comes i left_so)

-- a look with the news that the connection is lost
lost_on : (row : SessionRow) (p : PastAlone) (events : List Timed) (m w : ℕ) (f : Feedback) (told : ToldFeedback) (q : PastAlone) (printed : List Event)
    → IsTimelineAlone row p events → IsToldLook row (lost_alone p) told (told_look m w Gone f) q printed
    → IsTimelineAlone row q (Looks (made_with m w true (uncounted f)) ∷ events)
lost_on row p events m w f told q printed k i =
    looks_on row (lost_alone p) events m w Gone f told q printed k.sides (λ g. absurd (cc)) i (none_left (takes i.after) q.waits q.is_broken i.waits i.broken)

-- ---- a line ----

pub low_line_goes : (row : SessionRow) (p : PastAlone) (line : Line) (q : PastAlone) (printed : List Event) (events : List Timed)
    → StepAlone row p line false q printed → IsTimelineAlone row p events → GoesOnAlone row p line events q
low_line_goes row p lines.Skip q printed events h i = absurd h
low_line_goes row p (lines.Session other) q printed events h i = absurd h
low_line_goes row p (lines.LowSession other next held) q printed events h i = absurd h
low_line_goes row p (lines.Coarse session) q printed events h i = absurd h
low_line_goes row p (lines.Look session m w a) q printed events h i = absurd h
low_line_goes row p (lines.High session m) q printed events h i = absurd h
low_line_goes row p (lines.Carry session back) q printed events h i = absurd h
low_line_goes row p (lines.Return session m back) q printed events h i = absurd h
low_line_goes row p (lines.Done session m time) q printed events h i = absurd h
low_line_goes row p (lines.Restart session m) q printed events h i = absurd h
low_line_goes row p (lines.ReceiverRestart session m) q printed events h i = absurd h
low_line_goes row p (lines.Step session m w) q printed events h i = absurd h
low_line_goes row p (lines.Gone session m) q printed events (f, look) i =
    (Looks (made_with m 0 true (uncounted f)) ∷ [], lost_on row p events m 0 f _ q printed i look, (uncounted f, refl))
low_line_goes row p (lines.Told session m w fault told a) q printed events (c, arrives, (few, (f, look))) i =
    let came = arrives_came session p.reading a c arrives in
    let brought : List Timed = reverse (map (λ k. Comes k) came.0) in
    let all = all_come row p events came.0 i in
    let joined : IsTimelineAlone row (joined_alone p fault c) (brought ++ events) =
    subst (λ (l : List Arrival). IsTimelineAlone row (record p { waits = p.waits ++ l; reading = c.reading; is_armed = (joined_alone p fault c).is_armed }) (brought ++ events)) (sym came.1) (record { sides = all.sides; waits = all.waits }) in (
      Looks (made_with m w false (uncounted f)) ∷ brought,
      offered_on row (joined_alone p fault c) (brought ++ events) m w f told q printed joined look,
      (c, arrives, came.0, came.1, (uncounted f, refl)),
    )

-- ---- a script ----

-- the low side that runs alone, and what happened to it
abbrev pub HasEvents : Option Begun → Type 0
HasEvents None = Unit {0}
HasEvents (Some (Whole s)) = Unit {0}
HasEvents (Some (Alone s)) = (events : List Timed) × IsTimelineAlone s.row s.past events

goes_on_events : (s : Begun) (line : Line) (after : Option Begun) (printed : List Event) → GoesOn s line after printed → HasEvents (Some s) → HasEvents after
goes_on_events (Whole s) line after printed (timely, (q, step, e)) k = subst HasEvents (sym e) tt
goes_on_events (Alone s) line after printed (timely, (q, step, e)) (events, i) =
    let (more, j, are) = low_line_goes s.row s.past line q printed events step i in
    subst HasEvents (sym e) (more ++ events, j)

new_events : (o : Openings) (s : Begun) → IsNew o s → HasEvents (Some s)
new_events o (Whole s) new = tt
new_events o (Alone s) (next, held, e) =
    let begun : (events : List Timed) × IsTimelineAlone s.row (fresh_alone next held) events =
    ([], record { sides = (refl, (0, refl), tt); waits = record { came_before = omega arith; rest = refl; behind = refl } }) in
    subst (λ (p : PastAlone). (events : List Timed) × IsTimelineAlone s.row p events) (sym e) begun

leads_events : (o : Openings) (running after : Option Begun) (line : Line) (printed : List Event) → Leads o running line after printed → HasEvents running → HasEvents after
leads_events o running after line printed h k =
    led o running line after printed h
    (λ skip same none. subst HasEvents (sym same) k)
    (λ s none new e printed_none. subst HasEvents (sym e) (new_events o s new))
    (λ s e goes. goes_on_events s line after printed goes (subst HasEvents e k))
    (λ s session some is new made e printed_none. subst HasEvents (sym e) (new_events o (made_coarse s) made))

pub script_events : (o : Openings) (running : Option Begun) (script : List Line) (after : Option Begun) (printed : List Event) → LeadTo o running script after printed → HasEvents running → HasEvents after
script_events o running [] after printed (e, f) k = subst HasEvents (sym e) k
script_events o running (line ∷ script) after printed (mid, first, second, h, rest, e) k = script_events o mid script after second rest (leads_events o running mid line first h k)

-- the low side, or else this one
abbrev low_in : RunningAlone → Option Begun → RunningAlone
low_in other None = other
low_in other (Some (Whole s)) = other
low_in other (Some (Alone s)) = s

pub low_line_is_events : (s : RunningAlone) (line : Line) (q : PastAlone) (printed : List Event) (events : List Timed)
    → GoesAlone s line (Some (Alone (record { row = s.row; past = q }))) printed → IsTimelineAlone s.row s.past events → GoesOnAlone s.row s.past line events q
low_line_is_events s line q printed events (timely, (q', step, e)) i =
    let same : record { row = s.row; past = q } ≡ record { row = s.row; past = q' } = ap (low_in s) e in
    subst (λ (x : PastAlone). GoesOnAlone s.row s.past line events x) (sym (ap (λ (r : RunningAlone). r.past) same)) (low_line_goes s.row s.past line q' printed events step i)
