-- What a script's session has been through is a timed run: line by line.
use Rattle.std.proofs.Common.{◌≡◌, ℕ, ◌+◌, ◌≤◌, Bool, true, false, List, [], ◌∷◌, ◌++◌, map, Option, Some, None, refl, sym, ap, subst, arith, append_assoc}
use Rattle.std.specs.Prelude.{◌==◌, ◌&&◌, ◌||◌, ◌^◌, nat_le, not, reverse}
use Rattle.std.proofs.lemmas.Bool.{and_parts}
use Rattle.std.proofs.lemmas.Bool.Decides.{nat_tests}
use Rattle.pump_frame.specs.declared.frame.Frame.{Frame}
use Rattle.pump_frame.specs.declared.row.SessionRow.{SessionRow}
use Rattle.pump_frame.specs.Readings.{Reading, Within, Stopped}
use Rattle.pump_core.specs.declared.event.Event.TheVariants.{Crash}
use Rattle.pump_core.specs.History.{Arrival, Look, History}
use Rattle.pump_core.specs.Exchanges.{IsCut}
use Rattle.pump_core.specs.Runs.{steps_in}
use Rattle.pump_core.specs.Comings.{Coming, Whole, Broken}
use Rattle.pump_core.specs.Timed.{Step, Arrives, LowLook, Occurs, Point, opens}
use Rattle.script_reader.specs.declared.line.Arriving.{Arriving}
use Rattle.script_reader.specs.declared.line.Arriving.TheVariants as arriving
use Rattle.script_reader.specs.declared.line.Line.{Line}
use Rattle.script_reader.specs.declared.line.Line.TheVariants as lines
use Rattle.script_reader.specs.declared.event.Event.{Event}
use Rattle.script_reader.specs.Past.{Past}
use Rattle.script_reader.specs.Openings.{Openings, opened_world, first_past}
use Rattle.script_reader.specs.Highs.{IsHighLook, place}
use Rattle.script_reader.specs.Lows.{IsLook}
use Rattle.script_reader.specs.Steps as coming
use Rattle.script_reader.specs.Steps.{bad_of, came, IsRead, Arrives as ArrivesWith, joined, lost, goes_on, is_timely, IsCarriedBack as CarriesOn, LineStep}
use Rattle.script_reader.specs.Scripts.{Running, Begun, Whole as WholeSession, Alone, GoesWhole, GoesOn as GoesOn, made_coarse, Leads, LeadTo}
use Rattle.script_reader.proofs.Leading.{IsNew, led}
use Rattle.world_laws.specs.Timelines.{arrived, IsTimeline, high_steps, return_steps, carry_steps, AreLookSteps, AreDoneSteps, AreSteps, RunGoesOn}
use Rattle.world_laws.proofs.Timeline.Looks.{HasMore, both, all_come, offered_look, lost_look}
use Rattle.world_laws.proofs.Timeline.Highs.{high_look}
use Rattle.world_laws.proofs.Timeline.Lows.{done_steps}
use Rattle.world_laws.proofs.Timeline.Returns.{HasSome, return_look}
use Rattle.world_laws.proofs.Timeline.Restarts.{opened_timeline, restarts, receiver_restarts}
use Rattle.world_laws.proofs.Timeline.Carries.{carry}

-- ---- what comes with a line ----

abbrev Came : List Arrival → Type 0
Came added = (cs : List Coming) × (added ≡ map arrived cs)

frames_came : (frames : List Frame) (r : Reading) → Came (came frames ++ bad_of r)
frames_came [] (Within held) = ([], refl)
frames_came [] (Stopped at) = (Broken ∷ [], refl)
frames_came (f ∷ frames) r = let k = frames_came frames r in (Whole f ∷ k.0, ap (λ l. arrived (Whole f) ∷ l) k.1)

read_came : (r : Reading) (bytes : List ℕ) (c : coming.LineComing) → IsRead r bytes c → Came c.added
read_came (Within held) bytes c (frames, stream, e) = subst Came (sym e) (frames_came frames c.reading)
read_came (Stopped at) bytes c e = ([], ap (λ (d : coming.LineComing). d.added) e)

pub arrives_came : (session : ℕ) (r : Reading) (a : Arriving) (c : coming.LineComing) → ArrivesWith session r a c → Came c.added
arrives_came session r arriving.Nothing c e = ([], ap (λ (d : coming.LineComing). d.added) e)
arrives_came session r (arriving.Hello l n) c e = (Whole _ ∷ [], ap (λ (d : coming.LineComing). d.added) e)
arrives_came session r (arriving.Data n b) c e = (Whole _ ∷ [], ap (λ (d : coming.LineComing). d.added) e)
arrives_came session r (arriving.Raw bytes) c h = read_came r bytes.items c h

-- what the reader holds plays no part
elsewhere : (row : SessionRow) (p : Past) (steps : List Step) (t : Point) (r : Reading) → IsTimeline row p steps t → IsTimeline row (record p { reading = r }) steps t
elsewhere row p steps t r i = record { run = i.run; world = i.world; rest = i.rest; high = i.high; waits = i.waits; low_moment = i.low_moment; high_moment = i.high_moment }

-- the past with what comes added
joins : (row : SessionRow) (p : Past) (steps : List Step) (t : Point) (c : coming.LineComing) (k : Came c.added)
    → IsTimeline row p steps t → HasMore row (joined p c) steps (reverse (map (λ x. Arrives x) k.0))
joins row p steps t c k i =
    let more : List Step = reverse (map (λ x. Arrives x) k.0) in
    let (u, j) = all_come row p steps t k.0 i in
    (u, elsewhere row _ (more ++ steps) u c.reading (subst (λ (l : List Arrival). IsTimeline row (record p { waits = p.waits ++ l }) (more ++ steps) u) (sym k.1) j))

-- ---- a line ----

-- no moment falls
later : (session id p m : ℕ) → (session == id && nat_le p m) ≡ true → p ≤ m
later session id p m e = let k = (and_parts (session == id) (nat_le p m) e).1 in grind (arith, nat_tests)

high_moment : (row : SessionRow) (p : Past) (m : ℕ) (back : Option ℕ) (q : Past) (printed : List Event) → IsHighLook row p m back q printed → q.moment ≡ m
high_moment row p m back q printed (mid, first, second, r, k, e) = ap (λ (x : Past). x.moment) k.rest

-- after the high look of `done`
done_on : (row : SessionRow) (hand : Option ℕ) (p : Past) (steps : List Step) (t : Point) (m : ℕ) (q : Past) (printed : List Event)
    → IsTimeline row p steps t → p.moment ≤ m → CarriesOn row hand p m q printed → HasSome row q steps (AreDoneSteps row hand p m q)
done_on row None p steps t m q printed i le (e, k) = ([], (t, subst (λ (x : Past). IsTimeline row x steps t) (sym e) i), refl)
done_on row (Some n) p steps t m q printed i le (mid, first, second, c, h, e) =
    let k = place mid.world.returned 0 in
    let same : mid.moment ≡ p.moment = ap (λ (x : Past). x.moment) c.rest in (
      return_steps m k mid q ++ carry_steps 0 p mid,
      both row mid q steps (carry_steps 0 p mid) (return_steps m k mid q) (carry row p steps t 0 mid first i c)
          (λ past u j. return_look row mid past u m k q second j (omega (arith, le, same)) h),
      (mid, first, c, refl),
    )

-- a run goes on by these steps of the line
goes_by : (row : SessionRow) (p : Past) (line : Line) (steps : List Step) (q : Past) (more : List Step) → HasMore row q steps more → AreSteps row p line q more
    → RunGoesOn row p line steps q
goes_by row p line steps q more (t, i) are = (more, t, i, are)

-- the steps of a look stand in it
look_steps : (row : SessionRow) (p q : Past) (x : Look) (m w : ℕ) (gone : Bool) (printed : List Event) (i : IsLook row p x q printed) → AreLookSteps row q (LowLook m w gone false) (done_steps m w gone (steps_in i.after))
look_steps row p q x m w gone printed i = (i.after, subst (λ (h : History). IsCut row h.life i.after) (sym i.history) i.cut_with, refl)

-- a line goes on with any timed run of its session
pub line_goes : (row : SessionRow) (p : Past) (line : Line) (q : Past) (printed : List Event) (steps : List Step) (t : Point)
    → is_timely row p line ≡ true → LineStep row p line q printed → IsTimeline row p steps t → RunGoesOn row p line steps q
line_goes row p lines.Skip q printed steps t timely h i = absurd h
line_goes row p (lines.Session other) q printed steps t timely h i = absurd h
line_goes row p (lines.LowSession other next held) q printed steps t timely h i = absurd h
line_goes row p (lines.Coarse session) q printed steps t timely h i = absurd h
line_goes row p (lines.Told session m w fault told a) q printed steps t timely h i = absurd h
line_goes row p (lines.Step session m w) q printed steps t timely h i = absurd h
line_goes row p (lines.High session m) q printed steps t timely h i =
    goes_by row p (lines.High session m) steps q (high_steps m None p q) (high_look row p steps t m i (later session row.id p.moment m timely) false None q printed h) refl
line_goes row p (lines.Carry session back) q printed steps t timely h i =
    goes_by row p (lines.Carry session back) steps q (carry_steps back p q) (carry row p steps t back q printed i h) refl
line_goes row p (lines.Return session m back) q printed steps t timely h i =
    let k = (and_parts (session == row.id) _ timely).1 in
    let l = (and_parts (nat_le p.moment m) _ k).0 in
    goes_by row p (lines.Return session m back) steps q (return_steps m (place p.world.returned back) p q)
    (return_look row p steps t m (place p.world.returned back) q printed i (grind (arith, nat_tests)) h) refl
line_goes row p (lines.Look session m w a) q printed steps t timely (c, comes, (few, (f, look))) i =
    let le = later session row.id p.moment m timely in
    let k = arrives_came session p.reading a c comes in
    let brought = reverse (map (λ x. Arrives x) k.0) in
    let of_look = done_steps m w false (steps_in look.after) in
    goes_by row p (lines.Look session m w a) steps q (of_look ++ brought)
    (both row (joined p c) q steps brought of_look (joins row p steps t c k i)
    (λ past u j. offered_look row (joined p c) past u m w f q printed j le look))
    (c, comes, k.0, k.1, (of_look, look_steps row (joined p c) q _ m w false printed look, refl))
line_goes row p (lines.Gone session m) q printed steps t timely (f, look) i =
    goes_by row p (lines.Gone session m) steps q (done_steps m 0 true (steps_in look.after))
    (lost_look row p steps t m 0 f q printed i (later session row.id p.moment m timely) look)
    (look_steps row (lost p) q _ m 0 true printed look)
line_goes row p (lines.Done session m time) q printed steps t timely (mid, first, second, h, g, e) i =
    let parts = (and_parts (session == row.id) (nat_le p.moment m && (not (goes_on p.world) || nat_le (m + time) (2 ^ 62))) timely).1 in
    let k = (and_parts (nat_le p.moment m) (not (goes_on p.world) || nat_le (m + time) (2 ^ 62)) parts).0 in
    let le : p.moment ≤ m = grind (arith, nat_tests) in
    let at = high_moment row p m None mid first h in
    let (u, j) = high_look row p steps t m i le false None mid first h in
    let (more, on, are) = done_on row mid.world.high_hand mid (high_steps m None p mid ++ steps) u (m + time) q second j (omega (arith, at)) g in
    goes_by row p (lines.Done session m time) steps q (more ++ high_steps m None p mid)
    (on.0, subst (λ (l : List Step). IsTimeline row q l on.0) (sym (append_assoc more (high_steps m None p mid) steps)) on.1)
    (mid, first, h, (more, are, refl))
line_goes row p (lines.Restart session m) q printed steps t timely h i =
    goes_by row p (lines.Restart session m) steps q (Occurs (Crash (Some (false, false)) None) ∷ [])
    (restarts row p steps t i m q printed (later session row.id p.moment m timely) h) refl
line_goes row p (lines.ReceiverRestart session m) q printed steps t timely h i =
    receiver_restarts row p steps t i session m q printed (later session row.id p.moment m timely) h

-- ---- a script ----

-- the whole session that runs has a timed run
abbrev pub HasRun : Option Begun → Type 0
HasRun None = Unit {0}
HasRun (Some (WholeSession s)) = (steps : List Step) × (t : Point) × IsTimeline s.row s.past steps t
HasRun (Some (Alone s)) = Unit {0}

goes_run : (s : Running) (line : Line) (after : Option Begun) (printed : List Event) → GoesWhole s line after printed → HasRun (Some (WholeSession s)) → HasRun after
goes_run s line after printed (timely, (q, step, e)) (steps, t, i) =
    let (more, u, k, out) = line_goes s.row s.past line q printed steps t timely step i in
    subst HasRun (sym e) (more ++ steps, u, k)

goes_on_run : (s : Begun) (line : Line) (after : Option Begun) (printed : List Event) → GoesOn s line after printed → HasRun (Some s) → HasRun after
goes_on_run (WholeSession s) line after printed h k = goes_run s line after printed h k
goes_on_run (Alone s) line after printed (timely, (q, step, e)) k = subst HasRun (sym e) tt

new_run : (o : Openings) (s : Begun) → IsNew o s → HasRun (Some s)
new_run o (WholeSession s) (lawful, can, e) =
    let f = o s.row.id in
    let begun : (steps : List Step) × (t : Point) × IsTimeline s.row (first_past s.row f) steps t = ([], opens (opened_world s.row f), opened_timeline s.row f lawful can) in
    subst (λ (p : Past). (steps : List Step) × (t : Point) × IsTimeline s.row p steps t) (sym e) begun
new_run o (Alone s) new = tt

leads_run : (o : Openings) (running after : Option Begun) (line : Line) (printed : List Event) → Leads o running line after printed → HasRun running → HasRun after
leads_run o running after line printed h k =
    led o running line after printed h
    (λ skip same none. subst HasRun (sym same) k)
    (λ s none new e printed_none. subst HasRun (sym e) (new_run o s new))
    (λ s e goes. goes_on_run s line after printed goes (subst HasRun e k))
    (λ s session some is new made e printed_none. subst HasRun (sym e) (new_run o (made_coarse s) made))

pub script_runs : (o : Openings) (running : Option Begun) (script : List Line) (after : Option Begun) (printed : List Event) → LeadTo o running script after printed → HasRun running → HasRun after
script_runs o running [] after printed (e, f) k = subst HasRun (sym e) k
script_runs o running (line ∷ script) after printed (mid, first, second, h, rest, e) k = script_runs o mid script after second rest (leads_run o running mid line first h k)

-- the session, or else this one
abbrev session_in : Running → Option Begun → Running
session_in other None = other
session_in other (Some (WholeSession s)) = s
session_in other (Some (Alone s)) = other

same_session : (s u : Running) → Some (WholeSession s) ≡ Some (WholeSession u) → s ≡ u
same_session s u e = ap (λ o. session_in s o) e

-- the same of a line that leads from a session that runs
pub line_is_steps : (s : Running) (line : Line) (q : Past) (printed : List Event) (steps : List Step) (t : Point)
    → GoesWhole s line (Some (WholeSession (record { row = s.row; past = q }))) printed → IsTimeline s.row s.past steps t → RunGoesOn s.row s.past line steps q
line_is_steps s line q printed steps t (timely, (q', step, e)) i =
    let same : record { row = s.row; past = q } ≡ record { row = s.row; past = q' } = same_session _ _ e in
    subst (λ (x : Past). RunGoesOn s.row s.past line steps x) (sym (ap (λ (r : Running). r.past) same)) (line_goes s.row s.past line q' printed steps t timely step i)
