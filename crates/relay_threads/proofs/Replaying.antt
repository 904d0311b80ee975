-- A record replays to its own `low` lines.
use Rattle.std.proofs.Common.{◌≡◌, ℕ, ◌≤◌, Bool, true, false, List, [], ◌∷◌, ◌++◌, max, Option, Some, None, refl, sym, ap, ◌∙◌, subst, append-nil, append_assoc, arith}
use Rattle.std.specs.Prelude.{if◌then◌else◌, ◌&&◌, ◌||◌, ◌==◌, not, nat_le, nat_lt, drop, is_some}
use Rattle.std.specs.List.{AllByRecursion}
use Rattle.std.proofs.lemmas.List.Elements.{filter-append}
use Rattle.std.proofs.lemmas.Bool.{eqb-false, le-leb, le-ltb}
use Rattle.disk_model.specs.declared.name.Role.TheVariants as roles
use Rattle.pump_frame.specs.declared.frame.Frame.{Frame}
use Rattle.pump_frame.specs.declared.row.SessionRow.{SessionRow}
use Rattle.pump_frame.specs.Rows.{IsLawfulRow}
use Rattle.pump_frame.specs.Readings.{Reading, Within}
use Rattle.pump_core.specs.declared.feedback.Feedback.{Feedback}
use Rattle.pump_core.specs.declared.feedback.Feedback.TheVariants as feedbacks
use Rattle.pump_core.specs.Phases.{Phase}
use Rattle.pump_core.specs.Phases.{Idle, Passing, Waiting as Waits, Down}
use Rattle.pump_core.specs.History.{Arrival, Look, Opening, History, looked, first_life}
use Rattle.pump_core.specs.History.{Nothing, Came, Bad, Gone}
use Rattle.pump_core.specs.Exchanges.{is_gone, count_after, Part}
use Rattle.pump_core.specs.Replies.{Sent, sent, LowReplies}
use Rattle.pump_core.specs.Step.{after, reply_at, reply_in, takes_at, takes_in, fits_in, FeedbackFits, is_full, is_quiet}
use Rattle.pump_core.specs.Standing.{State, StandsAt, end_of, last_moment}
use Rattle.pump_core.proofs.Cuts.{one_cut}
use Rattle.low_process.specs.Looks.{look_of}
use Rattle.script_reader.specs.declared.event.Event.{Event}
use Rattle.script_reader.specs.declared.event.Event.TheVariants.{End}
use Rattle.script_reader.specs.declared.fault.Fault.TheVariants.{Device}
use Rattle.script_reader.specs.declared.line.Line.{Line}
use Rattle.script_reader.specs.declared.line.Line.TheVariants as lines
use Rattle.script_reader.specs.declared.line.ToldFeedback.{ToldFeedback}
use Rattle.script_reader.specs.declared.line.ToldFeedback.TheVariants as told
use Rattle.script_reader.specs.Alone.{PastAlone, lost_alone, joined_alone, tells_level, is_apt_alone, StepAlone, IsToldAt}
use Rattle.script_reader.specs.Lows.{printed_replies, is_bad}
use Rattle.script_reader.specs.Openings.{Openings}
use Rattle.script_reader.specs.Scripts.{Begun, Alone, coarsened, Leads, Stops}
use Rattle.script_reader.specs.Sessions.{session_in, begins_session, stands_first, moment_in, session_at, with_session, Sessions, no_sessions, led_to, is_from, is_in_turn, LeadsOne, ScriptLeads, StopsOne, ScriptStops, ScriptLeadsTo}
use Rattle.script_reader.proofs.Hearing.{Hears, quiet_is}
use Rattle.relay_threads.specs.Records.{Made, looks_made, replies_made, life_made, history_made, AreMade, passes_on, was_full, is_recorded, record_of}
use Rattle.relay_threads.specs.RecordLines.{taken_by, tells_fault, told_of, arriving_of, line_of, without_ports, told_row, opening_line, coarse_lines, comment_lines, looks_script, HasLawfulFrame}
use Rattle.relay_threads.specs.Replays.{is_reply, breaks, is_broken, has_bytes, AreConnected, TakeLawful, TellLevels, is_lost, low_events, reply_events, Replays, StopsAtLast}
use Rattle.relay_threads.proofs.Machine.{led, reply_led}
use Rattle.relay_threads.proofs.Kept.{thin_of, same_replies, recorded_at}
use Rattle.relay_threads.proofs.Alike.{same_gone, same_told, down_after}
use Rattle.relay_threads.proofs.Alike as alike
use Rattle.relay_threads.proofs.Telling.{low_of, replies_append, comes, waits_are, broken_is, unbroken_is, not_armed, armed_is, never_armed, hears_told, looked_past, stores_now, stood, replied, prints, told_look}

-- ---- the one session of a record's script ----

own_again : (n : ℕ) → (n == n) ≡ true
own_again n = elim (n == n) as (λ b. (n == n) ≡ b → b ≡ true) [ true ↦ λ e. refl | false ↦ λ e. absurd (eqb-false n n e refl) ] refl

not_below : (n : ℕ) → nat_lt n n ≡ false
not_below n = le-ltb n n (omega arith)

abbrev past : History → Bool → Reading → ℕ → PastAlone
past h broken r m = record { history = h; waits = []; is_broken = broken; reading = r; is_armed = false; moment = m }

abbrev alone : SessionRow → PastAlone → Begun
alone row p = Alone (record { row = row; past = p })

abbrev one_session : SessionRow → PastAlone → Bool → Sessions
one_session row p way = record { begun = alone row p ∷ []; moment = p.moment; is_under_way = way }

found : (row : SessionRow) (p : PastAlone) → session_at row.id (alone row p ∷ []) ≡ Some (alone row p)
found row p = ap (λ b. if b then Some (alone row p) else None) (own_again row.id)

placed : (row : SessionRow) (p q : PastAlone) → with_session (alone row q) (alone row p ∷ []) ≡ alone row q ∷ []
placed row p q =
    ap (λ (t : Bool × Bool). if t.0 then alone row q ∷ alone row p ∷ [] else (if t.1 then alone row q ∷ [] else alone row p ∷ alone row q ∷ [])) (λ i. (not_below row.id i, own_again row.id i))

under_way : (way : Bool) → (way || true) ≡ true
under_way true = refl
under_way false = refl

greater : (a b : ℕ) → a ≤ b → max a b ≡ b
greater a b le = omega arith

led_is : (row : SessionRow) (p q : PastAlone) (way : Bool) (line : Line) → p.moment ≤ q.moment → stands_first line ≡ false → led_to (one_session row p way) line (alone row q) ≡ one_session row q true
led_is row p q way line le plain = λ i. record {
  begun = placed row p q i;
  moment = greater p.moment q.moment le i;
  is_under_way = (ap (λ b. way || not b) plain ∙ under_way way) i;
}

in_turn : (row : SessionRow) (p : PastAlone) (way : Bool) (line : Line) (m : ℕ) → stands_first line ≡ false → moment_in line ≡ Some m → p.moment ≤ m → is_in_turn (one_session row p way) line ≡ true
in_turn row p way line m plain dated le =
    ap (λ (t : Bool × Option ℕ). if t.0 then (not way && (not (begins_session line) || nat_lt 1 16)) else is_from p.moment t.1) (λ i. (plain i, dated i)) ∙ le-leb p.moment m le

leads_on : (opens : Openings) (row : SessionRow) (p q : PastAlone) (way : Bool) (line : Line) (printed : List Event) → session_in line ≡ Some row.id → stands_first line ≡ false → moment_in line ≡ Some q.moment → p.moment ≤ q.moment
    → Leads opens (Some (alone row p)) line (Some (alone row q)) printed → ScriptLeads opens (one_session row p way) line (one_session row q true) printed
leads_on opens row p q way line printed named plain dated le goes =
    subst (λ (at : Option ℕ). LeadsOne opens (one_session row p way) line at (one_session row q true) printed) (sym named) (
      in_turn row p way line q.moment plain dated le,
      (
        alone row q,
        subst (λ (found : Option Begun). Leads opens found line (Some (alone row q)) printed) (sym (found row p)) goes,
        sym (led_is row p q way line le plain),
      ),
    )

stops_on : (row : SessionRow) (p q : PastAlone) (way : Bool) (line : Line) (printed : List Event) → session_in line ≡ Some row.id → stands_first line ≡ false → moment_in line ≡ Some q.moment → p.moment ≤ q.moment
    → Stops (Some (alone row p)) line (Some (alone row q)) printed (Device row.id roles.Low) → ScriptStops (one_session row p way) line (one_session row q true) printed (Device row.id roles.Low)
stops_on row p q way line printed named plain dated le goes =
    subst (λ (at : Option ℕ). StopsOne (one_session row p way) line at (one_session row q true) printed (Device row.id roles.Low)) (sym named) (
      in_turn row p way line q.moment plain dated le,
      (
        alone row q,
        subst (λ (found : Option Begun). Stops found line (Some (alone row q)) printed (Device row.id roles.Low)) (sym (found row p)) goes,
        sym (led_is row p q way line le plain),
      ),
    )

leads_then : (opens : Openings) (t : Sessions) (xs ys : List Line) (u v : Sessions) (first second : List Event) → ScriptLeadsTo opens t xs u first → ScriptLeadsTo opens u ys v second → ScriptLeadsTo opens t (xs ++ ys) v (first ++ second)
leads_then opens t [] ys u v first second (same, none) later =
    subst (λ (z : Sessions × List Event). ScriptLeadsTo opens z.0 ys v (z.1 ++ second)) (λ i. (same i, sym none i)) later
leads_then opens t (x ∷ xs) ys u v first second (mid, a, b, leads, rest, e) later =
    (mid, a, b ++ second, leads, leads_then opens mid xs ys u v b second rest later, ap (λ l. l ++ second) e ∙ append_assoc a b second)

comments_lead : (opens : Openings) (u : Sessions) (r : Option Frame) → ScriptLeadsTo opens u (comment_lines r) u []
comments_lead opens u None = (refl, refl)
comments_lead opens u (Some f) = (u, [], [], (refl, refl), (refl, refl), refl)

-- ---- a look ----

same_sent : (x x' : Look) (r : Option Frame) → x'.moment ≡ x.moment → sent x' r ≡ sent x r
same_sent x x' None e = refl
same_sent x x' (Some f) e = ap (λ m. record { moment = m; reply = f } ∷ []) e

stays_taken : (taken : Bool) (a : Arrival) → is_gone a ≡ false → is_gone (if taken then a else Nothing) ≡ false
stays_taken true a stays = stays
stays_taken false a stays = refl

gone_waits : (none : List Arrival) (taken : Bool) → none ≡ (if taken then none else none)
gone_waits none true = refl
gone_waits none false = refl

gone_armed : (stores : Bool) → false ≡ (not stores && false)
gone_armed true = refl
gone_armed false = refl

-- the low side alone before its first look
abbrev newly : Opening → PastAlone
newly o = past (first_life o) false (Within []) 0

again_placed : (row : SessionRow) (p q : PastAlone) → with_session (alone (coarsened row) q) (alone row p ∷ []) ≡ alone (coarsened row) q ∷ []
again_placed row p q =
    ap (λ (t : Bool × Bool). if t.0 then alone (coarsened row) q ∷ alone row p ∷ [] else (if t.1 then alone (coarsened row) q ∷ [] else alone row p ∷ alone (coarsened row) q ∷ []))
    (λ i. (not_below row.id i, own_again row.id i))

-- the second line of a coarse session's record
coarse_leads : (opens : Openings) (row : SessionRow) (o : Opening) (c : Bool)
    → ScriptLeadsTo opens (one_session (told_row row) (newly o) false) ((if c then lines.Coarse row.id ∷ [] else []) ++ [])
    (one_session (record (told_row row) { coarse = c }) (newly o) false) []
coarse_leads opens row o false = (refl, refl)
coarse_leads opens row o true =
    let r : SessionRow = told_row row in
    let after : Begun = alone (coarsened r) (newly o) in
    let goes : Leads opens (Some (alone r (newly o))) (lines.Coarse row.id) (Some after) [] =
    ((ap (λ b. b && true) (own_again row.id), (o.count, o.is_held, refl), refl), refl) in (
      one_session (coarsened r) (newly o) false,
      [],
      [],
      (
        refl,
        (
          after,
          subst (λ (found : Option Begun). Leads opens found (lines.Coarse row.id) (Some after) []) (sym (found r (newly o))) goes,
          λ i. record { begun = sym (again_placed r (newly o) (newly o)) i; moment = 0; is_under_way = false },
        ),
      ),
      (refl, refl),
      refl,
    )

-- a pair is a level for a row without its ports where it is one for the row
bare_levels : (row : SessionRow) (told : ToldFeedback) → tells_level (without_ports row) told ≡ tells_level row told
bare_levels row told.Quiet = refl
bare_levels row told.Full = refl
bare_levels row (told.Pair count average) = refl

module _ (opens : Openings) (row : SessionRow) (o : Opening) where
  abbrev bare : SessionRow
  bare = without_ports row

  -- what the lines of these looks lead to, where the low process has come to s
  pub record Told (made : List Made) (s : State) : Type 0 where
    pub history : History
    pub broken : Bool
    pub reading : Reading
    pub moment : ℕ
    pub way : Bool
    pub printed : List Event
    pub leads : ScriptLeadsTo opens no_sessions (opening_line row o ∷ (coarse_lines row ++ looks_script row made)) (one_session bare (past history broken reading moment) way) printed
    pub at : StandsAt bare s moment history
    pub replies : LowReplies bare history (replies_made made)
    pub newest : moment ≡ last_moment (looks_made made)
    pub breaking : broken ≡ is_broken made
    pub begun : broken ≡ false → reading ≡ Within []
    pub low : low_events printed ≡ reply_events row made

  begin : IsLawfulRow row → Told [] (end_of row o [])
  begin lawful = record {
    history = first_life o;
    broken = false;
    reading = Within [];
    moment = 0;
    way = false;
    printed = [];
    leads = (one_session (told_row row) (newly o) false, [], [], (refl, (alone (told_row row) (newly o), ((lawful, refl), refl), refl)), coarse_leads opens row o row.coarse, refl);
    at = record { earlier = tt; parts = []; cut = record { are_parts = tt; looks = refl }; state = refl; newest = refl; ordered = tt };
    replies = ([], [], refl, ([], record { are_parts = tt; looks = refl }, refl), refl);
    newest = refl;
    breaking = refl;
    begun = λ e. refl;
    low = refl;
  }

  -- what one more line does
  pub record Stepped (s : State) (before : List Made) (t : Told before s) (m : Made) : Type 0 where
    pub line : Line
    pub line_is : line_of row m ≡ line
    pub named : session_in line ≡ Some bare.id
    pub plain : stands_first line ≡ false
    pub dated : moment_in line ≡ Some m.look.moment
    pub history : History
    pub broken : Bool
    pub reading : Reading
    pub printed : List Event
    pub timely : is_apt_alone bare (past t.history t.broken t.reading t.moment) line ≡ true
    pub step : StepAlone bare (past t.history t.broken t.reading t.moment) line (tells_fault m.reply) (past history broken reading m.look.moment) printed
    pub leads : StepAlone bare (past t.history t.broken t.reading t.moment) line false (past history broken reading m.look.moment) printed
        → Leads opens (Some (alone bare (past t.history t.broken t.reading t.moment))) line (Some (alone bare (past history broken reading m.look.moment))) printed
    pub at : StandsAt bare (after row s m.look) m.look.moment history
    pub replies : LowReplies bare history (replies_made (m ∷ before))
    pub breaking : broken ≡ is_broken (m ∷ before)
    pub begun : broken ≡ false → reading ≡ Within []
    pub low : low_events printed ≡ printed_replies row.id (sent m.look m.reply)

  module _ (s : State) (before : List Made) (t : Told before s) (m w : ℕ) (d : Bool) (f : Feedback) (order : t.moment ≤ m) where
    abbrev p : PastAlone
    p = past t.history t.broken t.reading t.moment

    -- the look that was made
    abbrev x : Arrival → Look
    x a = look_of m w a d f

    abbrev pub mk : Arrival → Made
    mk a = record { look = x a; taken = takes_at s (x a); reply = reply_at row s (x a) }

    timely_now : (row.id == row.id && nat_le t.moment m) ≡ true
    timely_now = ap (λ (z : Bool × Bool). z.0 && z.1) (λ i. (own_again row.id i, le-leb t.moment m order i))

    apt_now : tells_level row (told_of row f) ≡ true → (row.id == row.id && (nat_le t.moment m && tells_level bare (told_of row f))) ≡ true
    apt_now level = ap (λ (z : Bool × Bool × Bool). z.0 && (z.1 && z.2)) (λ i. (own_again row.id i, le-leb t.moment m order i, (bare_levels row (told_of row f) ∙ level) i))

    told_step : (a : Arrival) → tells_level row (told_of row f) ≡ true → is_gone a ≡ false → FeedbackFits row s (x a) → HasLawfulFrame (taken_by (mk a)) → (is_broken before ≡ true → has_bytes (taken_by (mk a)) ≡ false) → line_of row (mk a) ≡ lines.Told row.id m w (tells_fault (mk a).reply) (told_of row f) (arriving_of (taken_by (mk a)))
        → Stepped s before t (mk a)
    told_step a level stays fits lawful free line_is =
        let same = same_told row s m w d f s.phase a stays fits in
        let x' : Look = alike.told row s m w d f a s.phase in
        let fault : Bool = tells_fault (mk a).reply in
        let c = comes bare.id t.broken t.reading (taken_by (mk a)) (stays_taken (takes_at s (x a)) a stays) lawful (λ e. free (sym t.breaking ∙ e)) t.begun in
        let pj : PastAlone = joined_alone p fault c.c in
        let hears : Hears bare (told_of row f) f = hears_told bare row f in
        let look = told_look bare s pj (told_of row f) x' (replies_made before) t.at t.replies same.fits order hears (breaks (taken_by (mk a)) t.broken)
        (armed_is (stores_now bare s pj (told_of row f) x' (replies_made before) t.at t.replies same.fits order hears) fault same.store)
        (waits_are (takes_at s (x a)) a c.c.added c.one c.none ∙ ap (λ b. if b then drop 1 c.c.added else c.c.added) (sym same.takes))
        (broken_is (takes_at s (x a)) t.broken a stays ∙ ap (λ b. t.broken || (b && is_bad (taken_by (mk a)))) (sym same.takes))
        (not_armed (stores_now bare s pj (told_of row f) x' (replies_made before) t.at t.replies same.fits order hears) fault same.store) in
        let out : List Event = prints bare s pj (told_of row f) x' (replies_made before) t.at t.replies same.fits order hears in
        let q : PastAlone = looked_past pj x' (breaks (taken_by (mk a)) t.broken) in
        let sends : sent x' (reply_at bare s x') ≡ sent (x a) (reply_at row s (x a)) = same_sent (x a) x' (reply_at bare s x') refl ∙ ap (sent (x a)) same.reply in
        record {
          line = lines.Told row.id m w fault (told_of row f) (arriving_of (taken_by (mk a)));
          line_is = line_is;
          named = refl;
          plain = refl;
          dated = refl;
          history = looked t.history x';
          broken = breaks (taken_by (mk a)) t.broken;
          reading = c.c.reading;
          printed = out;
          timely = apt_now level;
          step = (c.c, c.arrives, (c.few, subst (λ (z : Arrival). IsToldAt bare pj m w (told_of row f) z fault q out) (sym c.offered) (f, look)));
          leads = λ step. (apt_now level, (q, step, refl));
          at = subst (λ (z : State). StandsAt bare z m (looked t.history x')) same.after (stood bare s pj (told_of row f) x' (replies_made before) t.at t.replies same.fits order hears);
          replies = subst (λ (z : List Sent). LowReplies bare (looked t.history x') (replies_made before ++ z)) sends (replied bare s pj (told_of row f) x' (replies_made before) t.at t.replies same.fits order hears);
          breaking = ap (λ b. breaks (taken_by (mk a)) b) t.breaking;
          begun = c.reading;
          low = low_of bare.id m _ f (sent x' (reply_at bare s x')) ∙ ap (printed_replies row.id) sends;
        }

    -- ---- the connection is lost ----

    gone_fine : (ph : Phase) → tells_fault (reply_in row s (x Gone) ph) ≡ false
    gone_fine Down = refl
    gone_fine (Waits n at) = refl
    gone_fine (Passing owed) = refl
    gone_fine Idle = refl

    gone_quiet : (ph : Phase) → fits_in row s (x Gone) ph ≡ true → is_quiet f ≡ true
    gone_quiet Down fit = fit
    gone_quiet (Waits n at) fit = fit
    gone_quiet (Passing owed) fit = fit
    gone_quiet Idle fit = fit

    gone_step : FeedbackFits row s (x Gone) → takes_at s (x Gone) ≡ true → Stepped s before t (mk Gone)
    gone_step fits taken =
        let fault : Bool = tells_fault (mk Gone).reply in
        let same = same_gone row s m w d f fault s.phase fits in
        let x' : Look = look_of m 0 Gone fault f in
        let pl : PastAlone = lost_alone p in
        let hears : Hears bare told.Quiet f = subst (λ (z : Feedback). Hears bare told.Quiet z) (sym (quiet_is f (gone_quiet s.phase fits))) tt in
        let stores : Bool = stores_now bare s pl told.Quiet x' (replies_made before) t.at t.replies same.fits order hears in
        let look = told_look bare s pl told.Quiet x' (replies_made before) t.at t.replies same.fits order hears false
        (gone_fine s.phase ∙ never_armed stores) (gone_waits [] (takes_at s x')) (unbroken_is (takes_at s x')) (gone_armed stores) in
        let out : List Event = prints bare s pl told.Quiet x' (replies_made before) t.at t.replies same.fits order hears in
        let q : PastAlone = looked_past pl x' false in
        let sends : sent x' (reply_at bare s x') ≡ sent (x Gone) (reply_at row s (x Gone)) = same_sent (x Gone) x' (reply_at bare s x') refl ∙ ap (sent (x Gone)) same.reply in
        record {
          line = lines.Gone row.id m;
          line_is = refl;
          named = refl;
          plain = refl;
          dated = refl;
          history = looked t.history x';
          broken = false;
          reading = Within [];
          printed = out;
          timely = timely_now;
          step = (f, look);
          leads = λ step. (timely_now, (q, step, refl));
          at = subst (λ (z : State). StandsAt bare z m (looked t.history x')) same.after (stood bare s pl told.Quiet x' (replies_made before) t.at t.replies same.fits order hears);
          replies = subst (λ (z : List Sent). LowReplies bare (looked t.history x') (replies_made before ++ z)) sends (replied bare s pl told.Quiet x' (replies_made before) t.at t.replies same.fits order hears);
          breaking = sym (ap (λ b. breaks (if b then Gone else Nothing) (is_broken before)) taken);
          begun = λ e. refl;
          low = low_of bare.id m _ f (sent x' (reply_at bare s x')) ∙ ap (printed_replies row.id) sends;
        }

    pub stepped : (a : Arrival) → tells_level row (told_of row f) ≡ true → FeedbackFits row s (x a) → (is_gone a ≡ true → takes_at s (x a) ≡ true) → HasLawfulFrame (taken_by (mk a)) → (is_broken before ≡ true → has_bytes (taken_by (mk a)) ≡ false) → Stepped s before t (mk a)
    stepped Gone level fits takes lawful free = gone_step fits (takes refl)
    stepped Nothing level fits takes lawful free = told_step Nothing level refl fits lawful free refl
    stepped Bad level fits takes lawful free = told_step Bad level refl fits lawful free refl
    stepped (Came g) level fits takes lawful free = told_step (Came g) level refl fits lawful free refl

  -- ---- all looks ----

  -- the look took something, replied, or was told that the passage took a message or was full
  abbrev counts : Made → Bool
  counts m = m.taken || (is_some m.reply || (passes_on m.look.feedback || is_full m.look.feedback))

  -- the state after these looks
  abbrev state : (made : List Made) → AreMade row o made → State
  state made are = end_of row o (thin_of row o made are).parts

  -- one more look is a step of the machine
  record Moves (m : Made) (before : List Made) (are : AreMade row o (m ∷ before)) : Type 0 where
    fits : FeedbackFits row (state before are.1) m.look
    state_is : state (m ∷ before) are ≡ after row (state before are.1) m.look
    taken : m.taken ≡ takes_at (state before are.1) m.look
    reply : m.reply ≡ reply_at row (state before are.1) m.look

  moves : (m : Made) (before : List Made) (are : AreMade row o (m ∷ before)) → Moves m before are
  moves m before are =
      let t = thin_of row o before are.1 in
      let u = thin_of row o (m ∷ before) are in
      let is = are.0 in
      let one = led row o (looks_made before) m.look t.parts is.parts t.cut is.cut in
      record {
        fits = one.fits;
        state_is = (led row o (looks_made before) m.look t.parts u.parts t.cut u.cut).state;
        taken = is.taken ∙ one.newest.taken;
        reply = reply_led row (end_of row o t.parts) (last_moment (looks_made before)) (history_made o before) m.look m.reply (replies_made before) one.fits t.whole t.replies is.replies;
      }

  -- a process that is down does nothing that counts
  still : (s : State) (m : Made) → FeedbackFits row s m.look → m.taken ≡ takes_at s m.look → m.reply ≡ reply_at row s m.look → s.phase ≡ Down → counts m ≡ true → ⊥
  still s m fits taken reply down counted =
      let quiet : m.look.feedback ≡ feedbacks.Quiet = quiet_is m.look.feedback (sym (ap (fits_in row s m.look) down) ∙ fits) in
      let taken' : m.taken ≡ false = taken ∙ ap (takes_in m.look) down in
      let reply' : m.reply ≡ None = reply ∙ ap (reply_in row s m.look) down in
      let none : counts m ≡ false = ap (λ (z : Bool × Option Frame × Feedback). z.0 || (is_some z.1 || (passes_on z.2 || is_full z.2))) (λ i. (taken' i, reply' i, quiet i)) in
      cc

  lost_down : (made : List Made) (are : AreMade row o made) → is_lost made ≡ true → (state made are).phase ≡ Down
  lost_down [] are lost = absurd (cc)
  lost_down (m ∷ before) are lost =
      let v = moves m before are in
      let s = state before are.1 in
      ap (λ (z : State). z.phase) v.state_is ∙ down_after row s m.look.moment m.look.word m.look.is_fault m.look.feedback s.phase m.look.arrival (sym (ap tells_fault v.reply) ∙ lost)

  gone_taken : (s : State) (x : Look) (ph : Phase) → (ph ≡ Down → ⊥) → is_gone x.arrival ≡ true → takes_in x ph ≡ true
  gone_taken s x Down up gone = absurd (up refl)
  gone_taken s x (Waits n at) up gone = gone
  gone_taken s x (Passing owed) up gone = gone
  gone_taken s x Idle up gone = idle_gone x.arrival gone
    where
      idle_gone : (a : Arrival) → is_gone a ≡ true → Rattle.pump_core.specs.Step.takes_idle a ≡ true
      idle_gone Gone e = refl
      idle_gone Nothing e = absurd (cc)
      idle_gone Bad e = absurd (cc)
      idle_gone (Came f) e = absurd (cc)

  -- the step that a look's line makes
  step_of : (m : Made) (before : List Made) (are : AreMade row o (m ∷ before)) (t : Told before (state before are.1)) → counts m ≡ true → tells_level row (told_of row m.look.feedback) ≡ true → HasLawfulFrame (taken_by m) → (is_broken before ≡ true → has_bytes (taken_by m) ≡ false)
      → Stepped (state before are.1) before t m
  step_of m before are t counted level lawful free =
      let v = moves m before are in
      let s = state before are.1 in
      let x = m.look in
      let is_it : m ≡ mk s before t x.moment x.word x.is_fault x.feedback (subst (λ (n : ℕ). n ≤ x.moment) (sym t.newest) are.0.order) x.arrival = λ i. record { look = x; taken = v.taken i; reply = v.reply i } in
      let up : s.phase ≡ Down → ⊥ = λ down. still s m v.fits v.taken v.reply down counted in
      subst (λ (z : Made). Stepped s before t z) (sym is_it) (
      stepped s before t x.moment x.word x.is_fault x.feedback (subst (λ (n : ℕ). n ≤ x.moment) (sym t.newest) are.0.order) x.arrival level v.fits (gone_taken s x s.phase up)
      (subst (λ (z : Made). HasLawfulFrame (taken_by z)) is_it lawful)
      (subst (λ (z : Made). is_broken before ≡ true → has_bytes (taken_by z) ≡ false) is_it free)
      )

  low_then : (first second : List Event) (m : Made) (before : List Made) → low_events first ≡ reply_events row before → low_events second ≡ printed_replies row.id (sent m.look m.reply) → low_events (first ++ second) ≡ reply_events row (m ∷ before)
  low_then first second m before a b =
      filter-append is_reply first second ∙ ap (λ (z : List Event × List Event). z.0 ++ z.1) (λ i. (a i, b i)) ∙ sym (replies_append row.id (replies_made before) (sent m.look m.reply))

  -- .. which goes on where the device did not fail
  extend : (m : Made) (before : List Made) (are : AreMade row o (m ∷ before)) (t : Told before (state before are.1)) → Stepped (state before are.1) before t m → tells_fault m.reply ≡ false → Told (m ∷ before) (state (m ∷ before) are)
  extend m before are t st fine =
      let p : PastAlone = past t.history t.broken t.reading t.moment in
      let q : PastAlone = past st.history st.broken st.reading m.look.moment in
      let order = subst (λ (n : ℕ). n ≤ m.look.moment) (sym t.newest) are.0.order in
      let goes = st.leads (subst (λ (b : Bool). StepAlone bare p st.line b q st.printed) fine st.step) in
      let one = subst (λ (l : Line). ScriptLeads opens (one_session bare p t.way) l (one_session bare q true) st.printed) (sym st.line_is) (leads_on opens bare p q t.way st.line st.printed st.named st.plain st.dated order goes) in
      record {
        history = st.history;
        broken = st.broken;
        reading = st.reading;
        moment = m.look.moment;
        way = true;
        printed = t.printed ++ st.printed;
        leads = subst (λ (z : List Line). ScriptLeadsTo opens no_sessions (opening_line row o ∷ z) (one_session bare q true) (t.printed ++ st.printed)) (append_assoc (coarse_lines row) (looks_script row before) (line_of row m ∷ comment_lines m.reply))
            (leads_then opens no_sessions (opening_line row o ∷ (coarse_lines row ++ looks_script row before)) (line_of row m ∷ comment_lines m.reply) (one_session bare p t.way) (one_session bare q true) t.printed st.printed t.leads
            (one_session bare q true, st.printed, [], one, comments_lead opens (one_session bare q true) m.reply, sym (append-nil st.printed)));
        at = subst (λ (z : State). StandsAt bare z m.look.moment st.history) (sym (moves m before are).state_is) st.at;
        replies = st.replies;
        newest = refl;
        breaking = st.breaking;
        begun = st.begun;
        low = low_then t.printed st.printed m before t.low st.low;
      }

  abbrev Count : List Made → Type 0
  Count made = AllByRecursion (λ m. counts m ≡ true) made

  not_lost : (m : Made) (before : List Made) (are : AreMade row o (m ∷ before)) → counts m ≡ true → is_lost before ≡ false
  not_lost m before are counted =
      let v = moves m before are in
      elim (is_lost before) as (λ b. is_lost before ≡ b → b ≡ false) [ true ↦ λ e. absurd (still (state before are.1) m v.fits v.taken v.reply (lost_down before are.1 e) counted) | false ↦ λ e. refl ] refl

  told_all : IsLawfulRow row → (made : List Made) (are : AreMade row o made) → Count made → TellLevels row made → TakeLawful made → AreConnected made → is_lost made ≡ false → Told made (state made are)
  told_all lawful [] are count levels takes connected fine =
      let t = thin_of row o [] are in
      subst (λ (z : List Part). Told [] (end_of row o z)) (one_cut row (life_made o []) [] t.parts (record { are_parts = tt; looks = refl }) t.cut) (begin lawful)
  told_all lawful (m ∷ before) are count levels takes connected fine =
      let t = told_all lawful before are.1 count.1 levels.1 takes.1 connected.1 (not_lost m before are count.0) in
      extend m before are t (step_of m before are t count.0 levels.0 takes.0 connected.0) fine

  -- ---- the recorded looks ----

  counted : (before : List Made) (m : Made) → is_recorded before m ≡ true → counts m ≡ true
  counted before m e = by_bools m.taken (is_some m.reply) (passes_on m.look.feedback) (is_full m.look.feedback) (was_full before) e
    where
      by_bools : (a b c d w : Bool) → (a || (b || (c || (d && not w)))) ≡ true → (a || (b || (c || d))) ≡ true
      by_bools true b c d w e = refl
      by_bools false true c d w e = refl
      by_bools false false true d w e = refl
      by_bools false false false true w e = refl
      by_bools false false false false w e = absurd (cc)

  untaken : (before : List Made) (m : Made) → is_recorded before m ≡ false → taken_by m ≡ Nothing
  untaken before m e = by_taken m.taken m.look.arrival _ e
    where
      by_taken : (a : Bool) (x : Arrival) (b : Bool) → (a || b) ≡ false → (if a then x else Nothing) ≡ Nothing
      by_taken true x b e = absurd (cc)
      by_taken false x b e = refl

  -- what is asked of the looks holds of those that are recorded
  pub record Kept (made : List Made) : Type 0 where
    pub count : Count (record_of made)
    pub levels : TellLevels row (record_of made)
    pub takes : TakeLawful (record_of made)
    pub connected : AreConnected (record_of made)
    pub broken : is_broken (record_of made) ≡ is_broken made

  kept_at : (m : Made) (before : List Made) (b : Bool) → is_recorded before m ≡ b → Kept before → tells_level row (told_of row m.look.feedback) ≡ true → HasLawfulFrame (taken_by m) → (is_broken before ≡ true → has_bytes (taken_by m) ≡ false) → Kept (m ∷ before)
  kept_at m before true e k level lawful free =
      let is_it : record_of (m ∷ before) ≡ m ∷ record_of before = recorded_at m before true e in
      record {
        count = subst Count (sym is_it) (counted before m e, k.count);
        levels = subst (TellLevels row) (sym is_it) (level, k.levels);
        takes = subst TakeLawful (sym is_it) (lawful, k.takes);
        connected = subst AreConnected (sym is_it) ((λ broken. free (sym k.broken ∙ broken)), k.connected);
        broken = ap is_broken is_it ∙ ap (breaks (taken_by m)) k.broken;
      }
  kept_at m before false e k level lawful free =
      let is_it : record_of (m ∷ before) ≡ record_of before = recorded_at m before false e in
      record {
        count = subst Count (sym is_it) k.count;
        levels = subst (TellLevels row) (sym is_it) k.levels;
        takes = subst TakeLawful (sym is_it) k.takes;
        connected = subst AreConnected (sym is_it) k.connected;
        broken = ap is_broken is_it ∙ k.broken ∙ sym (ap (λ a. breaks a (is_broken before)) (untaken before m e));
      }

  kept : (made : List Made) → TellLevels row made → TakeLawful made → AreConnected made → Kept made
  kept [] levels takes connected = record { count = tt; levels = tt; takes = tt; connected = tt; broken = refl }
  kept (m ∷ before) levels takes connected = kept_at m before (is_recorded before m) refl (kept before levels.1 takes.1 connected.1) levels.0 takes.0 connected.0

  pub replays : IsLawfulRow row → (made : List Made) → AreMade row o made → TellLevels row made → TakeLawful made → AreConnected made → is_lost (record_of made) ≡ false → Replays opens row o made
  replays lawful made are levels takes connected fine =
      let k = kept made levels takes connected in
      let few = (thin_of row o made are).are_made in
      let t = told_all lawful (record_of made) few k.count k.levels k.takes k.connected fine in
      let p : PastAlone = past t.history t.broken t.reading t.moment in
      let last : Event = End row.id (count_after t.history.life.opening t.at.parts) None in
      record {
        printed = t.printed ++ last ∷ [];
        transcript = (one_session bare p t.way, t.printed, last ∷ [], t.leads, (last ∷ [], [], (last, (t.at.parts, t.at.cut, refl), refl), refl, refl), refl);
        low = filter-append is_reply t.printed (last ∷ []) ∙ append-nil (low_events t.printed) ∙ t.low ∙ ap (printed_replies row.id) (same_replies made);
      }

  stops_after : IsLawfulRow row → (made few : List Made) → record_of made ≡ few → AreMade row o few → Count few → TellLevels row few → TakeLawful few → AreConnected few → is_lost few ≡ true → replies_made few ≡ replies_made made → StopsAtLast opens row o made
  stops_after lawful made [] is_it are count levels takes connected lost same = absurd (cc)
  stops_after lawful made (m ∷ before) is_it are count levels takes connected lost same =
      let t = told_all lawful before are.1 count.1 levels.1 takes.1 connected.1 (not_lost m before are count.0) in
      let st = step_of m before are t count.0 levels.0 takes.0 connected.0 in
      let p : PastAlone = past t.history t.broken t.reading t.moment in
      let q : PastAlone = past st.history st.broken st.reading m.look.moment in
      let order = subst (λ (n : ℕ). n ≤ m.look.moment) (sym t.newest) are.0.order in
      let stop = stops_on bare p q t.way st.line st.printed st.named st.plain st.dated order (st.timely, (q, subst (λ (b : Bool). StepAlone bare p st.line b q st.printed) lost st.step, refl, refl)) in
      record {
        last = m;
        before = before;
        recorded = is_it;
        sessions = one_session bare p t.way;
        first = t.printed;
        leads = t.leads;
        after = one_session bare q true;
        second = st.printed;
        stops = subst (λ (l : Line). ScriptStops (one_session bare p t.way) l (one_session bare q true) st.printed (Device row.id roles.Low)) (sym st.line_is) stop;
        low = low_then t.printed st.printed m before t.low st.low ∙ ap (printed_replies row.id) same;
      }

  pub stops_at_last : IsLawfulRow row → (made : List Made) → AreMade row o made → TellLevels row made → TakeLawful made → AreConnected made → is_lost (record_of made) ≡ true → StopsAtLast opens row o made
  stops_at_last lawful made are levels takes connected lost =
      let k = kept made levels takes connected in
      stops_after lawful made (record_of made) refl (thin_of row o made are).are_made k.count k.levels k.takes k.connected lost (same_replies made)
