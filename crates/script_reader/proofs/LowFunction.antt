-- The low lines of a transcript are a function of low's own lines and of what is said to Low.
use Rattle.std.proofs.Common.{◌≡◌, inl, inr, ℕ, suc, true, false, List, [], ◌∷◌, ◌++◌, map, Bool, length, Option, Some, None, refl, sym, ap, ◌∙◌, subst, arith, append-nil, append_assoc}
use Rattle.std.specs.Prelude.{◌≢◌, ◌==◌, if◌then◌else◌, filter_map, is_some, All, AllPairs}
use Rattle.std.proofs.lemmas.List.Elements.{All-tail, All-filter, filter-append, filter_map-append}
use Rattle.std.specs.List.{AllByRecursion, cons_option}
use Rattle.pump_frame.specs.declared.row.SessionRow.{SessionRow}
use Rattle.pump_core.specs.declared.feedback.Feedback.{Feedback}
use Rattle.pump_core.specs.declared.feedback.Feedback.TheVariants.{Quiet, Full, Passed, Released, Repeat}
use Rattle.pump_core.specs.History.{Look, Life, Opening}
use Rattle.pump_core.specs.Timed.{opening_in}
use Rattle.pump_core.specs.World.{World, live}
use Rattle.pump_core.specs.History.{Gone}
use Rattle.pump_core.specs.Replies.{Sent, LowReplies}
use Rattle.pump_core.specs.Exchanges.{count_after}
use Rattle.pump_core.specs.Pairs.{uncounted, SameLooks, SameLives}
use Rattle.pump_core.proofs.Runs.{one_list_of_lives}
use Rattle.pump_core.proofs.Agreement.{same_lives}
use Rattle.script_reader.specs.declared.line.Line.{Line}
use Rattle.script_reader.specs.declared.line.Line.TheVariants as lines
use Rattle.script_reader.specs.declared.line.ToldFeedback.{ToldFeedback}
use Rattle.script_reader.specs.declared.fault.Fault.{Fault}
use Rattle.script_reader.specs.declared.event.Event.{Event}
use Rattle.script_reader.specs.declared.event.Event.TheVariants.{End}
use Rattle.script_reader.specs.Past.{Past}
use Rattle.script_reader.specs.Openings.{Openings, first_past, restarted}
use Rattle.script_reader.specs.Restarts.{IsRestart}
use Rattle.script_reader.specs.Lows.{first_of, IsLook}
use Rattle.script_reader.specs.Alone.{PastAlone, IsToldLook, StepAlone}
use Rattle.script_reader.specs.Steps.{LineComing, Arrives, joined, lost, LineStep, Overfills}
use Rattle.script_reader.specs.Scripts.{Running, RunningAlone, Begun, Whole, Alone, GoesWhole, coarsened, Leads, LeadTo, Stops, ComesTo, Ends, IsTranscript}
use Rattle.script_reader.specs.Readouts.{low_lines}
use Rattle.script_reader.specs.Sides.{is_lows, low_side_of, told_to_low, full_moments, averages, restarts_in, look_moment, HaveOwnMoments, OpensAlike, OpenAlike}
use Rattle.script_reader.proofs.One.{arrives_one}
use Rattle.script_reader.proofs.OneScript.{leads_one}
use Rattle.script_reader.proofs.Replying.{Replies, low-append}
use Rattle.script_reader.proofs.Telling.{Said, Restarted', said_to_low, said-append, said_by, said_of_look, plain, full_said, average_said, restart_said, told_is_said, full_is_said, average_is_said, restart_is_said, map-append, OneKind, one_told, one_found, same_found, one_full}
use Rattle.script_reader.proofs.LowAlike.{Half, half, Alike, Looked, Decided, looks_alike}
use Rattle.script_reader.proofs.LowAlone.{leads_any}
use Rattle.script_reader.proofs.LowAside.{Aside, high_aside, step_aside}
use Rattle.script_reader.proofs.Stopping.{stops_leads, stops_one}
use Rattle.script_reader.proofs.Soundness.{replies_so}

-- ---- one line of a whole session ----

lost_alike : (p q : Past) → Alike (half p) (half q) → Alike (half (lost p)) (half (lost q))
lost_alike p q a = record { history = a.history; waits = refl; broken = refl; reading = refl; accepted = a.accepted }

joined_alike : (p q : Past) (c d : LineComing) → c ≡ d → Alike (half p) (half q) → Alike (half (joined p c)) (half (joined q d))
joined_alike p q c d e a = record {
  history = a.history;
  waits = λ i. a.waits i ++ (e i).added;
  broken = a.broken;
  reading = λ i. (e i).reading;
  accepted = a.accepted;
}

-- what two restarts find of the buffer is the same
abbrev FoundAlike : List Event → List Event → Type 0
FoundAlike xs ys = (b c : Bool) → said_to_low xs ≡ Restarted' b ∷ [] → said_to_low ys ≡ Restarted' c ∷ [] → b ≡ c

-- what two looks of this line are told is the same up to the count, and so is what two restarts find
record DecidedAt (line : Line) (xs ys : List Event) : Type 0 where
  look : (m : ℕ) → look_moment line ≡ Some m → Decided m xs ys
  restart : FoundAlike xs ys

-- what a restart leads to, as far as it is low's
record Reopens (p q : Past) (printed : List Event) : Type 0 where
  held : Bool
  said : said_to_low printed ≡ Restarted' held ∷ []
  opening : opening_in q.world ≡ record { count = length p.world.accepted; is_held = held }

held_by : (b : Bool) (n : ℕ) → is_some (if b then Some n else None) ≡ b
held_by true n = refl
held_by false n = refl

reopens : (row : SessionRow) (p : Past) (m : ℕ) (q : Past) (printed : List Event) → IsRestart row p m q printed → Reopens p q printed
reopens row p m q printed (h, e, f) =
    let held : is_some q.world.low_hand ≡ (live q.world == q.world.capacity) =
    ap (λ (w : World). is_some w.low_hand) h ∙ held_by _ _ ∙ sym (ap (λ (w : World). live w == w.capacity) h) in
    let count : length q.world.accepted ≡ length p.world.accepted = ap (λ (w : World). length w.accepted) h in
    record {
      held = is_some q.world.low_hand;
      said = ap said_to_low f;
      opening = λ i. record { count = count i; is_held = sym held i };
    }

restarts_alike : (row : SessionRow) (p q : Past) (m : ℕ) (p' q' : Past) (xs ys : List Event) → Alike (half p) (half q)
    → IsRestart row p m p' xs → IsRestart row q m q' ys → FoundAlike xs ys → Looked p' q' xs ys
restarts_alike row p q m p' q' xs ys alike h k decide =
    let a = reopens row p m p' xs h in
    let b = reopens row q m q' ys k in
    let found : a.held ≡ b.held = decide a.held b.held a.said b.said in
    let opening : opening_in p'.world ≡ opening_in q'.world = a.opening ∙ (λ i. record { count = alike.accepted i; is_held = found i }) ∙ sym b.opening in
    let again : Alike (half (restarted p p'.world m)) (half (restarted q q'.world m)) = record {
      history = (record { opening = opening; looks = tt }, alike.history);
      waits = refl;
      broken = refl;
      reading = refl;
      accepted = ap (λ (o : Opening). o.count) opening;
    } in
    record {
      alike = subst (λ (u : Past × Past). Alike (half u.0) (half u.1)) (λ i. (sym h.1 i, sym k.1 i)) again;
      said = a.said ∙ ap (λ (x : Bool). Restarted' x ∷ []) found ∙ sym b.said;
    }

step_alike : (row : SessionRow) (p q : Past) (line : Line) (p' q' : Past) (xs ys : List Event)
    → is_lows line ≡ true → Alike (half p) (half q) → LineStep row p line p' xs → LineStep row q line q' ys
    → DecidedAt line xs ys → Looked p' q' xs ys
step_alike row p q (lines.Look session m w z) p' q' xs ys own alike (c, comes, (few, h)) (d, comes', (few', k)) decide =
    let same : c ≡ d = arrives_one session q.reading z c d (subst (λ r. Arrives session r z c) alike.reading comes) comes' in
    let both = joined_alike p q c d same alike in
    looks_alike row (joined p c) (joined q d) m w (first_of p.is_broken (joined p c).waits) (first_of q.is_broken (joined q d).waits) p' q' xs ys both
    (λ i. first_of (both.broken i) (both.waits i)) h k (decide.look m refl)
step_alike row p q (lines.Gone session m) p' q' xs ys own alike h k decide =
    looks_alike row (lost p) (lost q) m 0 Gone Gone p' q' xs ys (lost_alike p q alike) refl h k (decide.look m refl)
step_alike row p q lines.Skip p' q' xs ys own alike h k decide = absurd h
step_alike row p q (lines.Session other) p' q' xs ys own alike h k decide = absurd h
step_alike row p q (lines.LowSession other next held) p' q' xs ys own alike h k decide = absurd h
step_alike row p q (lines.Coarse session) p' q' xs ys own alike h k decide = absurd h
step_alike row p q (lines.Told session m w fault told z) p' q' xs ys own alike h k decide = absurd h
step_alike row p q (lines.Step session m w) p' q' xs ys own alike h k decide = absurd h
step_alike row p q (lines.High session m) p' q' xs ys own alike h k decide = absurd (cc)
step_alike row p q (lines.Carry session back) p' q' xs ys own alike h k decide = absurd (cc)
step_alike row p q (lines.Return session m back) p' q' xs ys own alike h k decide = absurd (cc)
step_alike row p q (lines.Done session m t) p' q' xs ys own alike h k decide = absurd (cc)
step_alike row p q (lines.Restart session m) p' q' xs ys own alike h k decide = restarts_alike row p q m p' q' xs ys alike h k decide.restart
step_alike row p q (lines.ReceiverRestart session m) p' q' xs ys own alike h k decide = absurd (cc)

-- ---- scripts ----

-- what a script has begun, as far as it is low's
data Lows : Type 0 where
  Nobody : Lows
  Whole' : (row : SessionRow) (half : Half) → Lows
  Alone' : (s : RunningAlone) → Lows

abbrev lows : Option Begun → Lows
lows None = Nobody
lows (Some (Whole s)) = Whole' s.row (half s.past)
lows (Some (Alone s)) = Alone' s

-- alike up to the counts
abbrev AlikeFor : Lows → Lows → Type 0
AlikeFor Nobody Nobody = Unit {0}
AlikeFor (Whole' row p) (Whole' other q) = (row ≡ other) × Alike p q
AlikeFor (Alone' s) (Alone' t) = s ≡ t
AlikeFor _ _ = ⊥

-- a line that is not low's own
record IsAside (running after : Option Begun) (printed : List Event) : Type 0 where
  same : lows running ≡ lows after
  said : said_to_low printed ≡ []

leads_aside : (o : Openings) (running : Option Begun) (line : Line) (after : Option Begun) (printed : List Event) → is_lows line ≡ false → Leads o running line after printed → IsAside running after printed
leads_aside o running line after printed own h = by running line own h
  where
    goes : (s : Running) (line : Line) → is_lows line ≡ false → GoesWhole s line after printed → IsAside (Some (Whole s)) after printed
    goes s line own (timely, (q, step, e)) =
        let a = step_aside s.row s.past line q printed own step in
        record { same = ap (Whole' s.row) a.half ∙ sym (ap lows e); said = a.said }

    by : (running : Option Begun) (line : Line) → is_lows line ≡ false → Leads o running line after printed → IsAside running after printed
    by None lines.Skip own h = record { same = sym (ap lows h.0); said = ap said_to_low h.1 }
    by (Some s) lines.Skip own h = record { same = sym (ap lows h.0); said = ap said_to_low h.1 }
    by running (lines.Session row) own h = absurd (cc)
    by running (lines.LowSession row next held) own h = absurd (cc)
    by running (lines.Coarse session) own h = absurd (cc)
    by running (lines.Look session m w z) own h = absurd (cc)
    by running (lines.Told session m w fault told z) own h = absurd (cc)
    by running (lines.Step session m w) own h = absurd (cc)
    by running (lines.Gone session m) own h = absurd (cc)
    by None (lines.High session m) own h = absurd h
    by None (lines.Carry session back) own h = absurd h
    by None (lines.Return session m back) own h = absurd h
    by None (lines.Done session m t) own h = absurd h
    by running (lines.Restart session m) own h = absurd (cc)
    by None (lines.ReceiverRestart session m) own h = absurd h
    by (Some (Whole s)) (lines.High session m) own h = goes s (lines.High session m) own h
    by (Some (Whole s)) (lines.Carry session back) own h = goes s (lines.Carry session back) own h
    by (Some (Whole s)) (lines.Return session m back) own h = goes s (lines.Return session m back) own h
    by (Some (Whole s)) (lines.Done session m t) own h = goes s (lines.Done session m t) own h
    by (Some (Whole s)) (lines.ReceiverRestart session m) own h = goes s (lines.ReceiverRestart session m) own h
    by (Some (Alone s)) (lines.High session m) own h = absurd (h.1.1)
    by (Some (Alone s)) (lines.Carry session back) own h = absurd (h.1.1)
    by (Some (Alone s)) (lines.Return session m back) own h = absurd (h.1.1)
    by (Some (Alone s)) (lines.Done session m t) own h = absurd (h.1.1)
    by (Some (Alone s)) (lines.ReceiverRestart session m) own h = absurd (h.1.1)

-- a line is applied, and goes on or stops the script
data Moves (o : Openings) (running : Option Begun) (line : Line) (after : Option Begun) (printed : List Event) : Type 0 where
  GoesWhole' : Leads o running line after printed → Moves o running line after printed
  Stops' : (fault : Fault) → Stops running line after printed fault → Moves o running line after printed

-- low's own lines lead from here to there, with other lines between them, and this is said
abbrev LowLeads : Openings → Lows → List Line → Lows → List Said → Type 0
LowLeads o start [] end said = (start ≡ end) × (said ≡ [])
LowLeads o start (line ∷ later) end said =
    (r s : Option Begun) × (first : List Event) × (second : List Said)
    × (start ≡ lows r) × (is_lows line ≡ true) × Moves o r line s first × LowLeads o (lows s) later end second
    × (said ≡ said_to_low first ++ second)

from : (o : Openings) (a b : Lows) (script : List Line) (end : Lows) (said : List Said) → a ≡ b → LowLeads o b script end said → LowLeads o a script end said
from o a b script end said e h = subst (λ t. LowLeads o t script end said) (sym e) h

low_leads : (o : Openings) (running : Option Begun) (script : List Line) (after : Option Begun) (printed : List Event)
    → LeadTo o running script after printed → LowLeads o (lows running) (low_side_of script) (lows after) (said_to_low printed)
low_leads o running [] after printed h = (sym (ap lows h.0), ap said_to_low h.1)
low_leads o running (line ∷ script) after printed (mid, first, second, h, later, e) =
    elim (is_lows line) as (λ b. is_lows line ≡ b → LowLeads o (lows running) (if b then line ∷ low_side_of script else low_side_of script) (lows after) (said_to_low printed)) [
      | true ↦ λ own. (running, mid, first, said_to_low second, refl, own, GoesWhole' h, low_leads o mid script after second later, ap said_to_low e ∙ said-append first second)
      | false ↦ λ own.
          let a = leads_aside o running line mid first own h in
          let said : said_to_low printed ≡ said_to_low second = ap said_to_low e ∙ said-append first second ∙ ap (λ l. l ++ said_to_low second) a.said in
          subst (LowLeads o (lows running) (low_side_of script) (lows after)) (sym said)
          (from o (lows running) (lows mid) (low_side_of script) (lows after) (said_to_low second) a.same (low_leads o mid script after second later))
    ] refl

-- ---- the full moments are moments of the looks ----

-- no low look of these lines is at m
abbrev IsFree : ℕ → List Line → Type 0
IsFree m script = AllByRecursion (λ n. m ≢ n) (filter_map look_moment script)

-- .. and none of these is a full moment
abbrev IsUnsaid : ℕ → List Said → Type 0
IsUnsaid m said = AllByRecursion (λ n. m ≢ n) (filter_map full_said said)

-- each full moment is that of a look
abbrev IsFrom : List Line → List Said → Type 0
IsFrom script said = (m : ℕ) → IsFree m script → IsUnsaid m said

record Free (P : ℕ → Type 0) (o : Option ℕ) (rest : List ℕ) : Type 0 where
  head : (k : ℕ) → o ≡ Some k → P k
  tail : AllByRecursion P rest

freed : (P : ℕ → Type 0) (o : Option ℕ) (rest : List ℕ) → AllByRecursion P (cons_option o rest) → Free P o rest
freed P None rest h = record { head = λ k e. absurd (cc); tail = h }
freed P (Some j) rest h = record { head = λ k e. subst P (let f : j ≡ k = cc in f) h.0; tail = h.1 }

all_append : (P : ℕ → Type 0) (xs ys : List ℕ) → AllByRecursion P xs → AllByRecursion P ys → AllByRecursion P (xs ++ ys)
all_append P [] ys h k = k
all_append P (x ∷ xs) ys h k = (h.0, all_append P xs ys h.1 k)

unsaid_by : (m k : ℕ) (f : Feedback) → m ≢ k → IsUnsaid m (said_by k f)
unsaid_by m k Quiet off = tt
unsaid_by m k Full off = (off, tt)
unsaid_by m k (Passed s) off = tt
unsaid_by m k Released off = tt
unsaid_by m k (Repeat s) off = tt

unsaid_so : (m k : ℕ) (f : Feedback) (printed : List Event) → said_to_low printed ≡ said_by k f → m ≢ k → IsUnsaid m (said_to_low printed)
unsaid_so m k f printed e off = subst (IsUnsaid m) (sym e) (unsaid_by m k f off)

unsaid_none : (m : ℕ) (printed : List Event) → printed ≡ [] → IsUnsaid m (said_to_low printed)
unsaid_none m printed e = subst (λ l. IsUnsaid m (said_to_low l)) (sym e) tt

unsaid_look : (row : SessionRow) (p : Past) (x : Look) (q : Past) (printed : List Event) (m : ℕ) → IsLook row p x q printed → m ≢ x.moment → IsUnsaid m (said_to_low printed)
unsaid_look row p x q printed m i off = unsaid_so m x.moment x.feedback printed (ap said_to_low i.printed_is ∙ said_of_look row.id x.moment _ x.feedback i.new) off

unsaid_told : (row : SessionRow) (p : PastAlone) (told : ToldFeedback) (x : Look) (q : PastAlone) (printed : List Event) (m : ℕ) → IsToldLook row p told x q printed → m ≢ x.moment → IsUnsaid m (said_to_low printed)
unsaid_told row p told x q printed m i off = unsaid_so m x.moment x.feedback printed (ap said_to_low i.printed_is ∙ said_of_look row.id x.moment _ x.feedback i.new) off

unsaid : (o : Openings) (r : Option Begun) (line : Line) (s : Option Begun) (printed : List Event) (m : ℕ) → is_lows line ≡ true
    → Leads o r line s printed → ((k : ℕ) → look_moment line ≡ Some k → m ≢ k) → IsUnsaid m (said_to_low printed)
unsaid o None (lines.Session row) s printed m own h off = unsaid_none m printed h.1
unsaid o None (lines.LowSession row next held) s printed m own h off = unsaid_none m printed h.1
unsaid o None (lines.Coarse session) s printed m own h off = absurd h
unsaid o None (lines.Look session k w z) s printed m own h off = absurd h
unsaid o None (lines.Told session k w fault told z) s printed m own h off = absurd h
unsaid o None (lines.Step session k w) s printed m own h off = absurd h
unsaid o None (lines.Gone session k) s printed m own h off = absurd h
unsaid o (Some (Whole t)) (lines.Look session k w z) s printed m own (timely, (q, (c, comes, (few, (f, i))), e)) off = unsaid_look t.row (joined t.past c) _ q printed m i (off k refl)
unsaid o (Some (Whole t)) (lines.Gone session k) s printed m own (timely, (q, (f, i), e)) off = unsaid_look t.row (lost t.past) _ q printed m i (off k refl)
unsaid o (Some (Whole t)) (lines.Told session k w fault told z) s printed m own h off = absurd (h.1.1)
unsaid o (Some (Whole t)) (lines.Step session k w) s printed m own h off = absurd (h.1.1)
unsaid o (Some (Whole t)) (lines.Session row) s printed m own h off = absurd (h.1.1)
unsaid o (Some (Whole t)) (lines.LowSession row next held) s printed m own h off = absurd (h.1.1)
unsaid o (Some (Whole t)) (lines.Coarse session) s printed m own h off = unsaid_none m printed h.1
unsaid o (Some (Alone t)) (lines.Told session k w fault told z) s printed m own (timely, (q, (c, comes, (few, (f, i))), e)) off = unsaid_told t.row _ told _ q printed m i (off k refl)
unsaid o (Some (Alone t)) (lines.Step session k w) s printed m own h off = absurd (h.1.1)
unsaid o (Some (Alone t)) (lines.Gone session k) s printed m own (timely, (q, (f, i), e)) off = unsaid_told t.row _ _ _ q printed m i (off k refl)
unsaid o (Some (Alone t)) (lines.Look session k w z) s printed m own h off = absurd (h.1.1)
unsaid o (Some (Alone t)) (lines.Session row) s printed m own h off = absurd (h.1.1)
unsaid o (Some (Alone t)) (lines.LowSession row next held) s printed m own h off = absurd (h.1.1)
unsaid o (Some (Alone t)) (lines.Coarse session) s printed m own h off = unsaid_none m printed h.1
unsaid o r lines.Skip s printed m own h off = absurd (cc)
unsaid o r (lines.High session k) s printed m own h off = absurd (cc)
unsaid o r (lines.Carry session back) s printed m own h off = absurd (cc)
unsaid o r (lines.Return session k back) s printed m own h off = absurd (cc)
unsaid o r (lines.Done session k t) s printed m own h off = absurd (cc)
unsaid o r (lines.ReceiverRestart session k) s printed m own h off = absurd (cc)
unsaid o None (lines.Restart session k) s printed m own h off = absurd h
unsaid o (Some (Whole t)) (lines.Restart session k) s printed m own (timely, (q, step, e)) off = subst (λ l. IsUnsaid m (said_to_low l)) (sym step.2) tt
unsaid o (Some (Alone t)) (lines.Restart session k) s printed m own h off = absurd (h.1.1)

-- a line of a whole session that is low's own never finds a message that does not fit
own_fits : (row : SessionRow) (p : Past) (line : Line) (q : Past) (printed : List Event) (end n size : ℕ) → is_lows line ≡ true → Overfills row p line q printed end n size → ⊥
own_fits row p lines.Skip q printed end n size own h = absurd h
own_fits row p (lines.Session other) q printed end n size own h = absurd h
own_fits row p (lines.LowSession other next held) q printed end n size own h = absurd h
own_fits row p (lines.Coarse session) q printed end n size own h = absurd h
own_fits row p (lines.Look session m w z) q printed end n size own h = absurd h
own_fits row p (lines.Told session m w fault told z) q printed end n size own h = absurd h
own_fits row p (lines.Step session m w) q printed end n size own h = absurd h
own_fits row p (lines.Gone session m) q printed end n size own h = absurd h
own_fits row p (lines.High session m) q printed end n size own h = absurd h
own_fits row p (lines.Return session m back) q printed end n size own h = absurd h
own_fits row p (lines.Carry session back) q printed end n size own h = absurd (cc)
own_fits row p (lines.Done session m t) q printed end n size own h = absurd (cc)
own_fits row p (lines.Restart session m) q printed end n size own h = absurd h
own_fits row p (lines.ReceiverRestart session m) q printed end n size own h = absurd h

unsaid_step : (s : RunningAlone) (line : Line) (q : PastAlone) (printed : List Event) (m : ℕ) → StepAlone s.row s.past line true q printed → ((k : ℕ) → look_moment line ≡ Some k → m ≢ k) → IsUnsaid m (said_to_low printed)
unsaid_step s (lines.Told session k w fault told z) q printed m (c, comes, (few, (f, i))) off = unsaid_told s.row _ told _ q printed m i (off k refl)
unsaid_step s (lines.Gone session k) q printed m (f, i) off = unsaid_told s.row _ _ _ q printed m i (off k refl)
unsaid_step s lines.Skip q printed m h off = absurd h
unsaid_step s (lines.Session row) q printed m h off = absurd h
unsaid_step s (lines.LowSession row next held) q printed m h off = absurd h
unsaid_step s (lines.Coarse session) q printed m h off = absurd h
unsaid_step s (lines.Look session k w z) q printed m h off = absurd h
unsaid_step s (lines.High session k) q printed m h off = absurd h
unsaid_step s (lines.Carry session back) q printed m h off = absurd h
unsaid_step s (lines.Return session k back) q printed m h off = absurd h
unsaid_step s (lines.Done session k t) q printed m h off = absurd h
unsaid_step s (lines.Restart session k) q printed m h off = absurd h
unsaid_step s (lines.ReceiverRestart session k) q printed m h off = absurd h
unsaid_step s (lines.Step session k w) q printed m h off = absurd h

unsaid_moves : (o : Openings) (r : Option Begun) (line : Line) (s : Option Begun) (printed : List Event) (m : ℕ) → is_lows line ≡ true
    → Moves o r line s printed → ((k : ℕ) → look_moment line ≡ Some k → m ≢ k) → IsUnsaid m (said_to_low printed)
unsaid_moves o r line s printed m own (GoesWhole' h) off = unsaid o r line s printed m own h off
unsaid_moves o None line s printed m own (Stops' fault h) off = absurd h
unsaid_moves o (Some (Whole t)) line s printed m own (Stops' fault (timely, (q, end, n, size, over, f, e))) off = absurd (own_fits t.row t.past line q printed end n size own over)
unsaid_moves o (Some (Alone t)) line s printed m own (Stops' fault (timely, (q, step, f, e))) off = unsaid_step t line q printed m step off

low_from : (o : Openings) (a : Lows) (script : List Line) (b : Lows) (said : List Said) → LowLeads o a script b said → IsFrom script said
low_from o a [] b said h m free = subst (IsUnsaid m) (sym h.1) tt
low_from o a (line ∷ script) b said (r, s, first, second, e, own, h, later, is) m free =
    let f = freed (λ n. m ≢ n) (look_moment line) (filter_map look_moment script) free in
    let here = unsaid_moves o r line s first m own h f.head in
    let there = low_from o (lows s) script b second later m f.tail in
    subst (IsUnsaid m) (sym is)
    (subst (AllByRecursion (λ n. m ≢ n)) (sym (filter_map-append full_said (said_to_low first) second))
    (all_append (λ n. m ≢ n) (filter_map full_said (said_to_low first)) (filter_map full_said second) here there))

-- ---- two scripts ----

looks_self : (xs : List Look) → SameLooks xs xs
looks_self [] = tt
looks_self (x ∷ xs) = (record { moment = refl; word = refl; arrival = refl; outcome = refl; feedback = refl }, looks_self xs)

lives_self : (ls : List Life) → SameLives ls ls
lives_self [] = tt
lives_self (l ∷ ls) = (record { opening = refl; looks = looks_self l.looks }, lives_self ls)

self : (l : Lows) → AlikeFor l l
self Nobody = tt
self (Whole' row p) = (refl, record { history = lives_self (p.history.life ∷ p.history.earlier); waits = refl; broken = refl; reading = refl; accepted = refl })
self (Alone' s) = refl

record Both (m n : Lows) (xs ys : List Event) : Type 0 where
  alike : AlikeFor m n
  said : said_to_low xs ≡ said_to_low ys

-- a line in one low side alone that is begun
one_session : (o p : Openings) (s : RunningAlone) (t : Option Begun) (r' s' : Option Begun) (line : Line) (xs ys : List Event) → Some (Alone s) ≡ t
    → Leads o (Some (Alone s)) line r' xs → Leads p t line s' ys → Both (lows r') (lows s') xs ys
one_session o p s t r' s' line xs ys same h k =
    let one = leads_one o (Some (Alone s)) line r' s' xs ys h (leads_any p o s line s' ys (subst (λ t. Leads p t line s' ys) (sym same) k)) in
    record { alike = subst (λ t. AlikeFor (lows r') (lows t)) one.after (self (lows r')); said = ap said_to_low one.printed }

-- a line that begins a session
begins_alike : (o p : Openings) (r' s' : Option Begun) (line : Line) (xs ys : List Event) → is_lows line ≡ true → OpensAlike o p line
    → Leads o None line r' xs → Leads p None line s' ys → Both (lows r') (lows s') xs ys
begins_alike o p r' s' (lines.Session row) xs ys own opens h k =
    let half_alike : Alike (half (first_past row (o row.id))) (half (first_past row (p row.id))) = record {
      history = (record { opening = opens; looks = tt }, tt);
      waits = refl;
      broken = refl;
      reading = refl;
      accepted = ap (λ (u : Opening). u.count) opens;
    } in
    record {
      alike = subst (λ (u : Option Begun × Option Begun). AlikeFor (lows u.0) (lows u.1)) (λ i. (sym h.0.2 i, sym k.0.2 i)) (refl, half_alike);
      said = ap said_to_low (h.1 ∙ sym k.1);
    }
begins_alike o p r' s' (lines.LowSession row next held) xs ys own opens h k = record {
  alike = subst (λ t. AlikeFor (lows r') (lows t)) (h.0.1 ∙ sym k.0.1) (self (lows r'));
  said = ap said_to_low (h.1 ∙ sym k.1);
}
begins_alike o p r' s' lines.Skip xs ys own opens h k = absurd (cc)
begins_alike o p r' s' (lines.Coarse session) xs ys own opens h k = absurd h
begins_alike o p r' s' (lines.Look session m w z) xs ys own opens h k = absurd h
begins_alike o p r' s' (lines.Told session m w fault told z) xs ys own opens h k = absurd h
begins_alike o p r' s' (lines.Step session m w) xs ys own opens h k = absurd h
begins_alike o p r' s' (lines.Gone session m) xs ys own opens h k = absurd h
begins_alike o p r' s' (lines.High session m) xs ys own opens h k = absurd h
begins_alike o p r' s' (lines.Carry session back) xs ys own opens h k = absurd h
begins_alike o p r' s' (lines.Return session m back) xs ys own opens h k = absurd h
begins_alike o p r' s' (lines.Done session m t) xs ys own opens h k = absurd h
begins_alike o p r' s' (lines.Restart session m) xs ys own opens h k = absurd h
begins_alike o p r' s' (lines.ReceiverRestart session m) xs ys own opens h k = absurd h

-- a line in two whole sessions
whole_sessions : (s t : Running) (r' s' : Option Begun) (line : Line) (xs ys : List Event) → is_lows line ≡ true
    → AlikeFor (lows (Some (Whole s))) (lows (Some (Whole t))) → GoesWhole s line r' xs → GoesWhole t line s' ys
    → DecidedAt line xs ys → Both (lows r') (lows s') xs ys
whole_sessions s t r' s' line xs ys own (row, alike) (timely, (p', h, e)) (timely', (q', k, f)) decide =
    let both = step_alike s.row s.past t.past line p' q' xs ys own alike h (subst (λ u. LineStep u t.past line q' ys) (sym row) k) decide in
    record {
      alike = subst (λ (u : Option Begun × Option Begun). AlikeFor (lows u.0) (lows u.1)) (λ i. (sym e i, sym f i)) (row, both.alike);
      said = both.said;
    }

coarse_sessions : (o p : Openings) (s t : Running) (r' s' : Option Begun) (session : ℕ) (xs ys : List Event)
    → AlikeFor (lows (Some (Whole s))) (lows (Some (Whole t))) → Leads o (Some (Whole s)) (lines.Coarse session) r' xs → Leads p (Some (Whole t)) (lines.Coarse session) s' ys
    → Both (lows r') (lows s') xs ys
coarse_sessions o p s t r' s' session xs ys (row, alike) (made, e) (made', f) = record {
  alike = subst (λ (u : Option Begun × Option Begun). AlikeFor (lows u.0) (lows u.1)) (λ i. (sym made.2 i, sym made'.2 i)) (ap coarsened row, alike);
  said = ap said_to_low (e ∙ sym f);
}

whole_alike : (o p : Openings) (s t : Running) (r' s' : Option Begun) (line : Line) (xs ys : List Event) → is_lows line ≡ true
    → AlikeFor (lows (Some (Whole s))) (lows (Some (Whole t))) → Leads o (Some (Whole s)) line r' xs → Leads p (Some (Whole t)) line s' ys
    → DecidedAt line xs ys → Both (lows r') (lows s') xs ys
whole_alike o p s t r' s' lines.Skip xs ys own alike h k decide = absurd (cc)
whole_alike o p s t r' s' (lines.Session row) xs ys own alike h k decide = whole_sessions s t r' s' (lines.Session row) xs ys own alike h k decide
whole_alike o p s t r' s' (lines.LowSession row next held) xs ys own alike h k decide = whole_sessions s t r' s' (lines.LowSession row next held) xs ys own alike h k decide
whole_alike o p s t r' s' (lines.Coarse session) xs ys own alike h k decide = coarse_sessions o p s t r' s' session xs ys alike h k
whole_alike o p s t r' s' (lines.Look session m w z) xs ys own alike h k decide = whole_sessions s t r' s' (lines.Look session m w z) xs ys own alike h k decide
whole_alike o p s t r' s' (lines.Told session m w fault told z) xs ys own alike h k decide = whole_sessions s t r' s' (lines.Told session m w fault told z) xs ys own alike h k decide
whole_alike o p s t r' s' (lines.Step session m w) xs ys own alike h k decide = whole_sessions s t r' s' (lines.Step session m w) xs ys own alike h k decide
whole_alike o p s t r' s' (lines.Gone session m) xs ys own alike h k decide = whole_sessions s t r' s' (lines.Gone session m) xs ys own alike h k decide
whole_alike o p s t r' s' (lines.High session m) xs ys own alike h k decide = absurd (cc)
whole_alike o p s t r' s' (lines.Carry session back) xs ys own alike h k decide = absurd (cc)
whole_alike o p s t r' s' (lines.Return session m back) xs ys own alike h k decide = absurd (cc)
whole_alike o p s t r' s' (lines.Done session m time) xs ys own alike h k decide = absurd (cc)
whole_alike o p s t r' s' (lines.Restart session m) xs ys own alike h k decide = whole_sessions s t r' s' (lines.Restart session m) xs ys own alike h k decide
whole_alike o p s t r' s' (lines.ReceiverRestart session m) xs ys own alike h k decide = absurd (cc)

goes_alike : (o p : Openings) (r s r' s' : Option Begun) (line : Line) (xs ys : List Event) → is_lows line ≡ true → OpensAlike o p line
    → AlikeFor (lows r) (lows s) → Leads o r line r' xs → Leads p s line s' ys → DecidedAt line xs ys → Both (lows r') (lows s') xs ys
goes_alike o p None None r' s' line xs ys own opens alike h k decide = begins_alike o p r' s' line xs ys own opens h k
goes_alike o p (Some (Whole s)) (Some (Whole t)) r' s' line xs ys own opens alike h k decide =
    whole_alike o p s t r' s' line xs ys own alike h k decide
goes_alike o p (Some (Alone s)) (Some (Alone t)) r' s' line xs ys own opens alike h k decide =
    one_session o p s (Some (Alone t)) r' s' line xs ys (ap (λ u. Some (Alone u)) alike) h k
goes_alike o p None (Some (Whole t)) r' s' line xs ys own opens alike h k decide = absurd alike
goes_alike o p None (Some (Alone t)) r' s' line xs ys own opens alike h k decide = absurd alike
goes_alike o p (Some (Whole s)) None r' s' line xs ys own opens alike h k decide = absurd alike
goes_alike o p (Some (Alone s)) None r' s' line xs ys own opens alike h k decide = absurd alike
goes_alike o p (Some (Whole s)) (Some (Alone t)) r' s' line xs ys own opens alike h k decide = absurd alike
goes_alike o p (Some (Alone s)) (Some (Whole t)) r' s' line xs ys own opens alike h k decide = absurd alike

-- a line of low's own that stops a script is one of a low side alone
stops_alone : (s : Option Begun) (line : Line) (after : Option Begun) (printed : List Event) (fault : Fault) → is_lows line ≡ true → Stops s line after printed fault → (t : RunningAlone) × (s ≡ Some (Alone t))
stops_alone None line after printed fault own h = absurd h
stops_alone (Some (Whole s)) line after printed fault own (timely, (q, end, n, size, o, f, e)) = absurd (own_fits s.row s.past line q printed end n size own o)
stops_alone (Some (Alone t)) line after printed fault own h = (t, refl)

same_alone : (r s : Option Begun) (t : RunningAlone) → AlikeFor (lows r) (lows s) → s ≡ Some (Alone t) → r ≡ s
same_alone (Some (Alone a)) (Some (Alone b)) t alike e = ap (λ u. Some (Alone u)) alike
same_alone None (Some (Alone b)) t alike e = absurd alike
same_alone (Some (Whole a)) (Some (Alone b)) t alike e = absurd alike
same_alone r None t alike e = absurd (cc)
same_alone r (Some (Whole b)) t alike e = absurd (cc)

alone_same : (r s : Option Begun) (t : RunningAlone) → AlikeFor (lows r) (lows s) → r ≡ Some (Alone t) → r ≡ s
alone_same (Some (Alone a)) (Some (Alone b)) t alike e = ap (λ u. Some (Alone u)) alike
alone_same (Some (Alone a)) None t alike e = absurd alike
alone_same (Some (Alone a)) (Some (Whole b)) t alike e = absurd alike
alone_same None s t alike e = absurd (cc)
alone_same (Some (Whole a)) s t alike e = absurd (cc)

both_stop : (r s r' s' : Option Begun) (line : Line) (xs ys : List Event) (fault stop : Fault) → r ≡ s
    → Stops r line r' xs fault → Stops s line s' ys stop → Both (lows r') (lows s') xs ys
both_stop r s r' s' line xs ys fault stop same h k =
    let one = stops_one r line r' s' xs ys fault stop h (subst (λ (t : Option Begun). Stops t line s' ys stop) (sym same) k) in
    record { alike = subst (λ t. AlikeFor (lows r') (lows t)) one.past (self (lows r')); said = ap said_to_low one.printed }

line_alike : (o p : Openings) (r s r' s' : Option Begun) (line : Line) (xs ys : List Event) → is_lows line ≡ true → OpensAlike o p line
    → AlikeFor (lows r) (lows s) → Moves o r line r' xs → Moves p s line s' ys → DecidedAt line xs ys → Both (lows r') (lows s') xs ys
line_alike o p r s r' s' line xs ys own opens alike (GoesWhole' h) (GoesWhole' k) decide = goes_alike o p r s r' s' line xs ys own opens alike h k decide
line_alike o p r s r' s' line xs ys own opens alike (Stops' fault h) (Stops' stop k) decide =
    let t = stops_alone s line s' ys stop own k in
    both_stop r s r' s' line xs ys fault stop (same_alone r s t.0 alike t.1) h k
line_alike o p r s r' s' line xs ys own opens alike (GoesWhole' h) (Stops' stop k) decide =
    let t = stops_alone s line s' ys stop own k in
    let same = same_alone r s t.0 alike t.1 in
    absurd (stops_leads o s line s' ys stop r' xs k (subst (λ (u : Option Begun). Leads o u line r' xs) same h))
line_alike o p r s r' s' line xs ys own opens alike (Stops' fault h) (GoesWhole' k) decide =
    let t = stops_alone r line r' xs fault own h in
    let same = alone_same r s t.0 alike t.1 in
    absurd (stops_leads p r line r' xs fault s' ys h (subst (λ (u : Option Begun). Leads p u line s' ys) (sym same) k))

-- how the words to Low are compared: P holds of the lines that are left and of what is said in them
abbrev Decides : (List Line → List Said → List Said → Type 0) → Type 0
Decides P = (line : Line) (script : List Line) (m : ℕ) (f g : Feedback) (later more : List Said) → look_moment line ≡ Some m → OneKind f g
    → IsFrom script later → IsFrom script more → P (line ∷ script) (said_by m f ++ later) (said_by m g ++ more) → uncounted f ≡ uncounted g

abbrev DecidesFound : (List Line → List Said → List Said → Type 0) → Type 0
DecidesFound P = (line : Line) (script : List Line) (b c : Bool) (later more : List Said) → P (line ∷ script) (Restarted' b ∷ later) (Restarted' c ∷ more) → b ≡ c

abbrev GoesOnBy : (List Line → List Said → List Said → Type 0) → Type 0
GoesOnBy P = (line : Line) (script : List Line) (first later more : List Said) → P (line ∷ script) (first ++ later) (first ++ more) → P script later more

module _ (o p : Openings) (P : List Line → List Said → List Said → Type 0) (decides : Decides P) (found : DecidesFound P) (goes_on : GoesOnBy P) where
  sides_alike : (a b a' b' : Lows) (script : List Line) (ts us : List Said) → AlikeFor a b → All (OpensAlike o p) script
      → LowLeads o a script a' ts → LowLeads p b script b' us → P script ts us → AlikeFor a' b'
  sides_alike a b a' b' [] ts us alike opens h k same = subst (λ (u : Lows × Lows). AlikeFor u.0 u.1) (λ i. (h.0 i, k.0 i)) alike
  sides_alike a b a' b' (line ∷ script) ts us alike opens (r, r', xs, later, from, own, h, hs, e) (s, s', ys, more, from', own', k, ks, f) same =
      let here : AlikeFor (lows r) (lows s) = subst (λ (u : Lows × Lows). AlikeFor u.0 u.1) (λ i. (from i, from' i)) alike in
      let now : P (line ∷ script) (said_to_low xs ++ later) (said_to_low ys ++ more) = subst (λ (u : List Said × List Said). P (line ∷ script) u.0 u.1) (λ i. (e i, f i)) same in
      let lf = low_from o (lows r') script a' later hs in
      let mf = low_from p (lows s') script b' more ks in
      let put : (x y : List Said) → said_to_low xs ≡ x → said_to_low ys ≡ y → P (line ∷ script) (x ++ later) (y ++ more) =
      λ x y px py. subst (λ (u : List Said × List Said). P (line ∷ script) (u.0 ++ later) (u.1 ++ more)) (λ i. (px i, py i)) now in
      let both = line_alike o p r s r' s' line xs ys own (opens 0 line (omega arith)) here h k (record {
        look = λ m at x y kind px py. decides line script m x y later more at kind lf mf (put (said_by m x) (said_by m y) px py);
        restart = λ b c px py. found line script b c later more (put (Restarted' b ∷ []) (Restarted' c ∷ []) px py);
      }) in
      let rest = goes_on line script (said_to_low xs) later more (subst (λ u. P (line ∷ script) (said_to_low xs ++ later) (u ++ more)) (sym both.said) now) in
      sides_alike (lows r') (lows s') a' b' script later more both.alike (All-tail (OpensAlike o p) line script opens) hs ks rest

-- sessions that are alike for Low have given the same replies
replies_alike : (r s : Option Begun) (xs ys : List Sent) → AlikeFor (lows r) (lows s) → Replies r xs → Replies s ys → xs ≡ ys
replies_alike None None xs ys alike h k = h ∙ sym k
replies_alike (Some (Whole s)) (Some (Whole t)) xs ys (row, alike) h k =
    let p = s.past.history in
    let q = t.past.history in
    same_lives s.row (p.life ∷ p.earlier) (q.life ∷ q.earlier) xs ys alike.history h (subst (λ u. LowReplies u t.past.history ys) (sym row) k)
replies_alike (Some (Alone s)) (Some (Alone t)) xs ys alike h k =
    let p = s.past.history in
    one_list_of_lives s.row (p.life ∷ p.earlier) xs ys h (subst (λ (u : RunningAlone). LowReplies u.row u.past.history ys) (sym alike) k)
replies_alike None (Some (Whole t)) xs ys alike h k = absurd alike
replies_alike None (Some (Alone t)) xs ys alike h k = absurd alike
replies_alike (Some (Whole s)) None xs ys alike h k = absurd alike
replies_alike (Some (Alone s)) None xs ys alike h k = absurd alike
replies_alike (Some (Whole s)) (Some (Alone t)) xs ys alike h k = absurd alike
replies_alike (Some (Alone s)) (Some (Whole t)) xs ys alike h k = absurd alike

-- the end of a script says nothing of Low
record IsStill (printed : List Event) : Type 0 where
  said : said_to_low printed ≡ []
  low : low_lines printed ≡ []

ends_still : (r : Option Begun) (printed : List Event) → Ends r printed → IsStill printed
ends_still None printed e = record { said = ap said_to_low e; low = ap low_lines e }
ends_still (Some (Whole s)) printed e = record { said = ap said_to_low e; low = ap low_lines e }
ends_still (Some (Alone s)) printed (event, (parts, cut, is), e) =
    let f : printed ≡ End s.row.id (count_after s.past.history.life.opening parts) None ∷ [] = e ∙ ap (λ (x : Event). x ∷ []) is in
    record { said = ap said_to_low f; low = ap low_lines f }

-- ---- a script that stopped ----

low_then : (o : Openings) (a b c : Lows) (script later : List Line) (ts us : List Said) → LowLeads o a script b ts → LowLeads o b later c us → LowLeads o a (script ++ later) c (ts ++ us)
low_then o a b c [] later ts us h k = subst (λ l. LowLeads o a later c (l ++ us)) (sym h.1) (from o a b later c us h.0 k)
low_then o a b c (line ∷ script) later ts us (r, s, first, second, e, own, h, hs, is) k =
    (r, s, first, second ++ us, e, own, h, low_then o (lows s) b c script later second us hs k, ap (λ l. l ++ us) is ∙ append_assoc (said_to_low first) second us)

pub overfills_aside : (s : SessionRow) (p : Past) (line : Line) (q : Past) (printed : List Event) (end n size : ℕ) → Overfills s p line q printed end n size → Aside p q printed
overfills_aside s p (lines.Carry session back) q printed end n size (o, e, f) = record { half = sym (ap half e); said = ap said_to_low f }
overfills_aside s p (lines.Done session m t) q printed end n size (h, hand, o) = high_aside s false p m None q printed h
overfills_aside s p lines.Skip q printed end n size h = absurd h
overfills_aside s p (lines.Session row) q printed end n size h = absurd h
overfills_aside s p (lines.LowSession row next held) q printed end n size h = absurd h
overfills_aside s p (lines.Coarse session) q printed end n size h = absurd h
overfills_aside s p (lines.Look session m w z) q printed end n size h = absurd h
overfills_aside s p (lines.Told session m w fault told z) q printed end n size h = absurd h
overfills_aside s p (lines.Step session m w) q printed end n size h = absurd h
overfills_aside s p (lines.Gone session m) q printed end n size h = absurd h
overfills_aside s p (lines.High session m) q printed end n size h = absurd h
overfills_aside s p (lines.Return session m back) q printed end n size h = absurd h
overfills_aside s p (lines.Restart session m) q printed end n size h = absurd h
overfills_aside s p (lines.ReceiverRestart session m) q printed end n size h = absurd h

step_own : (s : RunningAlone) (line : Line) (q : PastAlone) (printed : List Event) → is_lows line ≡ false → StepAlone s.row s.past line true q printed → ⊥
step_own s (lines.Told session m w fault told z) q printed own h = absurd (cc)
step_own s (lines.Step session m w) q printed own h = absurd (cc)
step_own s (lines.Gone session m) q printed own h = absurd (cc)
step_own s lines.Skip q printed own h = h
step_own s (lines.Session row) q printed own h = h
step_own s (lines.LowSession row next held) q printed own h = h
step_own s (lines.Coarse session) q printed own h = h
step_own s (lines.Look session m w z) q printed own h = h
step_own s (lines.High session m) q printed own h = h
step_own s (lines.Carry session back) q printed own h = h
step_own s (lines.Return session m back) q printed own h = h
step_own s (lines.Done session m t) q printed own h = h
step_own s (lines.Restart session m) q printed own h = h
step_own s (lines.ReceiverRestart session m) q printed own h = h

stops_aside : (running : Option Begun) (line : Line) (after : Option Begun) (printed : List Event) (fault : Fault) → is_lows line ≡ false → Stops running line after printed fault → IsAside running after printed
stops_aside None line after printed fault own h = absurd h
stops_aside (Some (Whole s)) line after printed fault own (timely, (q, end, n, size, o, f, e)) =
    let a = overfills_aside s.row s.past line q printed end n size o in
    record { same = ap (Whole' s.row) a.half ∙ sym (ap lows e); said = a.said }
stops_aside (Some (Alone s)) line after printed fault own (timely, (q, step, f, e)) = absurd (step_own s line q printed own step)

-- the line that stops a script, alone
last_line : (o : Openings) (running : Option Begun) (line : Line) (after : Option Begun) (printed : List Event) (fault : Fault) → Stops running line after printed fault
    → LowLeads o (lows running) (low_side_of (line ∷ [])) (lows after) (said_to_low printed)
last_line o running line after printed fault h =
    elim (is_lows line) as (λ b. is_lows line ≡ b → LowLeads o (lows running) (if b then line ∷ [] else []) (lows after) (said_to_low printed)) [
      | true ↦ λ own. (running, after, printed, [], refl, own, Stops' fault h, (refl, refl), sym (append-nil (said_to_low printed)))
      | false ↦ λ own. let a = stops_aside running line after printed fault own h in (a.same, a.said)
    ] refl

comes_leads : (o : Openings) (script : List Line) (after : Option Begun) (printed : List Event) → ComesTo o script after printed → LowLeads o Nobody (low_side_of script) (lows after) (said_to_low printed)
comes_leads o script after printed (inl h) = low_leads o None script after printed h
comes_leads o script after printed (inr s) =
    let whole = low_then o Nobody (lows s.running) (lows after) (low_side_of s.before) (low_side_of (s.line ∷ [])) (said_to_low s.first) (said_to_low s.last)
    (low_leads o None s.before s.running s.first s.leads) (last_line o s.running s.line after s.last s.fault s.stops) in
    let side : low_side_of script ≡ low_side_of s.before ++ low_side_of (s.line ∷ []) = ap low_side_of s.script_is ∙ filter-append is_lows s.before (s.line ∷ []) in
    let said : said_to_low printed ≡ said_to_low s.first ++ said_to_low s.last = ap said_to_low s.printed_is ∙ said-append s.first s.last in
    subst (λ (u : List Line × List Said). LowLeads o Nobody u.0 (lows after) u.1) (λ i. (sym side i, sym said i)) whole

module _ (o p : Openings) (P : List Line → List Said → List Said → Type 0) (decides : Decides P) (found : DecidesFound P) (goes_on : GoesOnBy P) where
  -- what was printed so far
  comes_alike : (script other : List Line) (r s : Option Begun) (xs ys : List Event)
      → ComesTo o script r xs → ComesTo p other s ys → OpenAlike o p script
      → low_side_of script ≡ low_side_of other → P (low_side_of script) (said_to_low xs) (said_to_low ys) → low_lines xs ≡ low_lines ys
  comes_alike script other r s xs ys h k opens same said =
      let a = comes_leads o script r xs h in
      let b = subst (λ l. LowLeads p Nobody l (lows s) (said_to_low ys)) (sym same) (comes_leads p other s ys k) in
      replies_alike r s (low_lines xs) (low_lines ys)
      (sides_alike o p P decides found goes_on Nobody Nobody (lows r) (lows s) (low_side_of script) (said_to_low xs) (said_to_low ys) tt (All-filter is_lows (OpensAlike o p) script opens) a b said)
      (replies_so o script r xs h) (replies_so p other s ys k)

  transcripts_alike : (script other : List Line) (xs ys : List Event) → IsTranscript o script xs → IsTranscript p other ys → OpenAlike o p script
      → low_side_of script ≡ low_side_of other → P (low_side_of script) (said_to_low xs) (said_to_low ys) → low_lines xs ≡ low_lines ys
  transcripts_alike script other xs ys (r, a, last, h, end, e) (s, b, last', k, end', f) opens same told =
      let x = ends_still r last end in
      let y = ends_still s last' end' in
      let tx : said_to_low xs ≡ said_to_low a = ap said_to_low e ∙ said-append a last ∙ ap (λ l. said_to_low a ++ l) x.said ∙ append-nil (said_to_low a) in
      let ty : said_to_low ys ≡ said_to_low b = ap said_to_low f ∙ said-append b last' ∙ ap (λ l. said_to_low b ++ l) y.said ∙ append-nil (said_to_low b) in
      let lx : low_lines xs ≡ low_lines a = ap low_lines e ∙ low-append a last ∙ ap (λ l. low_lines a ++ l) x.low ∙ append-nil (low_lines a) in
      let ly : low_lines ys ≡ low_lines b = ap low_lines f ∙ low-append b last' ∙ ap (λ l. low_lines b ++ l) y.low ∙ append-nil (low_lines b) in
      lx ∙ comes_alike script other r s a b (inl h) (inl k) opens same (subst (λ (u : List Said × List Said). P (low_side_of script) u.0 u.1) (λ i. (tx i, ty i)) told) ∙ sym ly

cancel : {X : Type 0} (ts later more : List X) → ts ++ later ≡ ts ++ more → later ≡ more
cancel [] later more e = e
cancel (t ∷ ts) later more e = cancel ts later more (let f : ts ++ later ≡ ts ++ more = cc in f)

-- ---- the first law: all that is told, in order ----

abbrev SameTold : List Line → List Said → List Said → Type 0
SameTold script ts us = map plain ts ≡ map plain us

told_decides : Decides SameTold
told_decides line script m f g later more at kind lf mf p = one_told f g m later more kind p

told_found : DecidesFound SameTold
told_found line script b c later more p = one_found b c later more p

told_goes_on : GoesOnBy SameTold
told_goes_on line script first later more p =
    cancel (map plain first) (map plain later) (map plain more) (sym (map-append first later) ∙ p ∙ map-append first more)

pub same_told : (o p : Openings) (script other : List Line) (xs ys : List Event) → IsTranscript o script xs → IsTranscript p other ys → OpenAlike o p script
    → low_side_of script ≡ low_side_of other → told_to_low xs ≡ told_to_low ys → low_lines xs ≡ low_lines ys
same_told o p script other xs ys h k opens same told =
    transcripts_alike o p SameTold told_decides told_found told_goes_on script other xs ys h k opens same (sym (told_is_said xs) ∙ told ∙ told_is_said ys)

pub same_told_so_far : (o p : Openings) (script other : List Line) (r s : Option Begun) (xs ys : List Event) → ComesTo o script r xs → ComesTo p other s ys → OpenAlike o p script
    → low_side_of script ≡ low_side_of other → told_to_low xs ≡ told_to_low ys → low_lines xs ≡ low_lines ys
same_told_so_far o p script other r s xs ys h k opens same told =
    comes_alike o p SameTold told_decides told_found told_goes_on script other r s xs ys h k opens same (sym (told_is_said xs) ∙ told ∙ told_is_said ys)

pub same_but_high : (o p : Openings) (before highs others later : List Line) (xs ys : List Event)
    → low_side_of highs ≡ [] → low_side_of others ≡ []
    → IsTranscript o (before ++ (highs ++ later)) xs → IsTranscript p (before ++ (others ++ later)) ys
    → OpenAlike o p (before ++ (highs ++ later)) → told_to_low xs ≡ told_to_low ys → low_lines xs ≡ low_lines ys
same_but_high o p before highs others later xs ys e f h k opens told =
    same_told o p (before ++ (highs ++ later)) (before ++ (others ++ later)) xs ys h k opens
    (split highs ∙ ap (λ l. low_side_of before ++ (l ++ low_side_of later)) (e ∙ sym f) ∙ sym (split others)) told
  where
    split : (mid : List Line) → low_side_of (before ++ (mid ++ later)) ≡ low_side_of before ++ (low_side_of mid ++ low_side_of later)
    split mid = filter-append is_lows before (mid ++ later) ∙ ap (λ l. low_side_of before ++ l) (filter-append is_lows mid later)

-- ---- the second law: full moments, what restarts find, and averages ----

pairs_tail : {X : Type 0} (R : X → X → Type 0) (x : X) (xs : List X) → AllPairs R (x ∷ xs) → AllPairs R xs
pairs_tail R x xs h = λ i j d less within. h (suc i) (suc j) d (omega arith) (omega arith)

all_by : {X : Type 0} (P : X → Type 0) (xs : List X) → All P xs → AllByRecursion P xs
all_by P [] h = tt
all_by P (x ∷ xs) h = (h 0 x (omega arith), all_by P xs (All-tail P x xs h))

pairs_head : {X : Type 0} (R : X → X → Type 0) (x : X) (xs : List X) → AllPairs R (x ∷ xs) → AllByRecursion (R x) xs
pairs_head R x xs h = all_by (R x) xs (λ k d within. h 0 (suc k) d (omega arith) (omega arith))

abbrev AreApart : List ℕ → Type 0
AreApart moments = AllPairs (λ a b. a ≢ b) moments

-- the moment of the first line, if it has one, is none of the others, which are apart
record Apart (o : Option ℕ) (rest : List ℕ) : Type 0 where
  head : (m : ℕ) → o ≡ Some m → AllByRecursion (λ n. m ≢ n) rest
  tail : AreApart rest

apart : (o : Option ℕ) (rest : List ℕ) → AreApart (cons_option o rest) → Apart o rest
apart None rest h = record { head = λ m e. absurd (cc); tail = h }
apart (Some k) rest h = record {
  head = λ m e. subst (λ j. AllByRecursion (λ n. j ≢ n) rest) (let f : k ≡ m = cc in f) (pairs_head (λ a b. a ≢ b) k rest h);
  tail = pairs_tail (λ a b. a ≢ b) k rest h;
}

record SameFull (script : List Line) (ts us : List Said) : Type 0 where
  own : HaveOwnMoments script
  full : filter_map full_said ts ≡ filter_map full_said us
  average : filter_map average_said ts ≡ filter_map average_said us
  restart : filter_map restart_said ts ≡ filter_map restart_said us

full_decides : Decides SameFull
full_decides line script m f g later more at kind lf mf p =
    let free = (apart (look_moment line) (filter_map look_moment script) p.own).head m at in
    one_full f g m later more kind (lf m free) (mf m free) p.full p.average

full_found : DecidesFound SameFull
full_found line script b c later more p = same_found b c (filter_map restart_said later) (filter_map restart_said more) p.restart

chosen_goes_on : {X : Type 0} (h : Said → Option X) (first later more : List Said) → filter_map h (first ++ later) ≡ filter_map h (first ++ more) → filter_map h later ≡ filter_map h more
chosen_goes_on h first later more e =
    cancel (filter_map h first) (filter_map h later) (filter_map h more) (sym (filter_map-append h first later) ∙ e ∙ filter_map-append h first more)

full_goes_on : GoesOnBy SameFull
full_goes_on line script first later more p = record {
  own = (apart (look_moment line) (filter_map look_moment script) p.own).tail;
  full = chosen_goes_on full_said first later more p.full;
  average = chosen_goes_on average_said first later more p.average;
  restart = chosen_goes_on restart_said first later more p.restart;
}

said_full : (script : List Line) (xs ys : List Event) → HaveOwnMoments script
    → full_moments xs ≡ full_moments ys → restarts_in xs ≡ restarts_in ys → averages xs ≡ averages ys → SameFull script (said_to_low xs) (said_to_low ys)
said_full script xs ys own full restart average = record {
  own = own;
  full = sym (full_is_said xs) ∙ full ∙ full_is_said ys;
  average = sym (average_is_said xs) ∙ average ∙ average_is_said ys;
  restart = sym (restart_is_said xs) ∙ restart ∙ restart_is_said ys;
}

pub same_full : (o p : Openings) (script other : List Line) (xs ys : List Event) → IsTranscript o script xs → IsTranscript p other ys → OpenAlike o p script
    → low_side_of script ≡ low_side_of other → HaveOwnMoments (low_side_of script)
    → full_moments xs ≡ full_moments ys → restarts_in xs ≡ restarts_in ys → averages xs ≡ averages ys → low_lines xs ≡ low_lines ys
same_full o p script other xs ys h k opens same own full restart average =
    transcripts_alike o p SameFull full_decides full_found full_goes_on script other xs ys h k opens same (said_full (low_side_of script) xs ys own full restart average)

pub same_full_so_far : (o p : Openings) (script other : List Line) (r s : Option Begun) (xs ys : List Event) → ComesTo o script r xs → ComesTo p other s ys → OpenAlike o p script
    → low_side_of script ≡ low_side_of other → HaveOwnMoments (low_side_of script)
    → full_moments xs ≡ full_moments ys → restarts_in xs ≡ restarts_in ys → averages xs ≡ averages ys → low_lines xs ≡ low_lines ys
same_full_so_far o p script other r s xs ys h k opens same own full restart average =
    comes_alike o p SameFull full_decides full_found full_goes_on script other r s xs ys h k opens same (said_full (low_side_of script) xs ys own full restart average)
