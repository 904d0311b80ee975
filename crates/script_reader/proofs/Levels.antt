-- In a coarse session each average that Low is told is a level.
use Rattle.std.proofs.Common.{◌≡◌, ⊎_elim, ℕ, zero, suc, ◌+◌, ◌-◌, ◌*◌, ◌^◌, ◌<◌, ◌≤◌, ◌&&◌, ◌||◌, min, Bool, true, false, nat_le, pow_mono, List, [], ◌∷◌, ◌++◌, length, Option, Some, None, refl, sym, ap, ◌∙◌, subst, arith, append_assoc, append-nil}
use Rattle.std.specs.Prelude.{◌==◌, not, if◌then◌else◌, filter_map}
use Rattle.std.specs.List.{AllByRecursion}
use Rattle.std.proofs.lemmas.Bool.{eqb-true, le-leb, and_parts}
use Rattle.std.proofs.lemmas.Bool.Decides.{nat_tests}
use Rattle.std.proofs.lemmas.List.Elements.{filter_map-append}
use native.Mathlib.Nat.{pow-succ'}
use Rattle.pump_frame.specs.Averages.{level_from, level, IsLevel, down, averaging_of, mean_of}
use Rattle.pump_frame.specs.declared.averaging.Averaging.{Averaging}
use Rattle.pump_frame.specs.declared.row.SessionRow.{SessionRow}
use Rattle.pump_core.specs.declared.feedback.Feedback.{Feedback}
use Rattle.pump_core.specs.declared.feedback.Feedback.TheVariants.{Quiet, Full, Passed, Released, Repeat}
use Rattle.pump_core.specs.History.{Arrival, Look, Opening, History}
use Rattle.pump_core.specs.Exchanges.{is_gone, Part, count_after, greeted_after}
use Rattle.pump_core.specs.Comings.{may_take}
use Rattle.script_reader.specs.declared.line.Line.{Line}
use Rattle.script_reader.specs.declared.line.Line.TheVariants as lines
use Rattle.script_reader.specs.declared.line.ToldFeedback.{ToldFeedback}
use Rattle.script_reader.specs.declared.line.ToldFeedback.TheVariants as tolds
use Rattle.script_reader.specs.declared.fault.Fault.{Fault}
use Rattle.script_reader.specs.declared.event.Event.{Event}
use Rattle.script_reader.specs.Past.{Past, pair}
use Rattle.script_reader.specs.Openings.{Openings}
use Rattle.script_reader.specs.Lows.{is_owed, comes_again, offer_feedback, feedback_at, feedback, IsLook}
use Rattle.script_reader.specs.Steps.{joined, lost, LineStep}
use Rattle.script_reader.specs.Alone.{PastAlone, has_message, told_of_offer, told_of_read, told_of_arrival, told_feedback, IsToldLook, joined_alone, lost_alone, tells_level, is_apt_alone, StepAlone}
use Rattle.script_reader.specs.Scripts.{Begun, Whole, Alone, IsNew, made_coarse, GoesOn, Leads, LeadTo, Stops, StopsAfter, ComesTo}
use Rattle.script_reader.specs.Readouts.{row_of, history_of}
use Rattle.script_reader.specs.Sides.{is_lows, averages}
use Rattle.script_reader.proofs.Leading.{led}
use Rattle.script_reader.proofs.LowAside.{step_aside}
use Rattle.script_reader.proofs.LowAlike.{Half}
use Rattle.script_reader.proofs.LowFunction.{overfills_aside}
use Rattle.script_reader.proofs.Telling.{Said, said_to_low, said-append, said_by, said_of_look, average_said, average_is_said}

-- ---- levels ----

doubled : (i : ℕ) → 2 * 2 ^ i ≡ 2 ^ suc i
doubled i = sym (pow-succ' 2 i)

one_step : (many i mean : ℕ) (b : Bool) → nat_le mean (2 ^ i) ≡ b
    → level_from (suc many) (2 ^ i) mean ≡ (if b then 2 ^ i else level_from many (2 ^ suc i) mean)
unfolding level_from
one_step many i mean b e =
    ap (λ t. if t then 2 ^ i else level_from many (2 * 2 ^ i) mean) e ∙ ap (λ n. if b then 2 ^ i else level_from many n mean) (doubled i)

least_from : (many first mean : ℕ) → min first 1000000000 ≤ level_from many first mean
unfolding level_from
least_from zero first mean = omega arith
least_from (suc many) first mean =
    elim (nat_le mean first) as (λ b. min first 1000000000 ≤ (if b then first else level_from many (2 * first) mean)) [
      | true ↦ omega arith
      | false ↦ let more = least_from many (2 * first) mean in omega (arith, more)
    ]

again_from : (many i mean : ℕ) → i + many ≤ 30 → level_from many (2 ^ i) (level_from many (2 ^ i) mean) ≡ level_from many (2 ^ i) mean
unfolding level_from
again_from zero i mean few = refl
again_from (suc many) i mean few =
    elim (nat_le mean (2 ^ i)) as (λ b. nat_le mean (2 ^ i) ≡ b → level_from (suc many) (2 ^ i) (level_from (suc many) (2 ^ i) mean) ≡ level_from (suc many) (2 ^ i) mean) [
      | true ↦ λ e.
          let is = one_step many i mean true e in
          ap (λ n. level_from (suc many) (2 ^ i) n) is ∙ one_step many i (2 ^ i) true (le-leb (2 ^ i) (2 ^ i) (omega arith)) ∙ sym is
      | false ↦ λ e.
          let is = one_step many i mean false e in
          let r = level_from many (2 ^ suc i) mean in
          let low : i ≤ 29 = omega (arith, few) in
          let some : 0 ≤ i = omega arith in
          let most : 2 ^ i ≤ 2 ^ 29 = pow_mono low in
          let least : 2 ^ 0 ≤ 2 ^ i = pow_mono some in
          let from = least_from many (2 ^ suc i) mean in
          let above : 2 ^ i < r = omega (arith, most, least, from, doubled i) in
          let high : nat_le r (2 ^ i) ≡ false = grind (arith, nat_tests) in
          ap (λ n. level_from (suc many) (2 ^ i) n) is ∙ one_step many i r false high ∙ again_from many (suc i) mean (omega (arith, few)) ∙ sym is
    ] refl

-- a level is its own level
pub level_again : (mean : ℕ) → IsLevel (level mean)
unfolding level
level_again mean = again_from 30 0 mean (omega arith)

down_level : (a : Averaging) (mean : ℕ) → a.coarse ≡ true → IsLevel (down a mean)
unfolding down
down_level a mean coarse = subst (λ (b : Bool). IsLevel (if b then level mean else mean)) (sym coarse) (level_again mean)

-- ---- what a look is told ----

-- its average, if it has one, is a level
abbrev TellsLevel : Feedback → Type 0
TellsLevel (Passed s) = IsLevel s.average
TellsLevel (Repeat s) = IsLevel s.average
TellsLevel _ = Unit {0}

either_level : (b : Bool) (f g : Feedback) → TellsLevel f → TellsLevel g → TellsLevel (if b then f else g)
either_level true f g h k = h
either_level false f g h k = k

pair_level : (row : SessionRow) (p : Past) → row.coarse ≡ true → IsLevel (pair row p).average
pair_level row p coarse = down_level (averaging_of row) (mean_of (averaging_of row) p.times) coarse

offer_level : (row : SessionRow) (p : Past) (before : List Part) → row.coarse ≡ true → TellsLevel (offer_feedback row p before)
offer_level row p before coarse =
    either_level (length p.world.held == row.capacity - 2) Full (if is_owed before then Passed (pair row p) else Released) tt
    (either_level (is_owed before) (Passed (pair row p)) Released (pair_level row p coarse) tt)

at_level : (row : SessionRow) (p : Past) (before : List Part) (hand : Option ℕ) (a : Arrival) → row.coarse ≡ true → TellsLevel (feedback_at row p before hand a)
at_level row p before (Some n) a coarse = offer_level row p before coarse
at_level row p before None a coarse = either_level _ (Repeat (pair row p)) Quiet (pair_level row p coarse) tt

feedback_level : (row : SessionRow) (p : Past) (before : List Part) (a : Arrival) → row.coarse ≡ true → TellsLevel (feedback row p before a)
feedback_level row p before a coarse = either_level (is_gone a) Quiet _ tt (at_level row p before p.world.low_hand a coarse)

-- what a line tells a coarse session is a level
plain_level : (row : SessionRow) (average : ℕ) → row.coarse ≡ true → (not row.coarse || level average == average) ≡ true → IsLevel average
plain_level row average coarse e =
    eqb-true (level average) average (subst (λ (b : Bool). (not b || level average == average) ≡ true) coarse e)

told_offer : (row : SessionRow) (owed : Bool) (told : ToldFeedback) → row.coarse ≡ true → tells_level row told ≡ true → TellsLevel (told_of_offer owed told)
told_offer row true (tolds.Pair count average) coarse e = plain_level row average coarse e
told_offer row false (tolds.Pair count average) coarse e = tt
told_offer row owed tolds.Quiet coarse e = tt
told_offer row owed tolds.Full coarse e = tt

told_read : (row : SessionRow) (told : ToldFeedback) → row.coarse ≡ true → tells_level row told ≡ true → IsLevel (told_of_read row told).average
told_read row (tolds.Pair count average) coarse e = plain_level row average coarse e
told_read row tolds.Quiet coarse e = down_level (averaging_of row) (mean_of (averaging_of row) []) coarse
told_read row tolds.Full coarse e = down_level (averaging_of row) (mean_of (averaging_of row) []) coarse

told_level : (row : SessionRow) (o : Opening) (before : List Part) (told : ToldFeedback) (a : Arrival) → row.coarse ≡ true → tells_level row told ≡ true
    → TellsLevel (told_feedback row o before told a)
told_level row o before told a coarse e =
    let again = may_take o before && comes_again row (count_after o before) (greeted_after row before) a in
    let offered = told_of_offer (is_owed before) told in
    let arrived = told_of_arrival row o before told a in
    either_level (is_gone a) Quiet (if has_message o before then offered else arrived) tt
    (either_level (has_message o before) offered arrived (told_offer row (is_owed before) told coarse e)
    (either_level again (Repeat (told_of_read row told)) Quiet (told_read row told coarse e) tt))

-- ---- what is said ----

-- the averages among what is said are levels
abbrev AreLevels : List Said → Type 0
AreLevels said = AllByRecursion IsLevel (filter_map average_said said)

both_levels : (xs ys : List ℕ) → AllByRecursion IsLevel xs → AllByRecursion IsLevel ys → AllByRecursion IsLevel (xs ++ ys)
both_levels [] ys h k = k
both_levels (x ∷ xs) ys h k = (h.0, both_levels xs ys h.1 k)

levels_on : (xs ys : List Event) → AreLevels (said_to_low xs) → AreLevels (said_to_low ys) → AreLevels (said_to_low (xs ++ ys))
levels_on xs ys h k =
    subst (AllByRecursion IsLevel) (sym (ap (filter_map average_said) (said-append xs ys) ∙ filter_map-append average_said (said_to_low xs) (said_to_low ys)))
    (both_levels (filter_map average_said (said_to_low xs)) (filter_map average_said (said_to_low ys)) h k)

levels_by : (m : ℕ) (f : Feedback) → TellsLevel f → AreLevels (said_by m f)
levels_by m Quiet h = tt
levels_by m Full h = tt
levels_by m (Passed s) h = (h, tt)
levels_by m Released h = tt
levels_by m (Repeat s) h = (h, tt)

-- ---- a line ----

-- how many looks and lives a history has before the look that is to come
abbrev touched : History → ℕ
touched h = length h.life.looks + length h.earlier

-- what a line of a session does: a coarse one is told levels, and where nothing was done before, nothing was said
record Does (row : SessionRow) (p q : History) (printed : List Event) : Type 0 where
  levels : row.coarse ≡ true → AreLevels (said_to_low printed)
  still : touched q ≡ 0 → (touched p ≡ 0) × (said_to_low printed ≡ [])

quiet_does : (row : SessionRow) (p q : History) (printed : List Event) → q ≡ p → said_to_low printed ≡ [] → Does row p q printed
quiet_does row p q printed same none = record {
  levels = λ coarse. subst AreLevels (sym none) tt;
  still = λ e. (sym (ap touched same) ∙ e, none);
}

look_does : (row : SessionRow) (p : Past) (x : Look) (q : Past) (printed : List Event) → IsLook row p x q printed → Does row p.history q.history printed
look_does row p x q printed i = record {
  levels = λ coarse.
      subst AreLevels (sym (ap said_to_low i.printed_is ∙ said_of_look row.id x.moment _ x.feedback i.new))
      (levels_by x.moment x.feedback (subst TellsLevel (sym i.told) (feedback_level row p i.before x.arrival coarse)));
  still = λ e. let more = sym (ap touched i.history) ∙ e in absurd (omega (arith, more));
}

told_does : (row : SessionRow) (p : PastAlone) (told : ToldFeedback) (x : Look) (q : PastAlone) (printed : List Event) → (row.coarse ≡ true → tells_level row told ≡ true)
    → IsToldLook row p told x q printed → Does row p.history q.history printed
told_does row p told x q printed apt i = record {
  levels = λ coarse.
      subst AreLevels (sym (ap said_to_low i.printed_is ∙ said_of_look row.id x.moment _ x.feedback i.new))
      (levels_by x.moment x.feedback (subst TellsLevel (sym i.feedback) (told_level row p.history.life.opening i.before told x.arrival coarse (apt coarse))));
  still = λ e. let more = sym (ap touched i.history) ∙ e in absurd (omega (arith, more));
}

aside_does : (row : SessionRow) (p : Past) (line : Line) (q : Past) (printed : List Event) → LineStep row p line q printed → is_lows line ≡ false → Does row p.history q.history printed
aside_does row p line q printed step own =
    let a = step_aside row p line q printed own step in
    quiet_does row p.history q.history printed (sym (ap (λ (h : Half). h.history) a.half)) a.said

step_does : (row : SessionRow) (p : Past) (line : Line) (q : Past) (printed : List Event) → LineStep row p line q printed → Does row p.history q.history printed
step_does row p lines.Skip q printed h = absurd h
step_does row p (lines.Session other) q printed h = absurd h
step_does row p (lines.LowSession other next held) q printed h = absurd h
step_does row p (lines.Coarse session) q printed h = absurd h
step_does row p (lines.Told session m w fault told a) q printed h = absurd h
step_does row p (lines.Step session m w) q printed h = absurd h
step_does row p (lines.Look session m w a) q printed (c, comes, (few, (f, i))) = look_does row (joined p c) _ q printed i
step_does row p (lines.Gone session m) q printed (f, i) = look_does row (lost p) _ q printed i
step_does row p (lines.High session m) q printed h = aside_does row p (lines.High session m) q printed h refl
step_does row p (lines.Carry session back) q printed h = aside_does row p (lines.Carry session back) q printed h refl
step_does row p (lines.Return session m back) q printed h = aside_does row p (lines.Return session m back) q printed h refl
step_does row p (lines.Done session m t) q printed h = aside_does row p (lines.Done session m t) q printed h refl
step_does row p (lines.ReceiverRestart session m) q printed h = aside_does row p (lines.ReceiverRestart session m) q printed h refl
step_does row p (lines.Restart session m) q printed (h, e, f) = record {
  levels = λ coarse. subst (λ (l : List Event). AreLevels (said_to_low l)) (sym f) tt;
  still = λ none. let more = sym (ap (λ (t : Past). touched t.history) e) ∙ none in absurd (omega (arith, more));
}

step_low_does : (row : SessionRow) (p : PastAlone) (line : Line) (is_fault : Bool) (q : PastAlone) (printed : List Event) → is_apt_alone row p line ≡ true
    → StepAlone row p line is_fault q printed → Does row p.history q.history printed
step_low_does row p (lines.Told session m w fault told z) is_fault q printed apt (c, comes, (few, (f, i))) =
    let is = (and_parts (session == row.id) (nat_le p.moment m && tells_level row told) apt).1 in
    told_does row (joined_alone p fault c) told _ q printed (λ coarse. (and_parts (nat_le p.moment m) (tells_level row told) is).1) i
step_low_does row p (lines.Gone session m) is_fault q printed apt (f, i) = told_does row (lost_alone p) tolds.Quiet _ q printed (λ coarse. refl) i
step_low_does row p lines.Skip is_fault q printed apt h = absurd h
step_low_does row p (lines.Session other) is_fault q printed apt h = absurd h
step_low_does row p (lines.LowSession other next held) is_fault q printed apt h = absurd h
step_low_does row p (lines.Coarse session) is_fault q printed apt h = absurd h
step_low_does row p (lines.Look session m w z) is_fault q printed apt h = absurd h
step_low_does row p (lines.High session m) is_fault q printed apt h = absurd h
step_low_does row p (lines.Carry session back) is_fault q printed apt h = absurd h
step_low_does row p (lines.Return session m back) is_fault q printed apt h = absurd h
step_low_does row p (lines.Done session m t) is_fault q printed apt h = absurd h
step_low_does row p (lines.Restart session m) is_fault q printed apt h = absurd h
step_low_does row p (lines.ReceiverRestart session m) is_fault q printed apt h = absurd h
step_low_does row p (lines.Step session m w) is_fault q printed apt h = absurd h

-- ---- a script ----

-- what was said so far: levels, where the session is coarse, and nothing, where nothing was done
abbrev Told : Option Begun → List Event → Type 0
Told None printed = said_to_low printed ≡ []
Told (Some s) printed = ((row_of s).coarse ≡ true → AreLevels (said_to_low printed)) × (touched (history_of s) ≡ 0 → said_to_low printed ≡ [])

none_told : (s : Begun) (printed : List Event) → said_to_low printed ≡ [] → Told (Some s) printed
none_told s printed none = (λ coarse. subst AreLevels (sym none) tt, λ e. none)

none_more : (printed more : List Event) → said_to_low printed ≡ [] → said_to_low more ≡ [] → said_to_low (printed ++ more) ≡ []
none_more printed more h k = said-append printed more ∙ (λ i. h i ++ k i)

does_told : (row : SessionRow) (p q : History) (printed more : List Event) → Does row p q more
    → (row.coarse ≡ true → AreLevels (said_to_low printed)) × (touched p ≡ 0 → said_to_low printed ≡ [])
    → (row.coarse ≡ true → AreLevels (said_to_low (printed ++ more))) × (touched q ≡ 0 → said_to_low (printed ++ more) ≡ [])
does_told row p q printed more d (levels, still) = (
  λ coarse. levels_on printed more (levels coarse) (d.levels coarse),
  λ e. let before = d.still e in none_more printed more (still before.0) before.1,
)

goes_told : (s : Begun) (line : Line) (after : Option Begun) (printed more : List Event) → GoesOn s line after more → Told (Some s) printed → Told after (printed ++ more)
goes_told (Whole s) line after printed more (timely, (q, step, e)) k =
    subst (λ (r : Option Begun). Told r (printed ++ more)) (sym e) (does_told s.row s.past.history q.history printed more (step_does s.row s.past line q more step) k)
goes_told (Alone s) line after printed more (apt, (q, step, e)) k =
    subst (λ (r : Option Begun). Told r (printed ++ more)) (sym e) (does_told s.row s.past.history q.history printed more (step_low_does s.row s.past line false q more apt step) k)

new_untouched : (o : Openings) (s : Begun) → IsNew o s → touched (history_of s) ≡ 0
new_untouched o (Whole s) new = ap (λ (p : Past). touched p.history) new.2
new_untouched o (Alone s) (next, held, e) = ap (λ (p : PastAlone). touched p.history) e

leads_told : (o : Openings) (running : Option Begun) (line : Line) (after : Option Begun) (printed more : List Event) → Leads o running line after more → Told running printed
    → Told after (printed ++ more)
leads_told o running line after printed more h k =
    led o running line after more h
    (λ skip e f. subst (λ (t : Option Begun × List Event). Told t.0 t.1) (λ i. (sym e i, (sym (append-nil printed) ∙ ap (λ xs. printed ++ xs) (sym f)) i)) k)
    (λ s none new e f. subst (λ (r : Option Begun). Told r (printed ++ more)) (sym e)
    (none_told s (printed ++ more) (none_more printed more (subst (λ (r : Option Begun). Told r printed) none k) (ap said_to_low f))))
    (λ s some goes. goes_told s line after printed more goes (subst (λ (r : Option Begun). Told r printed) some k))
    (λ s session some is new again e f. subst (λ (r : Option Begun). Told r (printed ++ more)) (sym e)
    (none_told (made_coarse s) (printed ++ more) (none_more printed more ((subst (λ (r : Option Begun). Told r printed) some k).1 (new_untouched o s new)) (ap said_to_low f))))

lead_told : (o : Openings) (running : Option Begun) (script : List Line) (after : Option Begun) (printed more : List Event) → LeadTo o running script after more → Told running printed
    → Told after (printed ++ more)
lead_told o running [] after printed more (e, f) k =
    subst (λ (t : Option Begun × List Event). Told t.0 t.1) (λ i. (sym e i, (sym (append-nil printed) ∙ ap (λ xs. printed ++ xs) (sym f)) i)) k
lead_told o running (line ∷ script) after printed more (mid, first, second, h, later, e) k =
    subst (Told after) (append_assoc printed first second ∙ ap (λ xs. printed ++ xs) (sym e))
    (lead_told o mid script after (printed ++ first) second later (leads_told o running line mid printed first h k))

stops_told : (running : Option Begun) (line : Line) (after : Option Begun) (printed more : List Event) (fault : Fault) → Stops running line after more fault → Told running printed
    → Told after (printed ++ more)
stops_told None line after printed more fault h k = absurd h
stops_told (Some (Whole s)) line after printed more fault (timely, (q, end, n, size, o, f, e)) k =
    let a = overfills_aside s.row s.past line q more end n size o in
    let d = quiet_does s.row s.past.history q.history more (sym (ap (λ (h : Half). h.history) a.half)) a.said in
    subst (λ (r : Option Begun). Told r (printed ++ more)) (sym e) (does_told s.row s.past.history q.history printed more d k)
stops_told (Some (Alone s)) line after printed more fault (apt, (q, step, f, e)) k =
    subst (λ (r : Option Begun). Told r (printed ++ more)) (sym e) (does_told s.row s.past.history q.history printed more (step_low_does s.row s.past line true q more apt step) k)

comes_told : (o : Openings) (script : List Line) (after : Option Begun) (printed : List Event) → ComesTo o script after printed → Told after printed
comes_told o script after printed h =
    ⊎_elim (λ (l : LeadTo o None script after printed). lead_told o None script after [] printed l refl)
    (λ (s : StopsAfter o script after printed).
    subst (Told after) (sym s.printed_is) (stops_told s.running s.line after s.first s.last s.fault s.stops (lead_told o None s.before s.running [] s.first s.leads refl))) h

-- what a coarse session was told so far are levels
pub told_levels : (o : Openings) (script : List Line) (s : Begun) (printed : List Event) → ComesTo o script (Some s) printed → (row_of s).coarse ≡ true
    → AllByRecursion IsLevel (averages printed)
told_levels o script s printed h coarse =
    subst (AllByRecursion IsLevel) (sym (average_is_said printed)) ((comes_told o script (Some s) printed h).0 coarse)
