-- A race in which nothing but frames came has few lines in its record.
use Rattle.std.proofs.Common.{◌≡◌, ℕ, zero, suc, ◌+◌, ◌^◌, ◌<◌, ◌≤◌, Bool, true, false, List, [], ◌∷◌, ◌++◌, length, codes, decimal, Option, Some, None, refl, sym, ap, ◌∙◌, subst, append-nil, arith, length-append}
use Rattle.std.specs.Prelude.{◌*◌, if◌then◌else◌, ◌||◌, ◌&&◌, not, nat_le, is_some, map}
use Rattle.std.specs.List.{AllByRecursion}
use Rattle.std.proofs.lemmas.List.{length-map}
use Rattle.pump_frame.specs.declared.frame.Frame.{Frame}
use Rattle.pump_frame.specs.declared.row.SessionRow.{SessionRow}
use Rattle.pump_core.specs.declared.feedback.Feedback.{Feedback}
use Rattle.pump_core.specs.declared.feedback.Feedback.TheVariants as feedbacks
use Rattle.pump_core.specs.Phases.{Phase}
use Rattle.pump_core.specs.Phases.{Idle, Passing, Waiting as Waits, Down}
use Rattle.pump_core.specs.History.{Arrival, Look, Opening}
use Rattle.pump_core.specs.History.{Nothing, Came, Bad, Gone}
use Rattle.pump_core.specs.Comings.{is_nothing}
use Rattle.pump_core.specs.Exchanges.{is_gone, Part}
use Rattle.pump_core.specs.Replies.{acknowledgement}
use Rattle.pump_core.specs.Standing.{State, end_of}
use Rattle.pump_core.specs.Step.{after_in, reply_in, takes_in, fits_in, fits_passing, is_full, is_quiet, passed}
use Rattle.pump_core.proofs.Cuts.{one_cut}
use Rattle.script_reader.specs.Generated.{generated_row}
use Rattle.relay_threads.specs.Records.{Made, life_made, AreMade, passes_on, was_full, is_recorded, record_of}
use Rattle.relay_threads.specs.RecordLines.{comment_lines, looks_script, opening_line, record_script, record_text, line_of}
use Rattle.relay_threads.proofs.Kept.{thin_of, recorded_at}
use Rattle.race.specs.MadeLooks.{IsPlainArrival, TakeAll, frame_in, frames_of}
use Rattle.race.specs.Messages.{race_items, race_opening, data_frame, race_frames}
use Rattle.race.specs.Race.{IsRaceRecord, number_line, time_lines, end_line, end_lines}
use Rattle.race.specs.Turns.{turn, turns, CanTurn}
use Rattle.race.proofs.RaceItems.{items_count}
use Rattle.pump_audit.specs.Texts.{line_ends}
use Rattle.pump_audit.proofs.Writing.{ends_append, one_more, comment_text}
use Rattle.race.specs.MadeLooks.{OnlyFrames}
use Rattle.clean_records.proofs.LineEnds.{record_ends}
use Rattle.clean_records.proofs.RaceEnd.{time_is_text, took_is_text, end_is_text, turns_few}
use Rattle.clean_records.proofs.Goes.{state, moves}

-- ---- the lines of looks ----

comment_short : (r : Option Frame) → length (comment_lines r) ≤ 1
comment_short None = omega arith
comment_short (Some f) = omega arith

pub script_short : (row : SessionRow) (made : List Made) → length (looks_script row made) ≤ 2 * length made
script_short row [] = omega arith
script_short row (m ∷ before) =
    let a = script_short row before in
    let b = comment_short m.reply in
    let c = length-append (looks_script row before) (line_of row m ∷ comment_lines m.reply) in
    omega (arith, a, b, c)

-- ---- how many looks are recorded ----

abbrev mark : Bool → ℕ
mark b = if b then 1 else 0

-- how many looks more are recorded in a phase before an arrival is taken again, where the newest look found the passage full or not
abbrev ahead : Phase → Bool → ℕ
ahead Idle full = 0
ahead (Passing owed) true = 2
ahead (Passing owed) false = 3
ahead (Waits n at) full = 1
ahead Down full = 0

-- whether a look is recorded
abbrev shows : Bool → Option Frame → Feedback → Bool → Bool
shows taken r f full = taken || (is_some r || (passes_on f || (is_full f && not full)))

module _ (row : SessionRow) (s : State) (x : Look) (full : Bool) (frames more shown : ℕ) (was : shown + ahead s.phase full ≤ 4 * frames) where
  -- what is to be shown of the look, which leads to t
  abbrev Holds : State → Bool → Option Frame → Type 0
  Holds t taken r = shown + mark (shows taken r x.feedback full) + ahead t.phase (is_full x.feedback) ≤ 4 * (frames + more)

  -- so much of what was ahead is used
  spent : (was_ahead now shows_it : ℕ) → ahead s.phase full ≡ was_ahead → shows_it + now ≤ was_ahead → shown + shows_it + now ≤ 4 * (frames + more)
  spent was_ahead now shows_it e le = omega (arith, was, e, le)

  quiet_by : (f : Feedback) → is_quiet f ≡ true → (passes_on f ≡ false) × (is_full f ≡ false)
  quiet_by feedbacks.Quiet e = (refl, refl)
  quiet_by feedbacks.Full e = absurd (cc)
  quiet_by (feedbacks.Passed seen) e = absurd (cc)
  quiet_by feedbacks.Released e = absurd (cc)
  quiet_by (feedbacks.Repeat seen) e = absurd (cc)

  -- a quiet look that takes nothing and replies nothing
  idles : (t : State) (n : ℕ) → ahead s.phase full ≡ n → ahead t.phase false ≡ n → is_quiet x.feedback ≡ true → Holds t false None
  idles t n e f quiet =
      let q = quiet_by x.feedback quiet in
      subst (λ (z : Bool × Bool). shown + mark (false || (false || (z.0 || (z.1 && not full)))) + ahead t.phase z.1 ≤ 4 * (frames + more)) (λ i. (sym q.0 i, sym q.1 i))
      (subst (λ (k : ℕ). shown + 0 + k ≤ 4 * (frames + more)) (sym f) (spent n n 0 e (omega arith)))

  -- .. and one that replies
  replies : (t : State) (g : Frame) → ahead s.phase full ≡ 1 → t.phase ≡ Idle → is_quiet x.feedback ≡ true → Holds t false (Some g)
  replies t g e f quiet =
      subst (λ (p : Phase). shown + 1 + ahead p (is_full x.feedback) ≤ 4 * (frames + more)) (sym f) (spent 1 0 1 e (omega arith))

  -- a look that takes something
  ahead_most : (p : Phase) (w : Bool) → ahead p w ≤ 3
  ahead_most Idle w = omega arith
  ahead_most (Passing owed) true = omega arith
  ahead_most (Passing owed) false = omega arith
  ahead_most (Waits n at) w = omega arith
  ahead_most Down w = omega arith

  took : (t : State) (r : Option Frame) → more ≡ 1 → Holds t true r
  took t r one =
      let a = ahead_most t.phase (is_full x.feedback) in
      let h : shown + 1 + ahead t.phase (is_full x.feedback) ≤ 4 * (frames + more) = omega (arith, a, was, one) in
      h

  -- ---- by phase ----

  at_phase : (p : Phase) (w : Bool) (n : ℕ) → s.phase ≡ p → ahead p w ≡ n → ahead s.phase w ≡ n
  at_phase p w n e f = ap (λ (q : Phase). ahead q w) e ∙ f

  waited : (n at : ℕ) (gone late : Bool) → gone ≡ false → s.phase ≡ Waits n at → is_quiet x.feedback ≡ true
      → Holds (if gone then record { next = s.next; greeted = false; phase = Idle } else (if late then record s { phase = Idle } else s)) gone (if gone then None else (if late then Some (acknowledgement row n) else None))
  waited n at true late stay e quiet = absurd (cc)
  waited n at false true stay e quiet = replies (record s { phase = Idle }) (acknowledgement row n) (at_phase (Waits n at) full 1 e refl) refl quiet
  waited n at false false stay e quiet = idles s 1 (at_phase (Waits n at) full 1 e refl) (at_phase (Waits n at) false 1 e refl) quiet

  fulls : (owed : Option ℕ) (w : Bool) → full ≡ w → s.phase ≡ Passing owed → shown + mark (not w) + ahead s.phase true ≤ 4 * (frames + more)
  fulls owed true f e = spent 2 (ahead s.phase true) 0 (ap (ahead s.phase) f ∙ at_phase (Passing owed) true 2 e refl) (let h = at_phase (Passing owed) true 2 e refl in omega (arith, h))
  fulls owed false f e = spent 3 (ahead s.phase true) 1 (ap (ahead s.phase) f ∙ at_phase (Passing owed) false 3 e refl) (let h = at_phase (Passing owed) true 2 e refl in omega (arith, h))

  ahead_least : (owed : Option ℕ) (w : Bool) → full ≡ w → s.phase ≡ Passing owed → 2 ≤ ahead s.phase full
  ahead_least owed true f e = let h = ap (ahead s.phase) f ∙ at_phase (Passing owed) true 2 e refl in omega (arith, h)
  ahead_least owed false f e = let h = ap (ahead s.phase) f ∙ at_phase (Passing owed) false 3 e refl in omega (arith, h)

  -- what a look with this feedback leaves, where its message is offered
  Offers : Option ℕ → Feedback → Type 0
  Offers owed f = shown + mark (shows false None f full) + ahead (if is_full f then s else record s { phase = passed row x owed }).phase (is_full f) ≤ 4 * (frames + more)

  offers : (owed : Option ℕ) (f : Feedback) → s.phase ≡ Passing owed → fits_passing owed f ≡ true → Offers owed f
  unfolding Offers
  offers owed feedbacks.Full e fit = fulls owed full refl e
  offers (Some n) (feedbacks.Passed seen) e fit =
      let h = ahead_least (Some n) full refl e in
      let k : shown + 1 + 1 ≤ 4 * (frames + more) = omega (arith, h, was) in
      k
  offers None (feedbacks.Passed seen) e fit = absurd (cc)
  offers None feedbacks.Released e fit =
      let h = ahead_least None full refl e in
      let k : shown + 1 + 0 ≤ 4 * (frames + more) = omega (arith, h, was) in
      k
  offers (Some n) feedbacks.Released e fit = absurd (cc)
  offers None feedbacks.Quiet e fit = absurd (cc)
  offers (Some n) feedbacks.Quiet e fit = absurd (cc)
  offers None (feedbacks.Repeat seen) e fit = absurd (cc)
  offers (Some n) (feedbacks.Repeat seen) e fit = absurd (cc)

  passing : (owed : Option ℕ) (gone : Bool) → gone ≡ false → s.phase ≡ Passing owed → (if gone then is_quiet x.feedback else fits_passing owed x.feedback) ≡ true
      → Holds (if gone then record { next = s.next; greeted = false; phase = Passing None } else (if is_full x.feedback then s else record s { phase = passed row x owed })) gone None
  unfolding Offers
  passing owed true stay e fit = absurd (cc)
  passing owed false stay e fit = offers owed x.feedback e fit

  not_gone : (a : Arrival) → IsPlainArrival a → is_gone a ≡ false
  not_gone Nothing p = refl
  not_gone (Came f) p = refl
  not_gone Bad p = absurd p
  not_gone Gone p = absurd p

  idle : (a : Arrival) → IsPlainArrival a → more ≡ length (frame_in a) → s.phase ≡ Idle → Rattle.pump_core.specs.Step.fits_idle row s a x.feedback ≡ true
      → Holds (Rattle.pump_core.specs.Step.after_idle row s x a) (Rattle.pump_core.specs.Step.takes_idle a) (Rattle.pump_core.specs.Step.reply_idle row s x a)
  idle Nothing p one e fit = idles s 0 (at_phase Idle full 0 e refl) (at_phase Idle false 0 e refl) fit
  idle (Came f) p one e fit = took (Rattle.pump_core.specs.Step.after_idle row s x (Came f)) (Rattle.pump_core.specs.Step.reply_idle row s x (Came f)) one
  idle Bad p one e fit = absurd p
  idle Gone p one e fit = absurd p

  stepped : (p : Phase) → IsPlainArrival x.arrival → more ≡ length (frame_in x.arrival) → s.phase ≡ p → fits_in row s x p ≡ true → Holds (after_in row s x p) (takes_in x p) (reply_in row s x p)
  stepped Down plain one e fit = idles s 0 (at_phase Down full 0 e refl) (at_phase Down false 0 e refl) fit
  stepped (Waits n at) plain one e fit = waited n at (is_gone x.arrival) (nat_le at x.moment) (not_gone x.arrival plain) e fit
  stepped (Passing owed) plain one e fit = passing owed (is_gone x.arrival) (not_gone x.arrival plain) e fit
  stepped Idle plain one e fit = idle x.arrival plain one e fit

-- ---- all looks ----

one_recorded : (m : Made) (before : List Made) (b : Bool) → is_recorded before m ≡ b → length (record_of (m ∷ before)) ≡ length (record_of before) + mark b
one_recorded m before true e = let h = ap length (recorded_at m before true e) in omega (arith, h)
one_recorded m before false e = let h = ap length (recorded_at m before false e) in omega (arith, h)

module _ (row : SessionRow) (o : Opening) (fresh : o.is_held ≡ false) where
  few_recorded : (made : List Made) (are : AreMade row o made) → OnlyFrames made → length (record_of made) + ahead (state row o made are).phase (was_full made) ≤ 4 * length (frames_of made)
  few_recorded [] are plain =
      let t = thin_of row o [] are in
      subst (λ (z : List Part). 0 + ahead (end_of row o z).phase false ≤ 4 * 0) (one_cut row (life_made o []) [] t.parts (record { are_parts = tt; looks = refl }) t.cut)
      (subst (λ (b : Bool). 0 + ahead (if b then Passing None else Idle) false ≤ 4 * 0) (sym fresh) (let h : 0 + 0 ≤ 4 * 0 = omega arith in h))
  few_recorded (m ∷ before) are plain =
      let v = moves row o m before are in
      let s = state row o before are.1 in
      let past = few_recorded before are.1 plain.1 in
      let step = stepped row s m.look (was_full before) (length (frames_of before)) (length (frame_in m.look.arrival)) (length (record_of before)) past s.phase plain.0 refl refl v.fits in
      let now = subst (λ (z : Bool × Option Frame × State). length (record_of before) + mark (shows z.0 z.1 m.look.feedback (was_full before)) + ahead z.2.phase (is_full m.look.feedback) ≤ 4 * (length (frames_of before) + length (frame_in m.look.arrival)))
      (λ i. (sym v.taken i, sym v.reply i, sym v.state_is i)) step in
      let a = one_recorded m before (is_recorded before m) refl in
      let b = length-append (frames_of before) (frame_in m.look.arrival) in
      omega (arith, now, a, b)

-- ---- the frames of the recorded looks ----

none_came : (taken rest : Bool) (a : Arrival) → taken ≡ not (is_nothing a) → (taken || rest) ≡ false → frame_in a ≡ []
none_came true rest a e f = absurd (cc)
none_came false rest Nothing e f = refl
none_came false rest (Came g) e f = absurd (cc)
none_came false rest Bad e f = refl
none_came false rest Gone e f = refl

same_frames_by : (m : Made) (before : List Made) (b : Bool) → is_recorded before m ≡ b → m.taken ≡ not (is_nothing m.look.arrival) → frames_of (record_of before) ≡ frames_of before → frames_of (record_of (m ∷ before)) ≡ frames_of (m ∷ before)
same_frames_by m before true e taken same = ap frames_of (recorded_at m before true e) ∙ ap (λ (fs : List Frame). fs ++ frame_in m.look.arrival) same
same_frames_by m before false e taken same =
    ap frames_of (recorded_at m before false e) ∙ same ∙ sym (append-nil (frames_of before)) ∙ ap (λ (fs : List Frame). frames_of before ++ fs) (sym (none_came m.taken _ m.look.arrival taken e))

same_frames : (made : List Made) → TakeAll made → frames_of (record_of made) ≡ frames_of made
same_frames [] all = refl
same_frames (m ∷ before) all = same_frames_by m before (is_recorded before m) refl all.0 (same_frames before all.1)

-- ---- the record of a race ----

times_end : (ts : List ℕ) → AllByRecursion (λ t. t ≤ 10 ^ 9) ts → line_ends (time_lines ts) ≡ length ts
times_end [] few = refl
times_end (t ∷ ts) few =
    let small = few.0 in
    let a = ends_append (number_line (codes "time") t) (time_lines ts) in
    let b : line_ends (number_line (codes "time") t) ≡ 1 = one_more (comment_text (codes "time" ∷ decimal t ∷ [])) (time_is_text t (omega (arith, small))) in
    let c = times_end ts few.1 in
    omega (arith, a, b, c)

turns_length : (times : List ℕ) (n : ℕ) → length (turns times n) ≡ n
turns_length times zero = refl
turns_length times (suc n) = omega (arith, length-append (turns times n) (turn times n ∷ []), turns_length times n)

pub race_few : (seed count : ℕ) (times readings : List ℕ) (asks : List (ℕ × ℕ)) (bytes : List ℕ) (is : IsRaceRecord seed count times readings asks bytes) → CanTurn times count → OnlyFrames is.made → line_ends bytes < 2 ^ 32
race_few seed count times readings asks bytes is can plain =
    let made = is.made in
    let text = record_text generated_row race_opening made in
    let script = looks_script generated_row (record_of made) in
    let most = can.few in
    let fits : count < 2 ^ 64 = omega (arith, most) in
    let a = few_recorded generated_row race_opening refl made is.looks.are_made plain in
    let b = ap length (same_frames made is.looks.take_all) in
    let c = ap length is.printed.frames in
    let d = length-map (race_items seed count) data_frame in
    let e = items_count seed count in
    let f : length (race_frames seed count) ≡ 1 + length (map data_frame (race_items seed count)) = omega arith in
    let g = record_ends generated_row race_opening made is.readable in
    let h : length (record_script generated_row race_opening made) ≡ length (opening_line generated_row race_opening ∷ script) = refl in
    let k = script_short generated_row (record_of made) in
    let l = times_end (turns times count) (turns_few times count count can) in
    let m = turns_length times count in
    let n : line_ends (number_line (codes "took") count) ≡ 1 = one_more (comment_text (codes "took" ∷ decimal count ∷ [])) (took_is_text count fits) in
    let o : line_ends (end_line count count) ≡ 1 = one_more (comment_text (codes "end" ∷ decimal count ∷ decimal count ∷ [])) (end_is_text count fits) in
    let p = ap line_ends is.bytes_are in
    let q = ends_append text (end_lines (turns times count) count count count) in
    let r = ends_append (time_lines (turns times count)) (number_line (codes "took") count ++ end_line count count) in
    let s = ends_append (number_line (codes "took") count) (end_line count count) in
    let looks : length (record_of made) ≤ 4 * (1 + count) = omega (arith, a, b, c, d, e, f) in
    let lines : line_ends text ≤ 9 + 8 * count = omega (arith, looks, g, h, k) in
    omega (arith, lines, l, m, n, o, p, q, r, s, most)
