-- Each line of a generated script can be applied.
use Rattle.std.proofs.Common.{◌≡◌, ℕ, ◌+◌, ◌-◌, ◌*◌, ◌/◌, ◌%◌, ◌^◌, ◌<◌, ◌≤◌, zero, suc, Bool, true, false, List, [], ◌∷◌, ◌++◌, length, drop, codes, Option, Some, None, refl, ◌∙◌, subst, arith}
use Rattle.std.specs.Prelude.{◌==◌, if◌then◌else◌, option_to_list}
use Rattle.std.proofs.lemmas.Bool.{eqb-true, eqb-false}
use Rattle.pump_core.specs.Standing.{State}
use Rattle.script_reader.specs.declared.event.Event.{Event}
use Rattle.script_reader.specs.declared.line.Arriving.{Arriving}
use Rattle.script_reader.specs.declared.line.Arriving.TheVariants.{Nothing, Hello, Data}
use Rattle.script_reader.specs.declared.line.Line.{Line}
use Rattle.script_reader.specs.declared.line.Line.TheVariants as lines
use Rattle.script_reader.specs.Applying.{AllApply}
use Rattle.script_reader.specs.Generated.{Mark, drawn, taking_time, payload_of, later as later_mark, timed, timed_by, takings, empty_look, message_word, after_draws, messages_from, after_message, is_seventh, generated_row, generated, first_mark}
use Rattle.script_reader.specs.Generating.{moment_bound}
use Rattle.script_reader.specs.Openings.{nothing_found, first_past}
use Rattle.script_reader.specs.Past.{Past}
use Rattle.script_reader.specs.Steps.{Overfills}
use Rattle.script_reader.proofs.DoneSteps.{never_overfills}
use Rattle.script_reader.proofs.LineSteps.{LineApplies, stands_later, live_are, greeting_applies, offer_applies, pass_applies, full_applies, ack_applies, done_applies, opened_stands}
use Rattle.script_reader.proofs.LookSteps.{Stands, at_rest, idle, passing, waiting}
use Rattle.script_reader.proofs.Opened.{new_disks_can}
use Rattle.script_reader.proofs.Takings.{length_counting}

-- ---- one line ----

-- a line that applies and overfills nothing begins lines that all apply, where the later ones do wherever it leads
applies_first : (p : Past) (line : Line) (After : Past → Type 0) (later : List Line) → LineApplies generated_row p line After
    → ((q : Past) (printed : List Event) (end length size : ℕ) → Overfills generated_row p line q printed end length size → ⊥)
    → ((q : Past) → After q → AllApply generated_row q later)
    → AllApply generated_row p (line ∷ later)
applies_first p line After later h over next = (h.timely, h.few, over, λ q printed step. next q (h.after q printed step))

look_first : (p : Past) (m w : ℕ) (a : Arriving) (After : Past → Type 0) (later : List Line) → LineApplies generated_row p (lines.Look 1 m w a) After
    → ((q : Past) → After q → AllApply generated_row q later)
    → AllApply generated_row p (lines.Look 1 m w a ∷ later)
look_first p m w a After later h next = applies_first p (lines.Look 1 m w a) After later h (λ q printed end n size over. absurd over) next

done_first : (p : Past) (low : Option ℕ) (k r m t : ℕ) (s : State) (later : List Line)
    → Stands generated_row p [] low k r m s → length (option_to_list low) < k - r → k ≤ 100000 → m + t ≤ 2 ^ 62
    → ((q : Past) → Stands generated_row q [] low k (r + 1) (m + t) s → AllApply generated_row q later)
    → AllApply generated_row p (lines.Done 1 m t ∷ later)
done_first p low k r m t s later h one few end next =
    applies_first p (lines.Done 1 m t) _ later (done_applies generated_row p low k r m m t s h (omega arith) one end)
    (λ q printed end n size over. never_overfills generated_row p q m t printed end n size (omega arith) h.rests h.short (omega (arith, h.count, few)) over)
    (λ q d. next q d.0)

-- ---- times ----

time_below : (x : ℕ) → taking_time (drawn x) < 4096
time_below x = omega arith

timed_moment : (n : ℕ) (at : Mark) → (timed_by n at).moment ≤ at.moment + n * 4096
timed_moment zero at = omega arith
timed_moment (suc n) at = omega (arith, timed_moment n (timed at), time_below at.draw)

takings_apply : (n : ℕ) (at : Mark) (p : Past) (k r : ℕ) (rest : List Line) → Stands generated_row p [] None k r at.moment (idle k) → r + n ≤ k → k ≤ 100000 → at.moment + n * 4096 ≤ 2 ^ 62
    → ((q : Past) → Stands generated_row q [] None k (r + n) (timed_by n at).moment (idle k) → AllApply generated_row q rest)
    → AllApply generated_row p (takings n at ++ rest)
takings_apply zero at p k r rest h some few end next =
    let e : r ≡ r + 0 = omega arith in
    next p (subst (λ x. Stands generated_row p [] None k x at.moment (idle k)) e h)
takings_apply (suc n) at p k r rest h some few end next =
    let time = taking_time (drawn at.draw) in
    let below = time_below at.draw in
    done_first p None k r at.moment time (idle k) (takings n (timed at) ++ rest) h (omega (arith, some)) few (omega (arith, end, below))
    (λ q s.
    takings_apply n (timed at) q k (r + 1) rest s (omega (arith, some)) few (omega (arith, end, below))
    (λ q s.
    let e : r + 1 + n ≡ r + suc n = omega arith in
    next q (subst (λ x. Stands generated_row q [] None k x (timed_by n (timed at)).moment (idle k)) e s)))

none_of : (o : Option ℕ) → length (option_to_list o) ≡ 0 → o ≡ None
none_of None e = refl
none_of (Some n) e = absurd (omega (arith, e))

-- ---- a message ----

payload_short : (number draw : ℕ) → length (payload_of number draw) ≤ 64
payload_short number draw = omega (arith, length_counting (draw / 2 ^ 24 % 65) number)

-- its first look
offers_first : (p : Past) (k r m w draw : ℕ) (later : List Line) → Stands generated_row p [] None k r m (idle k) → k < 100000
    → ((q : Past) → Stands generated_row q [] (Some k) (k + 1) r m (passing k) → q.world.high_hand ≡ p.world.high_hand → AllApply generated_row q later)
    → AllApply generated_row p (lines.Look 1 m w (Data k (payload_of k draw)) ∷ later)
offers_first p k r m w draw later h few next =
    look_first p m w (Data k (payload_of k draw)) _ later
    (offer_applies generated_row p k r m m w (payload_of k draw) h (omega arith) (payload_short k draw) (omega (arith, few)))
    (λ q d. next q d.0 d.1.high)

-- the look that passes it
passes_first : (p : Past) (k r m w : ℕ) (later : List Line) → Stands generated_row p [] (Some k) (k + 1) r m (passing k) → k - r ≤ 5
    → ((q : Past) (at : ℕ) → at ≤ m + 100000 → Stands generated_row q [] None (k + 1) r m (waiting k at) → q.world.high_hand ≡ p.world.high_hand → AllApply generated_row q later)
    → AllApply generated_row p (empty_look m w ∷ later)
passes_first p k r m w later h few next =
    look_first p m w Nothing _ later (pass_applies generated_row p k r m m w h (omega arith) (omega (arith, few))) (λ q d. next q d.0 d.1 d.2.0 d.2.1.high)

-- the look that finds the passage full
full_first : (p : Past) (k r m w : ℕ) (later : List Line) → Stands generated_row p [] (Some k) (k + 1) r m (passing k) → k ≡ r + 6 → p.world.high_hand ≡ None
    → ((q : Past) → Stands generated_row q [] (Some k) (k + 1) r m (passing k) → AllApply generated_row q later)
    → AllApply generated_row p (empty_look m w ∷ later)
full_first p k r m w later h six none next =
    look_first p m w Nothing _ later (full_applies generated_row p k r m m w h (omega arith) six none) (λ q d. next q d.0)

-- the look in which it is acknowledged
acks_first : (p : Past) (k r m0 m w at : ℕ) (later : List Line) → Stands generated_row p [] None (k + 1) r m0 (waiting k at) → at ≤ m → m0 ≤ m
    → ((q : Past) → Stands generated_row q [] None (k + 1) r m (idle (k + 1)) → q.world.high_hand ≡ p.world.high_hand → AllApply generated_row q later)
    → AllApply generated_row p (empty_look m w ∷ later)
acks_first p k r m0 m w at later h due le next =
    look_first p m w Nothing _ later (ack_applies generated_row p k r m0 m w at h due le) (λ q d. next q d.0 d.1.high)

-- ---- the messages ----

-- what holds before a message: since the last of each seven messages that is no seventh nothing was removed
pub record Between (p : Past) (number removed : ℕ) (at : Mark) : Type 0 where
  pub stands : Stands generated_row p [] None number removed at.moment (idle number)
  pub high : p.world.high_hand ≡ None
  pub removed_are : removed + number % 7 ≡ number
  pub moment : at.moment ≤ moment_bound number

-- a message's lines, by whether it is a seventh
abbrev lines_by : Bool → ℕ → Mark → List Line
lines_by seventh number at =
    let word = message_word at in
    let due = later_mark 100000 (if seventh then timed (after_draws at) else after_draws at) in
    lines.Look 1 at.moment word (Data number (payload_of number (after_draws at).draw))
    ∷ empty_look at.moment word
    ∷ ((if seventh then takings 1 (after_draws at) ++ empty_look (timed (after_draws at)).moment word ∷ [] else [])
    ++ empty_look due.moment word ∷ takings (if seventh then 6 else 0) due)

abbrev after_by : Bool → Mark → Mark
after_by seventh at = later_mark 1000 (timed_by (if seventh then 6 else 0) (later_mark 100000 (if seventh then timed (after_draws at) else after_draws at)))

message_applies : (seventh : Bool) (number removed : ℕ) (at : Mark) (p : Past) (rest : List Line) → (number % 7 == 6) ≡ seventh → number < 100000 → Between p number removed at
    → ((q : Past) (r : ℕ) → Between q (number + 1) r (after_by seventh at) → AllApply generated_row q rest)
    → AllApply generated_row p (lines_by seventh number at ++ rest)
message_applies false k r at p rest e few h next =
    let other : k % 7 ≡ 6 → ⊥ = eqb-false (k % 7) 6 e in
    let word = message_word at in
    let acks : List Line = empty_look (at.moment + 100000) word ∷ rest in
    let passes : List Line = empty_look at.moment word ∷ acks in
    offers_first p k r at.moment word (after_draws at).draw passes h.stands few (λ q s high.
    passes_first q k r at.moment word acks s (omega (arith, other, h.removed_are)) (λ q2 due le s2 high2.
    acks_first q2 k r at.moment (at.moment + 100000) word due rest s2 le (omega arith) (λ q3 s3 high3.
    next q3 r (record {
      stands = stands_later generated_row q3 [] None (k + 1) r (at.moment + 100000) (at.moment + 100000 + 1000) (idle (k + 1)) (omega arith) s3;
      high = high3 ∙ high2 ∙ high ∙ h.high;
      removed_are = omega (arith, other, h.removed_are);
      moment = omega (arith, h.moment);
    }))))
message_applies true k r at p rest e few h next =
    let seventh : k % 7 ≡ 6 = eqb-true (k % 7) 6 e in
    let six : k ≡ r + 6 = omega (arith, seventh, h.removed_are) in
    let word = message_word at in
    let first = after_draws at in
    let then_at = timed first in
    let due_mark = later_mark 100000 then_at in
    let below = time_below first.draw in
    let times = timed_moment 6 due_mark in
    let takes : List Line = takings 6 due_mark ++ rest in
    let acks : List Line = empty_look due_mark.moment word ∷ takes in
    let passes : List Line = empty_look then_at.moment word ∷ acks in
    let dones : List Line = lines.Done 1 at.moment (taking_time (drawn first.draw)) ∷ passes in
    let fulls : List Line = empty_look at.moment word ∷ dones in
    offers_first p k r at.moment word first.draw fulls h.stands few (λ q s high.
    full_first q k r at.moment word dones s six (high ∙ h.high) (λ q2 s2.
    done_first q2 (Some k) (k + 1) r at.moment (taking_time (drawn first.draw)) (passing k) passes s2 (omega (arith, six)) (omega (arith, few)) (omega (arith, h.moment, few, below)) (λ q3 s3.
    passes_first q3 k (r + 1) then_at.moment word acks s3 (omega (arith, six)) (λ q4 due le s4 high4.
    acks_first q4 k (r + 1) then_at.moment due_mark.moment word due takes s4 le (omega arith) (λ q5 s5 high5.
    takings_apply 6 due_mark q5 (k + 1) (r + 1) rest s5 (omega (arith, six)) (omega (arith, few)) (omega (arith, h.moment, few, below)) (λ q6 s6.
    let live = live_are generated_row q6 [] None (k + 1) (r + 1 + 6) (timed_by 6 due_mark).moment (idle (k + 1)) s6 in
    next q6 (r + 1 + 6) (record {
      stands = stands_later generated_row q6 [] None (k + 1) (r + 1 + 6) (timed_by 6 due_mark).moment ((timed_by 6 due_mark).moment + 1000) (idle (k + 1)) (omega arith) s6;
      high = none_of q6.world.high_hand (omega (arith, live, six));
      removed_are = omega (arith, seventh, six);
      moment = omega (arith, h.moment, below, times);
    })))))))

messages_apply : (n number removed : ℕ) (at : Mark) (p : Past) → number + n ≤ 100000 → Between p number removed at → AllApply generated_row p (messages_from n number at)
messages_apply zero number removed at p few h = tt
messages_apply (suc n) number removed at p few h =
    message_applies (is_seventh number) number removed at p (messages_from n (number + 1) (after_message number at)) refl (omega (arith, few)) h
    (λ q r b. messages_apply n (number + 1) r (after_message number at) q (omega (arith, few)) b)

-- ---- the script ----

first_stands : Stands generated_row (first_past generated_row nothing_found) [] None 0 0 0 (at_rest false 0)
first_stands = opened_stands generated_row nothing_found refl (new_disks_can generated_row)

pub generated_apply : (seed count : ℕ) → count ≤ 100000 → AllApply generated_row (first_past generated_row nothing_found) (drop 1 (generated seed count))
generated_apply seed count few =
    look_first (first_past generated_row nothing_found) 0 0 (Hello (codes "weather") (codes "watch")) _ (messages_from count 0 (first_mark seed))
    (greeting_applies generated_row (first_past generated_row nothing_found) false 0 0 0 0 0 first_stands (omega arith))
    (λ q d.
    messages_apply count 0 0 (first_mark seed) q (omega (arith, few)) (record {
      stands = stands_later generated_row q [] None 0 0 0 1000 (idle 0) (omega arith) d.0;
      high = d.1.high;
      removed_are = omega arith;
      moment = omega arith;
    }))
