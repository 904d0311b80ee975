-- The looks of any parts lead a run of steps to the end of the parts.
use Rattle.std.proofs.Common.{◌≡◌, ℕ, ◌+◌, Bool, true, false, cond, List, [], ◌∷◌, ◌++◌, Some, None, refl, sym, ap, ◌∙◌, arith, append-nil}
use Rattle.std.specs.Prelude.{if◌then◌else◌, nat_le, nat_lt, ◌&&◌, ◌||◌, ◌==◌, ◌^◌}
use Rattle.std.specs.List.{AllByRecursion}
use Rattle.std.proofs.lemmas.Bool.{cond-false, and_parts, and_right, eqb-true, le-ltb}
use Rattle.pump_frame.specs.declared.row.SessionRow.{SessionRow}
use Rattle.pump_frame.specs.declared.frame.Frame.{Frame}
use Rattle.pump_core.specs.History.{Arrival}
use Rattle.pump_core.specs.History.{Nothing, Came, Bad, Gone}
use Rattle.pump_core.specs.declared.feedback.Feedback.{Feedback}
use Rattle.pump_core.specs.declared.feedback.Feedback.TheVariants.{Quiet, Full, Passed, Released, Repeat}
use Rattle.pump_core.specs.Phases.{Phase}
use Rattle.pump_core.specs.Phases.{Idle, Passing, Waiting as Waits, Down}
use Rattle.pump_core.specs.History.{Look, Opening, Life}
use Rattle.pump_core.specs.Exchanges.{is_gone, is_fit, is_repeat, is_next, is_passed, greeted_by, due, any_gone, Wait, Waiting, Over, Part, Holding, Release, Empty, Leaving, Answer, Repeated, Offering, Dropped, Delivery, Loss, wait_on, part_on, looks_of, is_finished, count_in, count_after, greeted_in, greeted_by_wait, greeted_after, is_left, is_release, IsHeld, IsQuiet, IsWait, IsFull, IsAnswered, IsFrame, IsStore, IsPassing, IsPart, AreParts}
use Rattle.pump_core.specs.Replies.{Sent, sent, acknowledgement, refusal, number_in, acknowledged, replies_in, replies_of, answer, LifeReplies, LivesReplies}
use Rattle.pump_core.specs.Step.{opened, after, after_idle, reply_at, reply_idle, is_full}
use Rattle.pump_core.specs.Standing.{State, phase_of_wait, phase_of, phase_after, end_of}

abbrev pub run : SessionRow → Opening → List Look → State
run row o [] = opened o
run row o (x ∷ past) = after row (run row o past) x

abbrev pub run_replies : SessionRow → Opening → List Look → List Sent
run_replies row o [] = []
run_replies row o (x ∷ past) = run_replies row o past ++ sent x (reply_at row (run row o past) x)

-- after these looks the run is in this state and gave these replies
pub record Ran (row : SessionRow) (o : Opening) (past : List Look) (s : State) (rs : List Sent) : Type 0 where
  pub state : run row o past ≡ s
  pub replies : run_replies row o past ≡ rs

abbrev at : ℕ → Bool → Phase → State
at n g p = record { next = n; greeted = g; phase = p }

module _ (row : SessionRow) (o : Opening) where
  -- one more look
  goes : (past : List Look) (s : State) (rs : List Sent) (x : Look) → Ran row o past s rs → Ran row o (x ∷ past) (after row s x) (rs ++ sent x (reply_at row s x))
  goes past s rs x h = record {
    state = ap (λ t. after row t x) h.state;
    replies = ap (λ (t : State × List Sent). t.1 ++ sent x (reply_at row t.0 x)) (λ i. (h.state i, h.replies i));
  }

  says : (past : List Look) (s t : State) (rs new : List Sent) (x : Look) → after row s x ≡ t → sent x (reply_at row s x) ≡ new → Ran row o past s rs → Ran row o (x ∷ past) t (rs ++ new)
  says past s t rs new x e r h =
      let g = goes past s rs x h in
      record { state = g.state ∙ e; replies = g.replies ∙ ap (λ l. rs ++ l) r }

  -- .. without a reply
  silent : (past : List Look) (s t : State) (rs : List Sent) (x : Look) → after row s x ≡ t → sent x (reply_at row s x) ≡ [] → Ran row o past s rs → Ran row o (x ∷ past) t rs
  silent past s t rs x e r h =
      let g = says past s t rs [] x e r h in
      record { state = g.state; replies = g.replies ∙ append-nil rs }

  more : (past : List Look) (s : State) (rs : List Sent) → Ran row o past s rs → Ran row o past s (rs ++ [])
  more past s rs h = record { state = h.state; replies = h.replies ∙ sym (append-nil rs) }

  -- the looks of a wait
  waits : (past : List Look) (n num due : ℕ) (g : Bool) (rs : List Sent) (quiet : List Look) → AllByRecursion (IsQuiet due) quiet → Ran row o past (at n g (Waits num due)) rs → Ran row o (quiet ++ past) (at n g (Waits num due)) rs
  waits past n num due g rs [] all h = h
  waits past n num due g rs (x ∷ xs) all h =
      silent (xs ++ past) (at n g (Waits num due)) (at n g (Waits num due)) rs x
      (rw (all.0.stays, all.0.early)) (rw (all.0.stays, all.0.early))
      (waits past n num due g rs xs all.1 h)

  -- a whole wait, after a look that began it
  waited : (past : List Look) (n num due : ℕ) (g : Bool) (rs : List Sent) (w : Wait) → IsWait due w → Ran row o past (at n g (Waits num due)) rs → Ran row o (wait_on w past) (at n (greeted_by_wait w g) (phase_of_wait num due w)) (rs ++ acknowledged row num w)
  waited past n num due g rs (Waiting quiet) all h = more (quiet ++ past) (at n g (Waits num due)) rs (waits past n num due g rs quiet all h)
  waited past n num due g rs (Over quiet last) all h =
      let before = waits past n num due g rs quiet all.0 h in
      elim (is_gone last.arrival) as (λ b. is_gone last.arrival ≡ b → Ran row o (last ∷ (quiet ++ past)) (at n (cond b false g) Idle) (rs ++ cond b [] (sent last (Some (acknowledgement row num))))) [
        | true ↦ λ e. says (quiet ++ past) (at n g (Waits num due)) (at n false Idle) rs [] last (rw e) (rw e) before
        | false ↦ λ e.
            let late : nat_le due last.moment ≡ true = sym (cond-false (is_gone last.arrival) true (nat_le due last.moment) e) ∙ all.2 in
            says (quiet ++ past) (at n g (Waits num due)) (at n g Idle) rs (sent last (Some (acknowledgement row num))) last (rw (e, late)) (rw (e, late)) before
      ] refl

  -- looks before a message is released
  holds : (past : List Look) (n : ℕ) (g : Bool) (rs : List Sent) (xs : List Look) → AllByRecursion IsHeld xs → Ran row o past (at n g (Passing None)) rs → Ran row o (xs ++ past) (at n (if any_gone xs then false else g) (Passing None)) rs
  holds past n g rs [] all h = h
  holds past n g rs (x ∷ xs) all h =
      let before = holds past n g rs xs all.1 h in
      let g' : Bool = if any_gone xs then false else g in
      let held : x.feedback ≡ (if is_gone x.arrival then Quiet else Full) = all.0 in
      elim (is_gone x.arrival) as (λ b. is_gone x.arrival ≡ b → Ran row o (x ∷ (xs ++ past)) (at n (if b || any_gone xs then false else g) (Passing None)) rs) [
        | true ↦ λ e. silent (xs ++ past) (at n g' (Passing None)) (at n false (Passing None)) rs x (rw e) refl before
        | false ↦ λ e.
            let full : x.feedback ≡ Full = held ∙ cond-false (is_gone x.arrival) Quiet Full e in
            silent (xs ++ past) (at n g' (Passing None)) (at n g' (Passing None)) rs x (rw (e, full)) refl before
      ] refl

  -- looks at which the passage was full
  fulls : (past : List Look) (n num : ℕ) (g : Bool) (rs : List Sent) (xs : List Look) → AllByRecursion IsFull xs → Ran row o past (at n g (Passing (Some num))) rs → Ran row o (xs ++ past) (at n g (Passing (Some num))) rs
  fulls past n num g rs [] all h = h
  fulls past n num g rs (x ∷ xs) all h =
      silent (xs ++ past) (at n g (Passing (Some num))) (at n g (Passing (Some num))) rs x
      (rw (all.0.stays, all.0.full)) refl
      (fulls past n num g rs xs all.1 h)

  downs : (past : List Look) (n : ℕ) (g : Bool) (rs : List Sent) (xs : List Look) → Ran row o past (at n g Down) rs → Ran row o (xs ++ past) (at n g Down) rs
  downs past n g rs [] h = h
  downs past n g rs (x ∷ xs) h = silent (xs ++ past) (at n g Down) (at n g Down) rs x refl refl (downs past n g rs xs h)

  -- a look that begins a part
  repeats : (n : ℕ) (g : Bool) (x : Look) (a : Arrival) → IsFrame (is_repeat row n g) a → (after_idle row (at n g Idle) x a ≡ at n g (Waits (number_in a) (due row x))) × (sent x (reply_idle row (at n g Idle) x a) ≡ [])
  repeats n g x Nothing h = absurd h
  repeats n g x Bad h = absurd h
  repeats n g x Gone h = absurd h
  repeats n g x (Came f) h = (rw h, rw h)

  answers : (n : ℕ) (g : Bool) (x : Look) (a : Arrival) → IsAnswered row n g a → (after_idle row (at n g Idle) x a ≡ at n (greeted_by row a g) Idle) × (reply_idle row (at n g Idle) x a ≡ answer row n g a)
  answers n g x Nothing h = absurd h
  answers n g x Bad h = (refl, refl)
  answers n g x Gone h = absurd h
  answers n g x (Came f) h = (rw (h.0, h.1), rw (h.0, h.1))

  pub not_repeat : (n : ℕ) (g : Bool) (f : Frame) → is_next row n g f ≡ true → is_repeat row n g f ≡ false
  not_repeat n g f h =
      let first = and_parts (is_fit row g f && f.number == n) (nat_lt n (2 ^ 48)) h in
      let same : f.number ≡ n = eqb-true f.number n (and_parts (is_fit row g f) (f.number == n) first.0).1 in
      and_right (is_fit row g f) (nat_lt f.number n) (le-ltb f.number n (omega arith))

  stores : (n : ℕ) (g : Bool) (x : Look) (a : Arrival) → IsFrame (is_next row n g) a → x.is_fault ≡ false → (after_idle row (at n g Idle) x a ≡ at (n + 1) g (Passing (Some (number_in a)))) × (sent x (reply_idle row (at n g Idle) x a) ≡ [])
  stores n g x Nothing h e = absurd h
  stores n g x Bad h e = absurd h
  stores n g x Gone h e = absurd h
  stores n g x (Came f) h e =
      let r = not_repeat n g f h in
      (rw (r, h, e), rw (r, h, e))

  fails : (n : ℕ) (g : Bool) (x : Look) (a : Arrival) → IsFrame (is_next row n g) a → x.is_fault ≡ true → (after_idle row (at n g Idle) x a ≡ at n g Down) × (reply_idle row (at n g Idle) x a ≡ Some (refusal row 5 0))
  fails n g x Nothing h e = absurd h
  fails n g x Bad h e = absurd h
  fails n g x Gone h e = absurd h
  fails n g x (Came f) h e =
      let r = not_repeat n g f h in
      (rw (r, h, e), rw (r, h, e))

  passes : (n num : ℕ) (g : Bool) (x : Look) → IsPassing x → after row (at n g (Passing (Some num))) x ≡ at n g (Waits num (due row x))
  passes n num g x h = rw (h.stays, not_full x.feedback h.passed)
    where
      not_full : (f : Feedback) → is_passed f ≡ true → is_full f ≡ false
      not_full Quiet e = refl
      not_full Full e = absurd (cc)
      not_full (Passed s) e = refl
      not_full Released e = refl
      not_full (Repeat s) e = refl

  -- a stored message, before it is passed
  offered : (past : List Look) (n : ℕ) (g : Bool) (rs : List Sent) (first : Look) (full : List Look) → IsStore row n g false first → AllByRecursion IsFull full → Ran row o past (at n g Idle) rs → Ran row o (full ++ (first ∷ past)) (at (n + 1) g (Passing (Some (number_in first.arrival)))) rs
  offered past n g rs first full s all h =
      let begun = stores n g first first.arrival s.next s.outcome in
      fulls (first ∷ past) (n + 1) (number_in first.arrival) g rs full all (silent past (at n g Idle) (at (n + 1) g (Passing (Some (number_in first.arrival)))) rs first begun.0 begun.1 h)

  -- the looks of a part
  part_ran : (past : List Look) (n : ℕ) (g : Bool) (rs : List Sent) (p : Part) → IsPart row n g p → Ran row o past (at n g (if is_release p then Passing None else Idle)) rs → Ran row o (part_on p past) (at (count_in p n) (greeted_in row p g) (phase_of row p)) (rs ++ replies_in row n g p)
  part_ran past n g rs (Holding newest older) h r = more (newest ∷ (older ++ past)) (at n (if any_gone (newest ∷ older) then false else g) (Passing None)) rs (holds past n g rs (newest ∷ older) h r)
  part_ran past n g rs (Release before last) h r =
      let held = holds past n g rs before h.0 r in
      says (before ++ past) (at n (if any_gone before then false else g) (Passing None)) (at n (if any_gone before then false else g) Idle) rs [] last (rw (h.2, h.1)) refl held
  part_ran past n g rs (Empty x) h r = says past (at n g Idle) (at n g Idle) rs [] x (rw h.0) (rw h.0) r
  part_ran past n g rs (Leaving x) h r = says past (at n g Idle) (at n false Idle) rs [] x (rw h.0) (rw h.0) r
  part_ran past n g rs (Answer x) h r =
      let a = answers n g x x.arrival h.0 in
      says past (at n g Idle) (at n (greeted_by row x.arrival g) Idle) rs (sent x (answer row n g x.arrival)) x a.0 (ap (λ t. sent x t) a.1) r
  part_ran past n g rs (Repeated first wait) h r =
      let begun = repeats n g first first.arrival h.0 in
      waited (first ∷ past) n (number_in first.arrival) (due row first) g rs wait h.2
      (silent past (at n g Idle) (at n g (Waits (number_in first.arrival) (due row first))) rs first begun.0 begun.1 r)
  part_ran past n g rs (Offering first full) h r = more (full ++ (first ∷ past)) (at (n + 1) g (Passing (Some (number_in first.arrival)))) rs (offered past n g rs first full h.0 h.1 r)
  part_ran past n g rs (Dropped first full gone) h r =
      says (full ++ (first ∷ past)) (at (n + 1) g (Passing (Some (number_in first.arrival)))) (at (n + 1) false (Passing None)) rs [] gone (rw h.2) refl (offered past n g rs first full h.0 h.1 r)
  part_ran past n g rs (Delivery first full passing wait) h r =
      let num = number_in first.arrival in
      waited (passing ∷ (full ++ (first ∷ past))) (n + 1) num (due row passing) g rs wait h.3
      (silent (full ++ (first ∷ past)) (at (n + 1) g (Passing (Some num))) (at (n + 1) g (Waits num (due row passing))) rs passing (passes (n + 1) num g passing h.2) refl (offered past n g rs first full h.0 h.1 r))
  part_ran past n g rs (Loss first rest) h r =
      let begun = fails n g first first.arrival h.0.next h.0.outcome in
      downs (first ∷ past) n g (rs ++ sent first (Some (refusal row 5 0))) rest
      (says past (at n g Idle) (at n g Down) rs (sent first (Some (refusal row 5 0))) first begun.0 (ap (λ t. sent first t) begun.1) r)

-- what follows finished parts
pub next_phase : (row : SessionRow) (o : Opening) (parts : List Part) → AllByRecursion (λ q. is_finished q ≡ true) parts → phase_after row o parts ≡ (if is_left o parts then Passing None else Idle)
next_phase row o [] h = refl
next_phase row o (Holding newest older ∷ before) h = absurd (cc)
next_phase row o (Release looks last ∷ before) h = refl
next_phase row o (Empty x ∷ before) h = refl
next_phase row o (Leaving x ∷ before) h = refl
next_phase row o (Answer x ∷ before) h = refl
next_phase row o (Repeated first (Waiting quiet) ∷ before) h = absurd (cc)
next_phase row o (Repeated first (Over quiet last) ∷ before) h = refl
next_phase row o (Offering first full ∷ before) h = absurd (cc)
next_phase row o (Dropped first full gone ∷ before) h = refl
next_phase row o (Delivery first full passing (Waiting quiet) ∷ before) h = absurd (cc)
next_phase row o (Delivery first full passing (Over quiet last) ∷ before) h = refl
next_phase row o (Loss first rest ∷ before) h = absurd (cc)

pub ran : (row : SessionRow) (o : Opening) (parts : List Part) → AreParts row o parts → Ran row o (looks_of parts) (end_of row o parts) (replies_of row o parts)
ran row o [] h = record { state = refl; replies = refl }
ran row o (p ∷ before) h =
    let r = ran row o before h.1 in
    let n = count_after o before in
    let g = greeted_after row before in
    let start : phase_after row o before ≡ (if is_release p then Passing None else Idle) = next_phase row o before h.2 ∙ ap (λ (b : Bool). if b then Passing None else Idle) (sym h.0.release) in
    part_ran row o (looks_of before) n g (replies_of row o before) p h.0.part (record { state = r.state ∙ ap (λ (ph : Phase). at n g ph) start; replies = r.replies })

-- two cuts of one life give the same replies, and end in the same state
pub one_list : (row : SessionRow) (life : Life) (xs ys : List Sent) → LifeReplies row life xs → LifeReplies row life ys → xs ≡ ys
one_list row life xs ys (parts, cut, e) (parts', cut', e') =
    let r = ran row life.opening parts cut.are_parts in
    let r' = ran row life.opening parts' cut'.are_parts in
    let same : looks_of parts ≡ looks_of parts' = sym cut.looks ∙ cut'.looks in
    e ∙ sym r.replies ∙ ap (run_replies row life.opening) same ∙ r'.replies ∙ sym e'

pub one_list_of_lives : (row : SessionRow) (lives : List Life) (xs ys : List Sent) → LivesReplies row lives xs → LivesReplies row lives ys → xs ≡ ys
one_list_of_lives row [] xs ys e e' = e ∙ sym e'
one_list_of_lives row (life ∷ earlier) xs ys (older, newer, h, k, e) (older', newer', h', k', e') =
    let p = one_list_of_lives row earlier older older' h h' in
    let q = one_list row life newer newer' k k' in
    e ∙ ap (λ (t : List Sent × List Sent). t.0 ++ t.1) (λ i. (p i, q i)) ∙ sym e'
