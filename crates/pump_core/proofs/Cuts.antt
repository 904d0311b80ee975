-- A life is cut in one way only: each cut is the one that grows look by look.
use Rattle.std.proofs.Common.{◌≡◌, ℕ, Bool, true, false, cond, List, [], ◌∷◌, ◌++◌, Some, None, refl, sym, ap, ◌∙◌, subst}
use Rattle.std.specs.Prelude.{if◌then◌else◌, nat_le}
use Rattle.std.specs.List.{AllByRecursion}
use Rattle.std.proofs.lemmas.Bool.{cond-true, cond-false}
use Rattle.pump_frame.specs.declared.row.SessionRow.{SessionRow}
use Rattle.pump_core.specs.History.{Arrival}
use Rattle.pump_core.specs.History.{Nothing, Came, Bad, Gone}
use Rattle.pump_core.specs.declared.feedback.Feedback.{Feedback}
use Rattle.pump_core.specs.declared.feedback.Feedback.TheVariants.{Quiet, Full, Passed, Released, Repeat}
use Rattle.pump_core.specs.History.{Look, Opening, Life}
use Rattle.pump_core.specs.Exchanges.{is_gone, is_repeat, is_next, is_passed, due, Wait, Waiting, Over, Part, Holding, Release, Empty, Leaving, Answer, Repeated, Offering, Dropped, Delivery, Loss, wait_on, part_on, looks_of, is_finished, count_after, greeted_after, is_left, is_release, IsHeld, IsQuiet, ends, IsWait, IsFull, IsAnswered, IsFrame, IsStore, IsPart, Follows, AreParts, IsCut}
use Rattle.pump_core.specs.Phases.{Idle, Passing}
use Rattle.pump_core.specs.Replies.{number_in, takes, stores, wait_takes}
use Rattle.pump_core.specs.Step.{is_quiet, fits_passing, FeedbackFits, takes_idle, takes_at, stores_idle, stores_at}
use Rattle.pump_core.specs.Standing.{State, end_of}
use Rattle.pump_core.proofs.Runs.{not_repeat}

-- how a cut grows by a look
abbrev pub is_released : Feedback → Bool
is_released Released = true
is_released _ = false

abbrev pub begun : SessionRow → ℕ → Bool → Look → Arrival → Part
begun row n g x Nothing = Empty x
begun row n g x Gone = Leaving x
begun row n g x Bad = Answer x
begun row n g x (Came f) =
    if is_repeat row n g f then Repeated x (Waiting [])
    else if is_next row n g f then (if x.is_fault then Loss x [] else Offering x [])
    else Answer x

abbrev pub begun_held : Look → Part
begun_held x = if is_released x.feedback then Release [] x else Holding x []

abbrev pub following : SessionRow → Opening → List Part → Look → List Part
following row o parts x = (if is_left o parts then begun_held x else begun row (count_after o parts) (greeted_after row parts) x x.arrival) ∷ parts

abbrev pub wait_with : ℕ → List Look → Look → Wait
wait_with due quiet x = if ends due x then Over quiet x else Waiting (x ∷ quiet)

abbrev pub grow : SessionRow → Opening → List Part → Look → List Part
grow row o [] x = following row o [] x
grow row o (Holding y ys ∷ before) x = (if is_released x.feedback then Release (y ∷ ys) x else Holding x (y ∷ ys)) ∷ before
grow row o (Release ys last ∷ before) x = following row o (Release ys last ∷ before) x
grow row o (Empty y ∷ before) x = following row o (Empty y ∷ before) x
grow row o (Leaving y ∷ before) x = following row o (Leaving y ∷ before) x
grow row o (Answer y ∷ before) x = following row o (Answer y ∷ before) x
grow row o (Repeated first (Waiting quiet) ∷ before) x = Repeated first (wait_with (due row first) quiet x) ∷ before
grow row o (Repeated first (Over quiet last) ∷ before) x = following row o (Repeated first (Over quiet last) ∷ before) x
grow row o (Offering first full ∷ before) x = (if is_gone x.arrival then Dropped first full x else if is_passed x.feedback then Delivery first full x (Waiting []) else Offering first (x ∷ full)) ∷ before
grow row o (Dropped first full gone ∷ before) x = following row o (Dropped first full gone ∷ before) x
grow row o (Delivery first full y (Waiting quiet) ∷ before) x = Delivery first full y (wait_with (due row y) quiet x) ∷ before
grow row o (Delivery first full y (Over quiet last) ∷ before) x = following row o (Delivery first full y (Over quiet last) ∷ before) x
grow row o (Loss first rest ∷ before) x = Loss first (x ∷ rest) ∷ before

-- the one cut that looks can have
abbrev pub cut_of : SessionRow → Opening → List Look → List Part
cut_of row o [] = []
cut_of row o (x ∷ past) = grow row o (cut_of row o past) x

-- finished parts are followed by a new one
new_after : (row : SessionRow) (o : Opening) (parts : List Part) (x : Look) → AllByRecursion (λ q. is_finished q ≡ true) parts → grow row o parts x ≡ following row o parts x
new_after row o [] x h = refl
new_after row o (Holding newest older ∷ before) x h = absurd (cc)
new_after row o (Release looks last ∷ before) x h = refl
new_after row o (Empty y ∷ before) x h = refl
new_after row o (Leaving y ∷ before) x h = refl
new_after row o (Answer y ∷ before) x h = refl
new_after row o (Repeated first (Waiting quiet) ∷ before) x h = absurd (cc)
new_after row o (Repeated first (Over quiet last) ∷ before) x h = refl
new_after row o (Offering first full ∷ before) x h = absurd (cc)
new_after row o (Dropped first full gone ∷ before) x h = refl
new_after row o (Delivery first full y (Waiting quiet) ∷ before) x h = absurd (cc)
new_after row o (Delivery first full y (Over quiet last) ∷ before) x h = refl
new_after row o (Loss first rest ∷ before) x h = absurd (cc)

held-not_released : (x : Look) → IsHeld x → is_released x.feedback ≡ false
held-not_released x h = elim (is_gone x.arrival) as (λ b. is_gone x.arrival ≡ b → is_released x.feedback ≡ false) [
  | true ↦ λ e. ap is_released (h ∙ cond-true (is_gone x.arrival) Quiet Full e)
  | false ↦ λ e. ap is_released (h ∙ cond-false (is_gone x.arrival) Quiet Full e)
] refl

module _ (row : SessionRow) (o : Opening) where
  -- one more look
  so : (past : List Look) (parts parts' : List Part) (x : Look) → cut_of row o past ≡ parts → grow row o parts x ≡ parts' → cut_of row o (x ∷ past) ≡ parts'
  so past parts parts' x e g = ap (λ c. grow row o c x) e ∙ g

  holds : (past : List Look) (before : List Part) (x : Look) (xs : List Look) → AllByRecursion IsHeld (x ∷ xs) → ((y : Look) → IsHeld y → cut_of row o (y ∷ past) ≡ Holding y [] ∷ before) → cut_of row o (x ∷ (xs ++ past)) ≡ Holding x xs ∷ before
  holds past before x [] h start = start x h.0
  holds past before x (y ∷ ys) h start = so (y ∷ (ys ++ past)) (Holding y ys ∷ before) (Holding x (y ∷ ys) ∷ before) x (holds past before y ys h.1 start) (rw (held-not_released x h.0))

  fulls : (past : List Look) (before : List Part) (first : Look) (xs : List Look) → AllByRecursion IsFull xs → cut_of row o past ≡ Offering first [] ∷ before → cut_of row o (xs ++ past) ≡ Offering first xs ∷ before
  fulls past before first [] h e = e
  fulls past before first (x ∷ xs) h e = so (xs ++ past) (Offering first xs ∷ before) (Offering first (x ∷ xs) ∷ before) x (fulls past before first xs h.1 e) (rw (h.0.stays, h.0.full))

  losses : (past : List Look) (before : List Part) (first : Look) (xs : List Look) → cut_of row o past ≡ Loss first [] ∷ before → cut_of row o (xs ++ past) ≡ Loss first xs ∷ before
  losses past before first [] e = e
  losses past before first (x ∷ xs) e = so (xs ++ past) (Loss first xs ∷ before) (Loss first (x ∷ xs) ∷ before) x (losses past before first xs e) refl

  quiets : (past : List Look) (before : List Part) (due : ℕ) (part : Wait → Part) → ((quiet : List Look) (x : Look) → grow row o (part (Waiting quiet) ∷ before) x ≡ part (wait_with due quiet x) ∷ before) → (quiet : List Look) → AllByRecursion (IsQuiet due) quiet → cut_of row o past ≡ part (Waiting []) ∷ before → cut_of row o (quiet ++ past) ≡ part (Waiting quiet) ∷ before
  quiets past before due part grows [] h e = e
  quiets past before due part grows (x ∷ xs) h e =
      let on : ends due x ≡ false = cond-false (is_gone x.arrival) true (nat_le due x.moment) h.0.stays ∙ h.0.early in
      so (xs ++ past) (part (Waiting xs) ∷ before) (part (Waiting (x ∷ xs)) ∷ before) x (quiets past before due part grows xs h.1 e)
      (grows xs x ∙ ap (λ w. part w ∷ before) (cond-false (ends due x) (Over xs x) (Waiting (x ∷ xs)) on))

  waited : (past : List Look) (before : List Part) (due : ℕ) (part : Wait → Part) → ((quiet : List Look) (x : Look) → grow row o (part (Waiting quiet) ∷ before) x ≡ part (wait_with due quiet x) ∷ before) → (w : Wait) → IsWait due w → cut_of row o past ≡ part (Waiting []) ∷ before → cut_of row o (wait_on w past) ≡ part w ∷ before
  waited past before due part grows (Waiting quiet) h e = quiets past before due part grows quiet h e
  waited past before due part grows (Over quiet last) h e =
      so (quiet ++ past) (part (Waiting quiet) ∷ before) (part (Over quiet last) ∷ before) last (quiets past before due part grows quiet h.0 e)
      (grows quiet last ∙ ap (λ w. part w ∷ before) (cond-true (ends due last) (Over quiet last) (Waiting (last ∷ quiet)) h.2))

  repeats : (n : ℕ) (g : Bool) (x : Look) (a : Arrival) → IsFrame (is_repeat row n g) a → begun row n g x a ≡ Repeated x (Waiting [])
  repeats n g x Nothing h = absurd h
  repeats n g x Bad h = absurd h
  repeats n g x Gone h = absurd h
  repeats n g x (Came f) h = rw h

  answers : (n : ℕ) (g : Bool) (x : Look) (a : Arrival) → IsAnswered row n g a → begun row n g x a ≡ Answer x
  answers n g x Nothing h = absurd h
  answers n g x Bad h = refl
  answers n g x Gone h = absurd h
  answers n g x (Came f) h = rw (h.0, h.1)

  begins_store : (n : ℕ) (g d : Bool) (x : Look) (a : Arrival) → IsFrame (is_next row n g) a → x.is_fault ≡ d → begun row n g x a ≡ (if d then Loss x [] else Offering x [])
  begins_store n g d x Nothing h e = absurd h
  begins_store n g d x Bad h e = absurd h
  begins_store n g d x Gone h e = absurd h
  begins_store n g d x (Came f) h e =
      let r = not_repeat row o n g f h in
      rw (r, h, e)

  -- the looks of a part after finished ones
  part_cut : (before : List Part) (p : Part) → AllByRecursion (λ q. is_finished q ≡ true) before → Follows row o p before → cut_of row o (looks_of before) ≡ before → cut_of row o (part_on p (looks_of before)) ≡ p ∷ before
  part_cut before p f h e = by p h.part h.release
    where
      n : ℕ
      n = count_after o before

      g : Bool
      g = greeted_after row before

      past : List Look
      past = looks_of before

      -- a part begins with this look
      first_is : (x : Look) (q : Part) (b : Bool) → b ≡ is_left o before → (if b then begun_held x else begun row (count_after o before) (greeted_after row before) x x.arrival) ≡ q → cut_of row o (x ∷ looks_of before) ≡ q ∷ before
      first_is x q b rel is = so (looks_of before) before (q ∷ before) x e (new_after row o before x f ∙ ap (λ (t : Bool). (if t then begun_held x else begun row (count_after o before) (greeted_after row before) x x.arrival) ∷ before) (sym rel) ∙ ap (λ t. t ∷ before) is)

      offered : (first : Look) (full : List Look) → IsStore row (count_after o before) (greeted_after row before) false first → AllByRecursion IsFull full → false ≡ is_left o before → cut_of row o (full ++ (first ∷ looks_of before)) ≡ Offering first full ∷ before
      offered first full s all rel = fulls (first ∷ looks_of before) before first full all (first_is first (Offering first []) false rel (begins_store (count_after o before) (greeted_after row before) false first first.arrival s.next s.outcome))

      by : (p : Part) → IsPart row (count_after o before) (greeted_after row before) p → is_release p ≡ is_left o before → cut_of row o (part_on p (looks_of before)) ≡ p ∷ before
      by (Holding newest older) h rel = holds (looks_of before) before newest older h (λ y held. first_is y (Holding y []) true rel (rw (held-not_released y held)))
      by (Release [] last) h rel = first_is last (Release [] last) true rel (rw h.1)
      by (Release (y ∷ ys) last) h rel = so (y ∷ (ys ++ looks_of before)) (Holding y ys ∷ before) (Release (y ∷ ys) last ∷ before) last (holds (looks_of before) before y ys h.0 (λ z held. first_is z (Holding z []) true rel (rw (held-not_released z held)))) (rw h.1)
      by (Empty x) h rel = first_is x (Empty x) false rel (rw h.0)
      by (Leaving x) h rel = first_is x (Leaving x) false rel (rw h.0)
      by (Answer x) h rel = first_is x (Answer x) false rel (answers (count_after o before) (greeted_after row before) x x.arrival h.0)
      by (Repeated first wait) h rel = waited (first ∷ looks_of before) before (due row first) (λ w. Repeated first w) (λ quiet x. refl) wait h.2 (first_is first (Repeated first (Waiting [])) false rel (repeats (count_after o before) (greeted_after row before) first first.arrival h.0))
      by (Offering first full) h rel = offered first full h.0 h.1 rel
      by (Dropped first full gone) h rel = so (full ++ (first ∷ looks_of before)) (Offering first full ∷ before) (Dropped first full gone ∷ before) gone (offered first full h.0 h.1 rel) (rw h.2)
      by (Delivery first full y wait) h rel =
          waited (y ∷ (full ++ (first ∷ looks_of before))) before (due row y) (λ w. Delivery first full y w) (λ quiet x. refl) wait h.3
          (so (full ++ (first ∷ looks_of before)) (Offering first full ∷ before) (Delivery first full y (Waiting []) ∷ before) y (offered first full h.0 h.1 rel) (rw (h.2.stays, h.2.passed)))
      by (Loss first rest) h rel = losses (first ∷ looks_of before) before first rest (first_is first (Loss first []) false rel (begins_store (count_after o before) (greeted_after row before) true first first.arrival h.0.next h.0.outcome))

  pub is_the_cut : (parts : List Part) → AreParts row o parts → cut_of row o (looks_of parts) ≡ parts
  is_the_cut [] h = refl
  is_the_cut (p ∷ before) h = part_cut before p h.2 h.0 (is_the_cut before h.1)

-- ---- what the newest look takes and stores ----

abbrev chosen : Look → Bool → Bool → Bool → Part
chosen x b c d = cond b (Repeated x (Waiting [])) (cond c (cond d (Loss x []) (Offering x [])) (Answer x))

chosen_takes : (x : Look) (b c d : Bool) (before : List Part) → takes (chosen x b c d ∷ before) ≡ true
chosen_takes x true c d before = refl
chosen_takes x false true true before = refl
chosen_takes x false true false before = refl
chosen_takes x false false d before = refl

chosen_stores : (x : Look) (b c d : Bool) (before : List Part) → stores (chosen x b c d ∷ before) ≡ cond b None (cond c (cond d None (Some (number_in x.arrival))) None)
chosen_stores x true c d before = refl
chosen_stores x false true true before = refl
chosen_stores x false true false before = refl
chosen_stores x false false d before = refl

idle_takes : (row : SessionRow) (n : ℕ) (g : Bool) (x : Look) (a : Arrival) (before : List Part) → takes (begun row n g x a ∷ before) ≡ takes_idle a
idle_takes row n g x Nothing before = refl
idle_takes row n g x Gone before = refl
idle_takes row n g x Bad before = refl
idle_takes row n g x (Came f) before = chosen_takes x (is_repeat row n g f) (is_next row n g f) x.is_fault before

idle_stores : (row : SessionRow) (n : ℕ) (g : Bool) (x : Look) (a : Arrival) (before : List Part) → x.arrival ≡ a → stores (begun row n g x a ∷ before) ≡ stores_idle row (record { next = n; greeted = g; phase = Idle }) x a
idle_stores row n g x Nothing before e = refl
idle_stores row n g x Gone before e = refl
idle_stores row n g x Bad before e = refl
idle_stores row n g x (Came f) before e = chosen_stores x (is_repeat row n g f) (is_next row n g f) x.is_fault before ∙ ap (λ a. cond (is_repeat row n g f) None (cond (is_next row n g f) (cond x.is_fault None (Some (number_in a))) None)) e

-- the newest look takes and stores so
pub record Newest (row : SessionRow) (s : State) (x : Look) (parts : List Part) : Type 0 where
  pub taken : takes parts ≡ takes_at s x
  pub stored : stores parts ≡ stores_at row s x

-- a look with Released is not Gone
stays : (g : Bool) (f : Feedback) → cond g (is_quiet f) (fits_passing None f) ≡ true → is_released f ≡ true → g ≡ false
stays false f fit r = refl
stays true Released fit r = absurd (cc)
stays true Quiet fit r = absurd (cc)
stays true Full fit r = absurd (cc)
stays true (Passed t) fit r = absurd (cc)
stays true (Repeat t) fit r = absurd (cc)

held_takes : (x : Look) (older : List Look) (before : List Part) → cond (is_gone x.arrival) (is_quiet x.feedback) (fits_passing None x.feedback) ≡ true → takes (cond (is_released x.feedback) (Release older x) (Holding x older) ∷ before) ≡ is_gone x.arrival
held_takes x older before fit = elim (is_released x.feedback) as (λ b. is_released x.feedback ≡ b → takes (cond b (Release older x) (Holding x older) ∷ before) ≡ is_gone x.arrival) [
  | true ↦ λ r. sym (stays (is_gone x.arrival) x.feedback fit r)
  | false ↦ λ r. refl
] refl

held_stores : (x : Look) (older : List Look) (b : Bool) (before : List Part) → stores (cond b (Release older x) (Holding x older) ∷ before) ≡ None
held_stores x older true before = refl
held_stores x older false before = refl

waits_takes : (due : ℕ) (quiet : List Look) (x : Look) → wait_takes (wait_with due quiet x) ≡ is_gone x.arrival
waits_takes due quiet x = elim (is_gone x.arrival) as (λ b. is_gone x.arrival ≡ b → wait_takes (cond (cond b true (nat_le due x.moment)) (Over quiet x) (Waiting (x ∷ quiet))) ≡ b) [
  | true ↦ λ e. e
  | false ↦ λ e. elim (nat_le due x.moment) as (λ b. wait_takes (cond b (Over quiet x) (Waiting (x ∷ quiet))) ≡ false) [ true ↦ e | false ↦ refl ]
] refl

repeated_takes : (first : Look) (due : ℕ) (quiet : List Look) (x : Look) (before : List Part) → takes (Repeated first (wait_with due quiet x) ∷ before) ≡ is_gone x.arrival
repeated_takes first due quiet x before = elim (is_gone x.arrival) as (λ b. is_gone x.arrival ≡ b → takes (Repeated first (cond (cond b true (nat_le due x.moment)) (Over quiet x) (Waiting (x ∷ quiet))) ∷ before) ≡ b) [
  | true ↦ λ e. e
  | false ↦ λ e. elim (nat_le due x.moment) as (λ b. takes (Repeated first (cond b (Over quiet x) (Waiting (x ∷ quiet))) ∷ before) ≡ false) [ true ↦ e | false ↦ refl ]
] refl

offered_takes : (first : Look) (full : List Look) (x : Look) (g p : Bool) (before : List Part) → takes (cond g (Dropped first full x) (cond p (Delivery first full x (Waiting [])) (Offering first (x ∷ full))) ∷ before) ≡ g
offered_takes first full x true p before = refl
offered_takes first full x false true before = refl
offered_takes first full x false false before = refl

offered_stores : (first : Look) (full : List Look) (x : Look) (g p : Bool) (before : List Part) → stores (cond g (Dropped first full x) (cond p (Delivery first full x (Waiting [])) (Offering first (x ∷ full))) ∷ before) ≡ None
offered_stores first full x true p before = refl
offered_stores first full x false true before = refl
offered_stores first full x false false before = refl

module _ (row : SessionRow) (o : Opening) (x : Look) where
  idle : (n : ℕ) (g : Bool) (before : List Part) → Newest row (record { next = n; greeted = g; phase = Idle }) x (begun row n g x x.arrival ∷ before)
  idle n g before = record { taken = idle_takes row n g x x.arrival before; stored = idle_stores row n g x x.arrival before refl }

  held : (n : ℕ) (g : Bool) (older : List Look) (before : List Part) → FeedbackFits row (record { next = n; greeted = g; phase = Passing None }) x → Newest row (record { next = n; greeted = g; phase = Passing None }) x ((if is_released x.feedback then Release older x else Holding x older) ∷ before)
  held n g older before fit = record { taken = held_takes x older before fit; stored = held_stores x older (is_released x.feedback) before }

  opens : (n : ℕ) (b : Bool) → FeedbackFits row (record { next = n; greeted = false; phase = if b then Passing None else Idle }) x → Newest row (record { next = n; greeted = false; phase = if b then Passing None else Idle }) x ((if b then begun_held x else begun row n false x x.arrival) ∷ [])
  opens n true fit = held n false [] [] fit
  opens n false fit = idle n false []

  newest : (parts : List Part) → FeedbackFits row (end_of row o parts) x → Newest row (end_of row o parts) x (grow row o parts x)
  newest [] fit = opens o.count o.is_held fit
  newest (Holding y ys ∷ before) fit = held (count_after o before) (greeted_after row (Holding y ys ∷ before)) (y ∷ ys) before fit
  newest (Release ys last ∷ before) fit = idle (count_after o before) (greeted_after row (Release ys last ∷ before)) (Release ys last ∷ before)
  newest (Empty y ∷ before) fit = idle (count_after o before) (greeted_after row (Empty y ∷ before)) (Empty y ∷ before)
  newest (Leaving y ∷ before) fit = idle (count_after o before) (greeted_after row (Leaving y ∷ before)) (Leaving y ∷ before)
  newest (Answer y ∷ before) fit = idle (count_after o before) (greeted_after row (Answer y ∷ before)) (Answer y ∷ before)
  newest (Repeated first (Waiting quiet) ∷ before) fit = record { taken = repeated_takes first (due row first) quiet x before; stored = refl }
  newest (Repeated first (Over quiet last) ∷ before) fit = idle (count_after o before) (greeted_after row (Repeated first (Over quiet last) ∷ before)) (Repeated first (Over quiet last) ∷ before)
  newest (Offering first full ∷ before) fit = record { taken = offered_takes first full x (is_gone x.arrival) (is_passed x.feedback) before; stored = offered_stores first full x (is_gone x.arrival) (is_passed x.feedback) before }
  newest (Dropped first full gone ∷ before) fit = held (count_after o (Dropped first full gone ∷ before)) false [] (Dropped first full gone ∷ before) fit
  newest (Delivery first full y (Waiting quiet) ∷ before) fit = record { taken = waits_takes (due row y) quiet x; stored = refl }
  newest (Delivery first full y (Over quiet last) ∷ before) fit = idle (count_after o (Delivery first full y (Over quiet last) ∷ before)) (greeted_after row (Delivery first full y (Over quiet last) ∷ before)) (Delivery first full y (Over quiet last) ∷ before)
  newest (Loss first rest ∷ before) fit = record { taken = refl; stored = refl }

  -- .. in any cut of the looks with the new one
  pub newest_of_cut : (parts parts' : List Part) → AreParts row o parts → AreParts row o parts' → looks_of parts' ≡ x ∷ looks_of parts → FeedbackFits row (end_of row o parts) x → Newest row (end_of row o parts) x parts'
  newest_of_cut parts parts' h h' e fit =
      let same : grow row o parts x ≡ parts' = sym (ap (λ c. grow row o c x) (is_the_cut row o parts h)) ∙ sym (ap (cut_of row o) e) ∙ is_the_cut row o parts' h' in
      subst (Newest row (end_of row o parts) x) same (newest parts fit)

pub one_cut : (row : SessionRow) (life : Life) (parts parts' : List Part) → IsCut row life parts → IsCut row life parts' → parts ≡ parts'
one_cut row life parts parts' c c' =
    sym (is_the_cut row life.opening parts c.are_parts)
    ∙ ap (cut_of row life.opening) (sym c.looks ∙ c'.looks)
    ∙ is_the_cut row life.opening parts' c'.are_parts
