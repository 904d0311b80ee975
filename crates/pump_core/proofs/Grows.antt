-- One more look: the parts of a life grow by it, if the state at their end allows it.
use Rattle.std.proofs.Common.{◌≡◌, ◌⊎◌, ℕ, Bool, true, false, List, [], ◌∷◌, ◌++◌, Some, None, refl, sym, ◌∙◌, subst, inl, inr, ⊎_elim}
use Rattle.std.specs.Prelude.{if◌then◌else◌, nat_le}
use Rattle.std.specs.List.{AllByRecursion}
use Rattle.std.proofs.lemmas.Bool.{cond-true, cond-false}
use Rattle.pump_frame.specs.declared.row.SessionRow.{SessionRow}
use Rattle.pump_core.specs.History.{Arrival}
use Rattle.pump_core.specs.History.{Nothing, Came, Bad, Gone}
use Rattle.pump_core.specs.declared.feedback.Feedback.{Feedback}
use Rattle.pump_core.specs.declared.feedback.Feedback.TheVariants.{Quiet, Full, Passed, Released, Repeat}
use Rattle.pump_core.specs.Phases.{Phase}
use Rattle.pump_core.specs.Phases.{Idle, Passing}
use Rattle.pump_core.specs.History.{Look, Opening}
use Rattle.pump_core.specs.Exchanges.{is_gone, is_repeat, is_next, is_passed, has_average, due, Wait, Waiting, Over, Part, Holding, Release, Empty, Leaving, Answer, Repeated, Offering, Dropped, Delivery, Loss, wait_on, part_on, looks_of, is_finished, count_after, greeted_after, is_left, is_release, IsHeld, IsQuiet, ends, IsWait, IsAnswered, IsFrame, IsPart, AreParts}
use Rattle.pump_core.specs.Replies.{number_in}
use Rattle.pump_core.specs.Step.{is_quiet, fits_passing, fits_idle, fits_in, FeedbackFits}
use Rattle.pump_core.specs.Standing.{end_of}
use Rattle.pump_core.proofs.Runs.{next_phase}

is_quiet-true : (f : Feedback) → is_quiet f ≡ true → f ≡ Quiet
is_quiet-true Quiet e = refl
is_quiet-true Full e = absurd (cc)
is_quiet-true (Passed s) e = absurd (cc)
is_quiet-true Released e = absurd (cc)
is_quiet-true (Repeat s) e = absurd (cc)

is_gone-true : (a : Arrival) → is_gone a ≡ true → a ≡ Gone
is_gone-true Gone e = refl
is_gone-true Nothing e = absurd (cc)
is_gone-true Bad e = absurd (cc)
is_gone-true (Came f) e = absurd (cc)

full_or_released : (f : Feedback) → fits_passing None f ≡ true → (f ≡ Full) ⊎ (f ≡ Released)
full_or_released Full e = inl refl
full_or_released Released e = inr refl
full_or_released Quiet e = absurd (cc)
full_or_released (Passed s) e = absurd (cc)
full_or_released (Repeat s) e = absurd (cc)

full_or_passed : (n : ℕ) (f : Feedback) → fits_passing (Some n) f ≡ true → (f ≡ Full) ⊎ (is_passed f ≡ true)
full_or_passed n Full e = inl refl
full_or_passed n (Passed s) e = inr refl
full_or_passed n Released e = absurd (cc)
full_or_passed n Quiet e = absurd (cc)
full_or_passed n (Repeat s) e = absurd (cc)

-- parts whose looks are those of these parts and one more
pub record Grown (row : SessionRow) (o : Opening) (before : List Part) (x : Look) : Type 0 where
  pub parts : List Part
  pub are_parts : AreParts row o parts
  pub looks : looks_of parts ≡ x ∷ looks_of before

abbrev AllFinished : List Part → Type 0
AllFinished parts = AllByRecursion (λ q. is_finished q ≡ true) parts

module _ (row : SessionRow) (o : Opening) where
  -- a part that begins with the look
  new_part : (before : List Part) (x : Look) (p : Part) → AreParts row o before → AllFinished before → IsPart row (count_after o before) (greeted_after row before) p → is_release p ≡ is_left o before → part_on p (looks_of before) ≡ x ∷ looks_of before → Grown row o before x
  new_part before x p h f is rel e = record { parts = p ∷ before; are_parts = (record { part = is; release = rel }, h, f); looks = e }

  begins_idle : (before : List Part) (x : Look) (n : ℕ) (g : Bool) (a : Arrival) → n ≡ count_after o before → g ≡ greeted_after row before → AreParts row o before → AllFinished before → is_left o before ≡ false → x.arrival ≡ a → fits_idle row (record { next = n; greeted = g; phase = Idle }) a x.feedback ≡ true → Grown row o before x
  begins_idle before x n g Nothing en eg h f left e fit = new_part before x (Empty x) h f (e, is_quiet-true x.feedback fit) (sym left) refl
  begins_idle before x n g Gone en eg h f left e fit = new_part before x (Leaving x) h f (e, is_quiet-true x.feedback fit) (sym left) refl
  begins_idle before x n g Bad en eg h f left e fit = new_part before x (Answer x) h f (subst (IsAnswered row (count_after o before) (greeted_after row before)) (sym e) tt, is_quiet-true x.feedback fit) (sym left) refl
  begins_idle before x n g (Came c) en eg h f left e fit =
      elim (is_repeat row n g c) as (λ b. is_repeat row n g c ≡ b → Grown row o before x) [
        | true ↦ λ r. new_part before x (Repeated x (Waiting [])) h f (
          subst (λ (t : ℕ × Bool). IsFrame (is_repeat row t.0 t.1) x.arrival) (λ i. (en i, eg i)) (subst (IsFrame (is_repeat row n g)) (sym e) r),
          sym (cond-true (is_repeat row n g c) (has_average x.feedback) (is_quiet x.feedback) r) ∙ fit,
          tt,
        ) (sym left) refl
        | false ↦ λ r.
            let quiet : x.feedback ≡ Quiet = is_quiet-true x.feedback (sym (cond-false (is_repeat row n g c) (has_average x.feedback) (is_quiet x.feedback) r) ∙ fit) in
            elim (is_next row n g c) as (λ b. is_next row n g c ≡ b → Grown row o before x) [
              | true ↦ λ s.
                  let next = subst (λ (t : ℕ × Bool). IsFrame (is_next row t.0 t.1) x.arrival) (λ i. (en i, eg i)) (subst (IsFrame (is_next row n g)) (sym e) s) in
                  elim x.is_fault as (λ b. x.is_fault ≡ b → Grown row o before x) [
                    | true ↦ λ d. new_part before x (Loss x []) h f (record { next = next; outcome = d; quiet = quiet }, tt) (sym left) refl
                    | false ↦ λ d. new_part before x (Offering x []) h f (record { next = next; outcome = d; quiet = quiet }, tt) (sym left) refl
                  ] refl
              | false ↦ λ s. new_part before x (Answer x) h f
                  (subst (λ (t : ℕ × Bool). IsAnswered row t.0 t.1 x.arrival) (λ i. (en i, eg i)) (subst (IsAnswered row n g) (sym e) (r, s)), quiet) (sym left) refl
            ] refl
      ] refl

  -- a look while a message is held
  held_or_released : (x : Look) → fits_in row (record { next = 0; greeted = false; phase = Idle }) x (Passing None) ≡ true → IsHeld x ⊎ ((x.feedback ≡ Released) × (is_gone x.arrival ≡ false))
  held_or_released x fit =
      elim (is_gone x.arrival) as (λ b. is_gone x.arrival ≡ b → IsHeld x ⊎ ((x.feedback ≡ Released) × (is_gone x.arrival ≡ false))) [
        | true ↦ λ e. inl (is_quiet-true x.feedback (sym (cond-true (is_gone x.arrival) (is_quiet x.feedback) (fits_passing None x.feedback) e) ∙ fit) ∙ sym (cond-true (is_gone x.arrival) Quiet Full e))
        | false ↦ λ e. ⊎_elim
            (λ (full : x.feedback ≡ Full). inl (full ∙ sym (cond-false (is_gone x.arrival) Quiet Full e)))
            (λ (r : x.feedback ≡ Released). inr (r, e))
            (full_or_released x.feedback (sym (cond-false (is_gone x.arrival) (is_quiet x.feedback) (fits_passing None x.feedback) e) ∙ fit))
      ] refl

  begins_held : (before : List Part) (x : Look) → AreParts row o before → AllFinished before → is_left o before ≡ true → fits_in row (record { next = 0; greeted = false; phase = Idle }) x (Passing None) ≡ true → Grown row o before x
  begins_held before x h f left fit = ⊎_elim
      (λ (held : IsHeld x). new_part before x (Holding x []) h f (held, tt) (sym left) refl)
      (λ (r : (x.feedback ≡ Released) × (is_gone x.arrival ≡ false)). new_part before x (Release [] x) h f (tt, r.0, r.1) (sym left) refl)
      (held_or_released x fit)

  -- a look after finished parts
  begins : (before : List Part) (x : Look) → AreParts row o before → AllFinished before → FeedbackFits row (end_of row o before) x → Grown row o before x
  begins before x h f fit =
      let n = count_after o before in
      let g = greeted_after row before in
      let fit' = subst (λ (ph : Phase). fits_in row (record { next = n; greeted = g; phase = ph }) x ph ≡ true) (next_phase row o before f) fit in
      elim (is_left o before) as (λ b. is_left o before ≡ b → fits_in row (record { next = n; greeted = g; phase = if b then Passing None else Idle }) x (if b then Passing None else Idle) ≡ true → Grown row o before x) [
        | true ↦ λ e k. begins_held before x h f e k
        | false ↦ λ e k. begins_idle before x n g x.arrival refl refl h f e refl k
      ] refl fit'

  -- a wait with one more look
  record Longer (due : ℕ) (quiet : List Look) (x : Look) : Type 0 where
    wait : Wait
    is_wait : IsWait due wait
    looks : (past : List Look) → wait_on wait past ≡ x ∷ (quiet ++ past)

  longer : (due : ℕ) (quiet : List Look) (x : Look) → AllByRecursion (IsQuiet due) quiet → is_quiet x.feedback ≡ true → Longer due quiet x
  longer due quiet x all fit =
      let q = is_quiet-true x.feedback fit in
      elim (ends due x) as (λ b. ends due x ≡ b → Longer due quiet x) [
        | true ↦ λ e. record { wait = Over quiet x; is_wait = (all, q, e); looks = λ past. refl }
        | false ↦ λ e.
            elim (is_gone x.arrival) as (λ b. is_gone x.arrival ≡ b → Longer due quiet x) [
              | true ↦ λ g. let no : true ≡ false = sym (cond-true (is_gone x.arrival) true (nat_le due x.moment) g) ∙ e in absurd (cc)
              | false ↦ λ g. record { wait = Waiting (x ∷ quiet); is_wait = (record { quiet = q; stays = g; early = sym (cond-false (is_gone x.arrival) true (nat_le due x.moment) g) ∙ e }, all); looks = λ past. refl }
            ] refl
      ] refl

  pub grown : (parts : List Part) (x : Look) → AreParts row o parts → FeedbackFits row (end_of row o parts) x → Grown row o parts x
  grown [] x h fit = begins [] x h tt fit
  grown (Holding newest older ∷ before) x h fit = ⊎_elim
      (λ (held : IsHeld x). record { parts = Holding x (newest ∷ older) ∷ before; are_parts = (record { part = (held, h.0.part); release = h.0.release }, h.1, h.2); looks = refl })
      (λ (r : (x.feedback ≡ Released) × (is_gone x.arrival ≡ false)). record { parts = Release (newest ∷ older) x ∷ before; are_parts = (record { part = (h.0.part, r.0, r.1); release = h.0.release }, h.1, h.2); looks = refl })
      (held_or_released x fit)
  grown (Release looks last ∷ before) x h fit = begins (Release looks last ∷ before) x h (refl, h.2) fit
  grown (Empty y ∷ before) x h fit = begins (Empty y ∷ before) x h (refl, h.2) fit
  grown (Leaving y ∷ before) x h fit = begins (Leaving y ∷ before) x h (refl, h.2) fit
  grown (Answer y ∷ before) x h fit = begins (Answer y ∷ before) x h (refl, h.2) fit
  grown (Repeated first (Waiting quiet) ∷ before) x h fit =
      let l = longer (due row first) quiet x h.0.part.2 fit in
      record { parts = Repeated first l.wait ∷ before; are_parts = (record { part = (h.0.part.0, h.0.part.1, l.is_wait); release = h.0.release }, h.1, h.2); looks = l.looks (first ∷ looks_of before) }
  grown (Repeated first (Over quiet last) ∷ before) x h fit = begins (Repeated first (Over quiet last) ∷ before) x h (refl, h.2) fit
  grown (Offering first full ∷ before) x h fit =
      elim (is_gone x.arrival) as (λ b. is_gone x.arrival ≡ b → Grown row o (Offering first full ∷ before) x) [
        | true ↦ λ e. record { parts = Dropped first full x ∷ before; are_parts = (record { part = (h.0.part.0, h.0.part.1, is_gone-true x.arrival e, is_quiet-true x.feedback (sym (cond-true (is_gone x.arrival) (is_quiet x.feedback) (fits_passing (Some (number_in first.arrival)) x.feedback) e) ∙ fit)); release = h.0.release }, h.1, h.2); looks = refl }
        | false ↦ λ e. ⊎_elim
            (λ (full' : x.feedback ≡ Full). record { parts = Offering first (x ∷ full) ∷ before; are_parts = (record { part = (h.0.part.0, (record { full = full'; stays = e }, h.0.part.1)); release = h.0.release }, h.1, h.2); looks = refl })
            (λ (p : is_passed x.feedback ≡ true). record { parts = Delivery first full x (Waiting []) ∷ before; are_parts = (record { part = (h.0.part.0, h.0.part.1, record { passed = p; stays = e }, tt); release = h.0.release }, h.1, h.2); looks = refl })
            (full_or_passed (number_in first.arrival) x.feedback (sym (cond-false (is_gone x.arrival) (is_quiet x.feedback) (fits_passing (Some (number_in first.arrival)) x.feedback) e) ∙ fit))
      ] refl
  grown (Dropped first full gone ∷ before) x h fit = begins (Dropped first full gone ∷ before) x h (refl, h.2) fit
  grown (Delivery first full passing (Waiting quiet) ∷ before) x h fit =
      let l = longer (due row passing) quiet x h.0.part.3 fit in
      record { parts = Delivery first full passing l.wait ∷ before; are_parts = (record { part = (h.0.part.0, h.0.part.1, h.0.part.2, l.is_wait); release = h.0.release }, h.1, h.2); looks = l.looks (passing ∷ (full ++ (first ∷ looks_of before))) }
  grown (Delivery first full passing (Over quiet last) ∷ before) x h fit = begins (Delivery first full passing (Over quiet last) ∷ before) x h (refl, h.2) fit
  grown (Loss first rest ∷ before) x h fit =
      record { parts = Loss first (x ∷ rest) ∷ before; are_parts = (record { part = (h.0.part.0, (is_quiet-true x.feedback fit, h.0.part.1)); release = h.0.release }, h.1, h.2); looks = refl }
