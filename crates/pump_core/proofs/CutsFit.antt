-- A look that makes the cut of a life longer has a feedback that the state before it allows.
use Rattle.std.proofs.Common.{◌≡◌, ℕ, Bool, true, false, List, [], ◌∷◌, Some, None, refl, sym, ap, ◌∙◌, subst}
use Rattle.std.specs.Prelude.{if◌then◌else◌}
use Rattle.std.specs.List.{AllByRecursion}
use Rattle.pump_frame.specs.declared.row.SessionRow.{SessionRow}
use Rattle.pump_core.specs.declared.feedback.Feedback.{Feedback}
use Rattle.pump_core.specs.declared.feedback.Feedback.TheVariants.{Quiet, Full, Passed, Released, Repeat}
use Rattle.pump_core.specs.Phases.{Phase}
use Rattle.pump_core.specs.Phases.{Idle, Passing}
use Rattle.pump_core.specs.History.{Arrival}
use Rattle.pump_core.specs.History.{Nothing, Came, Bad, Gone}
use Rattle.pump_core.specs.History.{Look, Opening}
use Rattle.pump_core.specs.Exchanges.{is_gone, is_repeat, is_next, is_passed, has_average, due, ends, Waiting, Over, Part, Holding, Release, Empty, Leaving, Answer, Repeated, Offering, Dropped, Delivery, Loss, looks_of, is_finished, count_after, greeted_after, is_left, IsWait, IsPart, AreParts}
use Rattle.pump_core.specs.Replies.{number_in}
use Rattle.pump_core.specs.Step.{is_quiet, fits_passing, fits_idle, fits_in, FeedbackFits}
use Rattle.pump_core.specs.Standing.{end_of}
use Rattle.pump_core.proofs.Runs.{next_phase}
use Rattle.pump_core.proofs.Cuts.{is_released, begun, begun_held, following, grow, cut_of, is_the_cut}

-- ---- what the parts say of the feedback ----

passed_fits : (n : ℕ) (f : Feedback) → is_passed f ≡ true → fits_passing (Some n) f ≡ true
passed_fits n (Passed s) e = refl
passed_fits n Quiet e = absurd (cc)
passed_fits n Full e = absurd (cc)
passed_fits n Released e = absurd (cc)
passed_fits n (Repeat s) e = absurd (cc)

held_fits : (g : Bool) (f : Feedback) → f ≡ (if g then Quiet else Full) → (if g then is_quiet f else fits_passing None f) ≡ true
held_fits true f e = ap is_quiet e
held_fits false f e = ap (fits_passing None) e

released_fits : (g : Bool) (f : Feedback) → f ≡ Released → g ≡ false → (if g then is_quiet f else fits_passing None f) ≡ true
released_fits true f e stays = absurd (cc)
released_fits false f e stays = ap (fits_passing None) e

module _ (row : SessionRow) (o : Opening) (x : Look) where
  -- a part that keeps or releases a message
  kept_fits : (n : ℕ) (g b : Bool) (older : List Look)
      → IsPart row n g (if b then Release older x else Holding x older)
      → (if is_gone x.arrival then is_quiet x.feedback else fits_passing None x.feedback) ≡ true
  kept_fits n g true older h = released_fits (is_gone x.arrival) x.feedback h.1 h.2
  kept_fits n g false older h = held_fits (is_gone x.arrival) x.feedback h.0

  -- a part that begins with a taken frame
  taken_fits : (n : ℕ) (g b c d : Bool)
      → IsPart row n g (if b then Repeated x (Waiting []) else if c then (if d then Loss x [] else Offering x []) else Answer x)
      → (if b then has_average x.feedback else is_quiet x.feedback) ≡ true
  taken_fits n g true c d h = h.1
  taken_fits n g false true true h = ap is_quiet h.0.quiet
  taken_fits n g false true false h = ap is_quiet h.0.quiet
  taken_fits n g false false d h = ap is_quiet h.1

  begun_fits : (n : ℕ) (g : Bool) (a : Arrival) → IsPart row n g (begun row n g x a)
      → fits_idle row (record { next = n; greeted = g; phase = Idle }) a x.feedback ≡ true
  begun_fits n g Nothing h = ap is_quiet h.1
  begun_fits n g Gone h = ap is_quiet h.1
  begun_fits n g Bad h = ap is_quiet h.1
  begun_fits n g (Came f) h = taken_fits n g (is_repeat row n g f) (is_next row n g f) x.is_fault h

  -- .. after finished parts, of which the last left a message or not
  follows_fits : (n : ℕ) (g b : Bool)
      → IsPart row n g (if b then begun_held x else begun row n g x x.arrival)
      → fits_in row (record { next = n; greeted = g; phase = if b then Passing None else Idle }) x (if b then Passing None else Idle) ≡ true
  follows_fits n g true h = kept_fits n g (is_released x.feedback) [] h
  follows_fits n g false h = begun_fits n g x.arrival h

  following_fits : (parts : List Part) → AllByRecursion (λ q. is_finished q ≡ true) parts
      → AreParts row o (following row o parts x) → FeedbackFits row (end_of row o parts) x
  following_fits parts f h =
      let n = count_after o parts in
      let g = greeted_after row parts in
      subst (λ (ph : Phase). fits_in row (record { next = n; greeted = g; phase = ph }) x ph ≡ true) (sym (next_phase row o parts f))
      (follows_fits n g (is_left o parts) h.0.part)

  waits_fit : (at : ℕ) (quiet : List Look) (b : Bool) → IsWait at (if b then Over quiet x else Waiting (x ∷ quiet)) → is_quiet x.feedback ≡ true
  waits_fit at quiet true h = ap is_quiet h.1
  waits_fit at quiet false h = ap is_quiet h.0.quiet

  offered_fits : (m n : ℕ) (g b c : Bool) (first : Look) (full : List Look)
      → IsPart row m g (if b then Dropped first full x else if c then Delivery first full x (Waiting []) else Offering first (x ∷ full))
      → (if b then is_quiet x.feedback else fits_passing (Some n) x.feedback) ≡ true
  offered_fits m n g true c first full h = ap is_quiet h.3
  offered_fits m n g false true first full h = passed_fits n x.feedback h.2.passed
  offered_fits m n g false false first full h = ap (fits_passing (Some n)) h.1.0.full

  grown_fits : (parts : List Part) → AreParts row o parts → AreParts row o (grow row o parts x) → FeedbackFits row (end_of row o parts) x
  grown_fits [] h k = following_fits [] tt k
  grown_fits (Holding y ys ∷ before) h k = kept_fits (count_after o before) (greeted_after row before) (is_released x.feedback) (y ∷ ys) k.0.part
  grown_fits (Release ys last ∷ before) h k = following_fits (Release ys last ∷ before) (refl, h.2) k
  grown_fits (Empty y ∷ before) h k = following_fits (Empty y ∷ before) (refl, h.2) k
  grown_fits (Leaving y ∷ before) h k = following_fits (Leaving y ∷ before) (refl, h.2) k
  grown_fits (Answer y ∷ before) h k = following_fits (Answer y ∷ before) (refl, h.2) k
  grown_fits (Repeated first (Waiting quiet) ∷ before) h k = waits_fit (due row first) quiet (ends (due row first) x) k.0.part.2
  grown_fits (Repeated first (Over quiet last) ∷ before) h k = following_fits (Repeated first (Over quiet last) ∷ before) (refl, h.2) k
  grown_fits (Offering first full ∷ before) h k = offered_fits (count_after o before) (number_in first.arrival) (greeted_after row before) (is_gone x.arrival) (is_passed x.feedback) first full k.0.part
  grown_fits (Dropped first full gone ∷ before) h k = following_fits (Dropped first full gone ∷ before) (refl, h.2) k
  grown_fits (Delivery first full y (Waiting quiet) ∷ before) h k = waits_fit (due row y) quiet (ends (due row y) x) k.0.part.3
  grown_fits (Delivery first full y (Over quiet last) ∷ before) h k = following_fits (Delivery first full y (Over quiet last) ∷ before) (refl, h.2) k
  grown_fits (Loss first rest ∷ before) h k = ap is_quiet k.0.part.1.0

  -- the looks of one cut are those of another and one more
  pub cuts_fit : (parts parts' : List Part) → AreParts row o parts → AreParts row o parts' → looks_of parts' ≡ x ∷ looks_of parts → FeedbackFits row (end_of row o parts) x
  cuts_fit parts parts' h h' e =
      let same : grow row o parts x ≡ parts' = sym (ap (λ c. grow row o c x) (is_the_cut row o parts h)) ∙ sym (ap (cut_of row o) e) ∙ is_the_cut row o parts' h' in
      grown_fits parts h (subst (AreParts row o) (sym same) h')
