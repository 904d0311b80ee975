-- What the looks of the low work are, their recorded ones are too.
use Rattle.std.proofs.Common.{◌≡◌, ℕ, ◌<◌, Bool, true, false, List, [], ◌∷◌, ◌++◌, length, slice_get, Some, None, refl, sym, ap, ◌∙◌, subst, append-nil, arith}
use Rattle.std.specs.Prelude.{if◌then◌else◌, ◌||◌, ◌&&◌, not, is_some}
use Rattle.std.specs.List.{All}
use Rattle.std.proofs.lemmas.List.{length-append}
use Rattle.std.proofs.lemmas.List.Elements.{All-cons, All-nil}
use Rattle.pump_frame.specs.declared.row.SessionRow.{SessionRow}
use Rattle.pump_core.specs.declared.feedback.Seen.{Seen}
use Rattle.pump_core.specs.declared.feedback.Feedback.{Feedback}
use Rattle.pump_core.specs.declared.feedback.Feedback.TheVariants.{Quiet, Full, Passed, Released, Repeat}
use Rattle.pump_core.specs.History.{Arrival, Look, Opening}
use Rattle.pump_core.specs.History.{Nothing, Came, Bad, Gone}
use Rattle.pump_core.specs.Comings.{is_nothing}
use Rattle.pump_core.specs.Phases.{Phase}
use Rattle.pump_core.specs.Phases.{Idle, Passing, Waiting as Waits, Down}
use Rattle.pump_core.specs.Exchanges.{is_gone, Part, IsCut, count_after}
use Rattle.pump_core.specs.Standing.{State, end_of}
use Rattle.pump_core.specs.Step.{FeedbackFits, fits_in, fits_idle, fits_passing, is_full, is_quiet, takes_at, takes_in, takes_idle}
use Rattle.pump_core.proofs.Lists.{slice_get-append, slice_get-past}
use Rattle.pump_core.proofs.PassageSteps.{all_weaken}
use Rattle.pump_core.proofs.Cuts.{one_cut}
use Rattle.relay_threads.specs.PairsRead.{pair_in, pairs_of}
use Rattle.relay_threads.specs.Records.{Made, Shown, looks_made, life_made, AreMade, was_full, passes_on, is_recorded, recorded, made_of}
use Rattle.relay_threads.proofs.Machine.{led}
use Rattle.relay_threads.proofs.Kept.{thin_of}
use Rattle.race.specs.LookWords.{word_of_look}
use Rattle.race.specs.MadeLooks.{moments_of, HaveWords, TakeAll, frame_in, frames_of, FullFrom, NumbersFall, HasItsOwn}

not_gone : (gone : Bool) (a b : Bool) → gone ≡ false → (if gone then a else b) ≡ true → b ≡ true
not_gone true a b g e = absurd (cc)
not_gone false a b g e = e

idle_none : (row : SessionRow) (s : State) (f : Feedback) (a : Arrival) (seen : Seen) → f ≡ Repeat seen → fits_idle row s a f ≡ true → takes_idle a ≡ false → ⊥
idle_none row s f Nothing seen e fit t = let q = sym fit ∙ ap is_quiet e in absurd (cc)
idle_none row s f Bad seen e fit t = absurd (cc)
idle_none row s f Gone seen e fit t = absurd (cc)
idle_none row s f (Came g) seen e fit t = absurd (cc)

-- a look that takes nothing and passes nothing on reads no average
not_repeat_in : (row : SessionRow) (s : State) (x : Look) (p : Phase) (f : Feedback) → x.feedback ≡ f → fits_in row s x p ≡ true → takes_in x p ≡ false → passes_on f ≡ false → (seen : Seen) → f ≡ Repeat seen → ⊥
not_repeat_in row s x Down f is fit t p seen e = let q = sym fit ∙ ap is_quiet (is ∙ e) in absurd (cc)
not_repeat_in row s x (Waits n at) f is fit t p seen e = let q = sym fit ∙ ap is_quiet (is ∙ e) in absurd (cc)
not_repeat_in row s x (Passing None) f is fit t p seen e = let q = sym (not_gone (is_gone x.arrival) _ _ t fit) ∙ ap (fits_passing None) (is ∙ e) in absurd (cc)
not_repeat_in row s x (Passing (Some n)) f is fit t p seen e = let q = sym (not_gone (is_gone x.arrival) _ _ t fit) ∙ ap (fits_passing (Some n)) (is ∙ e) in absurd (cc)
not_repeat_in row s x Idle f is fit t p seen e = idle_none row s x.feedback x.arrival seen (is ∙ e) fit t

pub not_repeat : (row : SessionRow) (s : State) (x : Look) → FeedbackFits row s x → takes_at s x ≡ false → passes_on x.feedback ≡ false → (seen : Seen) → x.feedback ≡ Repeat seen → ⊥
not_repeat row s x fit t p seen e = not_repeat_in row s x s.phase x.feedback refl fit t p seen e

abbrev shown_with : Bool → Made → List Made → List Shown
shown_with b m before = if b then record { number = length before; made = m } ∷ recorded before else recorded before

all_false : (a b c d : Bool) → a || (b || (c || d)) ≡ false → (a ≡ false) × (c ≡ false)
all_false true b c d e = absurd (cc)
all_false false true c d e = absurd (cc)
all_false false false true d e = absurd (cc)
all_false false false false d e = (refl, refl)

take_all_with : (b : Bool) (m : Made) (before : List Made) → TakeAll (m ∷ before) → TakeAll (made_of (recorded before)) → TakeAll (made_of (shown_with b m before))
take_all_with true m before h k = (h.0, k)
take_all_with false m before h k = k

pub take_all_kept : (made : List Made) → TakeAll made → TakeAll (made_of (recorded made))
take_all_kept [] h = tt
take_all_kept (m ∷ before) h = take_all_with (is_recorded before m) m before h (take_all_kept before h.1)

no_frame : (a : Arrival) → not (is_nothing a) ≡ false → frame_in a ≡ []
no_frame Nothing e = refl
no_frame Bad e = refl
no_frame Gone e = refl
no_frame (Came f) e = absurd (cc)

frames_with : (b : Bool) (m : Made) (before : List Made) → is_recorded before m ≡ b → TakeAll (m ∷ before) → frames_of (made_of (recorded before)) ≡ frames_of before → frames_of (made_of (shown_with b m before)) ≡ frames_of (m ∷ before)
frames_with true m before e h k = ap (λ l. l ++ frame_in m.look.arrival) k
frames_with false m before e h k =
    let none : frame_in m.look.arrival ≡ [] = no_frame m.look.arrival (sym h.0 ∙ (all_false m.taken (is_some m.reply) (passes_on m.look.feedback) (is_full m.look.feedback && not (was_full before)) e).0) in
    k ∙ sym (append-nil (frames_of before)) ∙ ap (λ l. frames_of before ++ l) (sym none)

pub frames_kept : (made : List Made) → TakeAll made → frames_of (made_of (recorded made)) ≡ frames_of made
frames_kept [] h = refl
frames_kept (m ∷ before) h = frames_with (is_recorded before m) m before refl h (frames_kept before h.1)

no_pair : (f : Feedback) → passes_on f ≡ false → ((seen : Seen) → f ≡ Repeat seen → ⊥) → pair_in f ≡ []
no_pair Quiet p r = refl
no_pair Full p r = refl
no_pair Released p r = refl
no_pair (Passed seen) p r = absurd (cc)
no_pair (Repeat seen) p r = absurd (r seen refl)

module _ (row : SessionRow) (o : Opening) where
  pairs_with : (b : Bool) (m : Made) (before : List Made) → is_recorded before m ≡ b → AreMade row o (m ∷ before) → pairs_of (made_of (recorded before)) ≡ pairs_of before → pairs_of (made_of (shown_with b m before)) ≡ pairs_of (m ∷ before)
  pairs_with true m before e h k = ap (λ l. l ++ pair_in m.look.feedback) k
  pairs_with false m before e h k =
      let t = thin_of row o before h.1 in
      let step = led row o (looks_made before) m.look t.parts h.0.parts t.cut h.0.cut in
      let no = all_false m.taken _ _ _ e in
      let none : pair_in m.look.feedback ≡ [] = no_pair m.look.feedback no.1 (not_repeat row (end_of row o t.parts) m.look step.fits (sym step.newest.taken ∙ sym h.0.taken ∙ no.0) no.1) in
      k ∙ sym (append-nil (pairs_of before)) ∙ ap (λ l. pairs_of before ++ l) (sym none)

  pub pairs_kept : (made : List Made) → AreMade row o made → pairs_of (made_of (recorded made)) ≡ pairs_of made
  pairs_kept [] h = refl
  pairs_kept (m ∷ before) h = pairs_with (is_recorded before m) m before refl h (pairs_kept before h.1)

  -- the recorded looks leave as many messages stored as all looks
  same_count : (made : List Made) → AreMade row o made → (parts parts' : List Part) → IsCut row (life_made o made) parts → IsCut row (life_made o (made_of (recorded made))) parts' → count_after o parts ≡ count_after o parts'
  same_count made are parts parts' c c' =
      let t = thin_of row o made are in
      ap (count_after o) (one_cut row _ parts t.parts c t.cut) ∙ ap (λ (s : State). s.next) t.thin.state ∙ ap (count_after o) (one_cut row _ t.thin.parts parts' t.thin.cut c')

  full_with : (least : ℕ) (b : Bool) (m : Made) (before : List Made) → is_recorded before m ≡ b → AreMade row o (m ∷ before) → FullFrom least row o (m ∷ before) → FullFrom least row o (made_of (recorded before)) → FullFrom least row o (made_of (shown_with b m before))
  full_with least false m before e are h k = k
  full_with least true m before e are h k = (
    (λ is_it parts' c'.
        let made = m ∷ before in
        let c'' = subst (λ (z : Bool). IsCut row (life_made o (made_of (shown_with z m before))) parts') (sym e) c' in
        subst (λ (n : ℕ). least < n) (same_count made are are.0.parts parts' are.0.cut c'') (h.0 is_it are.0.parts are.0.cut)),
    k,
  )

  pub full_kept : (least : ℕ) (made : List Made) → AreMade row o made → FullFrom least row o made → FullFrom least row o (made_of (recorded made))
  full_kept least [] are h = tt
  full_kept least (m ∷ before) are h = full_with least (is_recorded before m) m before refl are h (full_kept least before are.1 h.1)

-- ---- numbers ----

below_with : (b : Bool) (m : Made) (before : List Made) → All (λ s. s.number < length before) (recorded before) → All (λ s. s.number < length (m ∷ before)) (shown_with b m before)
below_with true m before h = All-cons (λ s. s.number < length (m ∷ before)) _ _ (omega arith) (all_weaken (λ s. s.number < length before) (λ s. s.number < length (m ∷ before)) (recorded before) (λ s lt. omega (arith, lt)) h)
below_with false m before h = all_weaken (λ s. s.number < length before) (λ s. s.number < length (m ∷ before)) (recorded before) (λ s lt. omega (arith, lt)) h

below : (made : List Made) → All (λ s. s.number < length made) (recorded made)
below [] = All-nil (λ (s : Shown). s.number < 0)
below (m ∷ before) = below_with (is_recorded before m) m before (below before)

fall_with : (b : Bool) (m : Made) (before : List Made) → NumbersFall (recorded before) → NumbersFall (shown_with b m before)
fall_with true m before h = (below before, h)
fall_with false m before h = h

pub numbers_fall : (made : List Made) → NumbersFall (recorded made)
numbers_fall [] = tt
numbers_fall (m ∷ before) = fall_with (is_recorded before m) m before (numbers_fall before)

moments_length : (made : List Made) → length (moments_of made) ≡ length made
moments_length [] = refl
moments_length (m ∷ before) = omega (arith, length-append (moments_of before) (m.look.moment ∷ []), moments_length before)

module _ (seed : ℕ) where
  -- a longer list of readings
  own_weaken : (readings more : List ℕ) (shown : List Shown) → All (HasItsOwn seed readings) shown → All (HasItsOwn seed (readings ++ more)) shown
  own_weaken readings more shown h = all_weaken (HasItsOwn seed readings) (HasItsOwn seed (readings ++ more)) shown (λ s own. (slice_get-append readings more s.number s.made.look.moment own.0, own.1)) h

  own_with : (b : Bool) (m : Made) (before : List Made) → m.look.word ≡ word_of_look seed (length before) → All (HasItsOwn seed (moments_of before)) (recorded before) → All (HasItsOwn seed (moments_of (m ∷ before))) (shown_with b m before)
  own_with true m before w h = All-cons (HasItsOwn seed (moments_of (m ∷ before))) _ _
      (subst (λ (n : ℕ). slice_get (moments_of (m ∷ before)) n ≡ Some m.look.moment) (moments_length before) (slice_get-past (moments_of before) m.look.moment []), w)
      (own_weaken (moments_of before) (m.look.moment ∷ []) (recorded before) h)
  own_with false m before w h = own_weaken (moments_of before) (m.look.moment ∷ []) (recorded before) h

  pub own : (made : List Made) → HaveWords seed made → All (HasItsOwn seed (moments_of made)) (recorded made)
  own [] h = All-nil (HasItsOwn seed [])
  own (m ∷ before) h = own_with (is_recorded before m) m before h.0 (own before h.1)
