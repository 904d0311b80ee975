-- What a look hears of what a script tells is what its past says.
use Rattle.std.proofs.Common.{◌≡◌, ℕ, Bool, true, false, cond, List, [], ◌∷◌, Option, Some, None, refl, sym, ap, ◌∙◌}
use Rattle.std.specs.Prelude.{if◌then◌else◌, ◌&&◌}
use Rattle.pump_frame.specs.declared.row.SessionRow.{SessionRow}
use Rattle.pump_core.specs.declared.feedback.Seen.{Seen}
use Rattle.pump_core.specs.declared.feedback.Feedback.{Feedback}
use Rattle.pump_core.specs.declared.feedback.Feedback.TheVariants as feedbacks
use Rattle.pump_core.specs.Phases.{Phase}
use Rattle.pump_core.specs.Phases.{Idle, Passing, Waiting as Waits, Down}
use Rattle.pump_core.specs.History.{Arrival}
use Rattle.pump_core.specs.History.{Nothing, Came, Bad, Gone}
use Rattle.pump_core.specs.History.{Look, Opening}
use Rattle.pump_core.specs.Exchanges.{is_gone, is_repeat, has_average, Waiting, Over, Part, Holding, Release, Empty, Leaving, Answer, Repeated, Offering, Dropped, Delivery, Loss, count_after, greeted_after}
use Rattle.pump_core.specs.Step.{is_quiet, fits_passing, fits_idle, fits_in, FeedbackFits}
use Rattle.pump_core.specs.Standing.{State, phase_after, end_of}
use Rattle.script_reader.specs.declared.line.ToldFeedback.{ToldFeedback}
use Rattle.script_reader.specs.declared.line.ToldFeedback.TheVariants.{Quiet, Full, Pair}
use Rattle.script_reader.specs.Lows.{is_owed, comes_again}
use Rattle.script_reader.specs.Alone.{has_message, told_of_offer, told_of_read, told_feedback}
use Rattle.pump_core.proofs.MayTake.{is_idle, may_take_is}

-- ---- what the parts say of the message in the low hand ----

abbrev pub is_passing : Phase → Bool
is_passing (Passing owed) = true
is_passing _ = false

abbrev pub owes : Phase → Bool
owes (Passing (Some n)) = true
owes _ = false

pub owed_is : (row : SessionRow) (o : Opening) (parts : List Part) → is_owed parts ≡ owes (phase_after row o parts)
owed_is row o [] = elim o.is_held as (λ b. false ≡ owes (cond b (Passing None) Idle)) [ true ↦ refl | false ↦ refl ]
owed_is row o (Holding newest older ∷ before) = refl
owed_is row o (Release looks last ∷ before) = refl
owed_is row o (Empty x ∷ before) = refl
owed_is row o (Leaving x ∷ before) = refl
owed_is row o (Answer x ∷ before) = refl
owed_is row o (Repeated first (Waiting quiet) ∷ before) = refl
owed_is row o (Repeated first (Over quiet last) ∷ before) = refl
owed_is row o (Offering first full ∷ before) = refl
owed_is row o (Dropped first full gone ∷ before) = refl
owed_is row o (Delivery first full passing (Waiting quiet) ∷ before) = refl
owed_is row o (Delivery first full passing (Over quiet last) ∷ before) = refl
owed_is row o (Loss first rest ∷ before) = refl

pub quiet_is : (f : Feedback) → is_quiet f ≡ true → f ≡ feedbacks.Quiet
quiet_is feedbacks.Quiet e = refl
quiet_is feedbacks.Full e = absurd (cc)
quiet_is (feedbacks.Passed s) e = absurd (cc)
quiet_is feedbacks.Released e = absurd (cc)
quiet_is (feedbacks.Repeat s) e = absurd (cc)

-- ---- what a look hears ----

-- this feedback comes of what was told
abbrev pub Hears : SessionRow → ToldFeedback → Feedback → Type 0
Hears row told feedbacks.Quiet = Unit {0}
Hears row told feedbacks.Full = told_of_offer true told ≡ feedbacks.Full
Hears row told (feedbacks.Passed s) = told_of_offer true told ≡ feedbacks.Passed s
Hears row told feedbacks.Released = told_of_offer false told ≡ feedbacks.Released
Hears row told (feedbacks.Repeat s) = s ≡ told_of_read row told

-- a message is in the hand exactly while it is to be passed
pub message_is : (row : SessionRow) (o : Opening) (parts : List Part) → has_message o parts ≡ is_passing (phase_after row o parts)
message_is row o [] = elim o.is_held as (λ b. b ≡ is_passing (cond b (Passing None) Idle)) [ true ↦ refl | false ↦ refl ]
message_is row o (Holding newest older ∷ before) = refl
message_is row o (Release looks last ∷ before) = refl
message_is row o (Empty x ∷ before) = refl
message_is row o (Leaving x ∷ before) = refl
message_is row o (Answer x ∷ before) = refl
message_is row o (Repeated first (Waiting quiet) ∷ before) = refl
message_is row o (Repeated first (Over quiet last) ∷ before) = refl
message_is row o (Offering first full ∷ before) = refl
message_is row o (Dropped first full gone ∷ before) = refl
message_is row o (Delivery first full passing (Waiting quiet) ∷ before) = refl
message_is row o (Delivery first full passing (Over quiet last) ∷ before) = refl
message_is row o (Loss first rest ∷ before) = refl

-- ---- the feedback of a phase that fits ----

-- whether an acknowledgement is owed makes no difference to a full passage
full_is : (owed : Bool) (told : ToldFeedback) → told_of_offer true told ≡ feedbacks.Full → feedbacks.Full ≡ told_of_offer owed told
full_is true told e = sym e
full_is false Quiet e = refl
full_is false Full e = refl
full_is false (Pair count average) e = absurd (cc)

offer_told : (row : SessionRow) (told : ToldFeedback) (owed : Option ℕ) (f : Feedback) → fits_passing owed f ≡ true → Hears row told f → f ≡ told_of_offer (owes (Passing owed)) told
offer_told row told owed feedbacks.Full fit h = full_is (owes (Passing owed)) told h
offer_told row told (Some n) (feedbacks.Passed s) fit h = sym h
offer_told row told None feedbacks.Released fit h = sym h
offer_told row told None feedbacks.Quiet fit h = absurd (cc)
offer_told row told (Some n) feedbacks.Quiet fit h = absurd (cc)
offer_told row told None (feedbacks.Passed s) fit h = absurd (cc)
offer_told row told (Some n) feedbacks.Released fit h = absurd (cc)
offer_told row told None (feedbacks.Repeat s) fit h = absurd (cc)
offer_told row told (Some n) (feedbacks.Repeat s) fit h = absurd (cc)

abbrev read_told : SessionRow → ToldFeedback → Bool → Feedback
read_told row told again = if again then feedbacks.Repeat (told_of_read row told) else feedbacks.Quiet

average_told : (row : SessionRow) (told : ToldFeedback) (again : Bool) (f : Feedback) → (if again then has_average f else is_quiet f) ≡ true → Hears row told f → f ≡ read_told row told again
average_told row told false f fit h = quiet_is f fit
average_told row told true (feedbacks.Repeat s) fit h = ap (λ (u : Seen). feedbacks.Repeat u) h
average_told row told true feedbacks.Quiet fit h = absurd (cc)
average_told row told true feedbacks.Full fit h = absurd (cc)
average_told row told true (feedbacks.Passed s) fit h = absurd (cc)
average_told row told true feedbacks.Released fit h = absurd (cc)

abbrev told_by : SessionRow → ToldFeedback → Bool → Bool → Bool → Bool → Feedback
told_by row told gone message owed again = if gone then feedbacks.Quiet else if message then told_of_offer owed told else read_told row told again

idle_told : (row : SessionRow) (told : ToldFeedback) (s : State) (a : Arrival) (f : Feedback) → fits_idle row s a f ≡ true → Hears row told f
    → f ≡ told_by row told (is_gone a) false false (comes_again row s.next s.greeted a)
idle_told row told s Nothing f fit h = quiet_is f fit
idle_told row told s Bad f fit h = quiet_is f fit
idle_told row told s Gone f fit h = quiet_is f fit
idle_told row told s (Came g) f fit h = average_told row told (is_repeat row s.next s.greeted g) f fit h

silent : (g : Bool) (f : Feedback) → is_quiet f ≡ true → f ≡ (if g then feedbacks.Quiet else feedbacks.Quiet)
silent true f fit = quiet_is f fit
silent false f fit = quiet_is f fit

phase_told : (row : SessionRow) (told : ToldFeedback) (s : State) (x : Look) (ph : Phase) → fits_in row s x ph ≡ true → Hears row told x.feedback
    → x.feedback ≡ told_by row told (is_gone x.arrival) (is_passing ph) (owes ph) (is_idle ph && comes_again row s.next s.greeted x.arrival)
phase_told row told s x Down fit h = silent (is_gone x.arrival) x.feedback fit
phase_told row told s x (Waits n at) fit h = silent (is_gone x.arrival) x.feedback fit
phase_told row told s x Idle fit h = idle_told row told s x.arrival x.feedback fit h
phase_told row told s x (Passing owed) fit h =
    elim (is_gone x.arrival) as (λ g. (if g then is_quiet x.feedback else fits_passing owed x.feedback) ≡ true → x.feedback ≡ (if g then feedbacks.Quiet else told_of_offer (owes (Passing owed)) told)) [
      | true ↦ λ k. quiet_is x.feedback k
      | false ↦ λ k. offer_told row told owed x.feedback k h
    ] fit

-- the feedback that fits and comes of what was told is that of the past
pub told_is : (row : SessionRow) (o : Opening) (before : List Part) (told : ToldFeedback) (x : Look) → FeedbackFits row (end_of row o before) x → Hears row told x.feedback
    → x.feedback ≡ told_feedback row o before told x.arrival
told_is row o before told x fit h =
    let again = comes_again row (count_after o before) (greeted_after row before) x.arrival in
    phase_told row told (end_of row o before) x (phase_after row o before) fit h
    ∙ ap (λ (t : Bool × Bool × Bool). told_by row told (is_gone x.arrival) t.0 t.1 (t.2 && again))
    (λ i. (sym (message_is row o before) i, sym (owed_is row o before) i, sym (may_take_is row o before) i))
