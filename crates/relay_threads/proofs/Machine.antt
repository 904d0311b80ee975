-- One more look of a life is a step of the low process as a machine.
use Rattle.std.proofs.Common.{◌≡◌, ℕ, Bool, true, false, List, [], ◌∷◌, ◌++◌, Option, Some, None, refl, sym, ap, ◌∙◌}
use Rattle.std.specs.Prelude.{if◌then◌else◌, is_some, nat_le}
use Rattle.std.proofs.lemmas.List.{append_cancel_left}
use Rattle.pump_frame.specs.declared.frame.Frame.{Frame}
use Rattle.pump_frame.specs.declared.row.SessionRow.{SessionRow}
use Rattle.pump_core.specs.declared.feedback.Feedback.{Feedback}
use Rattle.pump_core.specs.declared.feedback.Feedback.TheVariants.{Quiet, Full, Passed, Released, Repeat}
use Rattle.pump_core.specs.History.{Arrival}
use Rattle.pump_core.specs.History.{Nothing, Came, Bad, Gone}
use Rattle.pump_core.specs.History.{Look, Opening, Life, History, looked}
use Rattle.pump_core.specs.Exchanges.{is_gone, Part, looks_of, IsCut}
use Rattle.pump_core.specs.Replies.{Sent, sent, LowReplies}
use Rattle.pump_core.specs.Phases.{Phase}
use Rattle.pump_core.specs.Phases.{Idle, Passing, Waiting as Waits, Down}
use Rattle.pump_core.specs.Step.{after, after_in, reply_at, reply_in, takes_at, takes_in, FeedbackFits, fits_in, fits_passing}
use Rattle.pump_core.specs.Standing.{State, StandsAt, end_of}
use Rattle.pump_core.proofs.Runs.{run, ran, one_list_of_lives}
use Rattle.pump_core.proofs.Cuts.{Newest, newest_of_cut}
use Rattle.pump_core.proofs.Standings.{replies_after}
use Rattle.relay_threads.specs.Records.{passes_on}
use Rattle.pump_core.proofs.CutsFit.{cuts_fit}

abbrev pub life : Opening → List Look → Life
life o looks = record { opening = o; looks = looks }

pub record Led (row : SessionRow) (o : Opening) (parts : List Part) (x : Look) (parts' : List Part) : Type 0 where
  pub fits : FeedbackFits row (end_of row o parts) x
  pub state : end_of row o parts' ≡ after row (end_of row o parts) x
  pub newest : Newest row (end_of row o parts) x parts'

pub led : (row : SessionRow) (o : Opening) (looks : List Look) (x : Look) (parts parts' : List Part) → IsCut row (life o looks) parts → IsCut row (life o (x ∷ looks)) parts' → Led row o parts x parts'
led row o looks x parts parts' c c' =
    let e : looks_of parts' ≡ x ∷ looks_of parts = sym c'.looks ∙ ap (λ l. x ∷ l) c.looks in
    let fits = cuts_fit row o x parts parts' c.are_parts c'.are_parts e in
    record {
      fits = fits;
      state = sym (ran row o parts' c'.are_parts).state ∙ ap (run row o) e ∙ ap (λ t. after row t x) (ran row o parts c.are_parts).state;
      newest = newest_of_cut row o x parts parts' c.are_parts c'.are_parts e fits;
    }

abbrev first_reply : List Sent → Option Frame
first_reply [] = None
first_reply (t ∷ ts) = Some t.reply

replies_first : (x : Look) (a : Option Frame) → first_reply (sent x a) ≡ a
replies_first x None = refl
replies_first x (Some f) = refl

same_sent : (x : Look) (a b : Option Frame) → sent x a ≡ sent x b → a ≡ b
same_sent x a b e = sym (replies_first x a) ∙ ap first_reply e ∙ replies_first x b

-- the reply of a look is the machine's
pub reply_led : (row : SessionRow) (s : State) (last : ℕ) (h : History) (x : Look) (r : Option Frame) (rs : List Sent) → FeedbackFits row s x → StandsAt row s last h
    → LowReplies row h rs → LowReplies row (looked h x) (rs ++ sent x r) → r ≡ reply_at row s x
reply_led row s last h x r rs fits stands before after =
    same_sent x r (reply_at row s x)
    (append_cancel_left rs _ _ (one_list_of_lives row ((looked h x).life ∷ (looked h x).earlier) _ _ after (replies_after row s last h x fits stands rs before)))

-- a look that takes nothing, replies nothing and passes nothing on changes nothing
idle_stays : (row : SessionRow) (s : State) (x : Look) (a : Arrival) → Rattle.pump_core.specs.Step.takes_idle a ≡ false → Rattle.pump_core.specs.Step.after_idle row s x a ≡ s
idle_stays row s x Nothing t = refl
idle_stays row s x Bad t = absurd (cc)
idle_stays row s x Gone t = absurd (cc)
idle_stays row s x (Came f) t = absurd (cc)

waits_stay : (s : State) (n : ℕ) (at : ℕ) (f : Frame) (gone late : Bool) → gone ≡ false → is_some (if gone then None else (if late then Some f else None)) ≡ false
    → (if gone then record { next = s.next; greeted = false; phase = Idle } else (if late then record s { phase = Idle } else s)) ≡ s
waits_stay s n at f true late g r = absurd (cc)
waits_stay s n at f false true g r = absurd (cc)
waits_stay s n at f false false g r = refl

passing_stays : (row : SessionRow) (s : State) (x : Look) (owed : Option ℕ) (gone : Bool) (f : Feedback) → gone ≡ false → fits_passing owed f ≡ true → passes_on f ≡ false
    → (if gone then record { next = s.next; greeted = false; phase = Passing None } else (if Rattle.pump_core.specs.Step.is_full f then s else record s { phase = Rattle.pump_core.specs.Step.passed row x owed })) ≡ s
passing_stays row s x owed true f g fit p = absurd (cc)
passing_stays row s x owed false Full g fit p = refl
passing_stays row s x owed false (Passed t) g fit p = absurd (cc)
passing_stays row s x owed false Released g fit p = absurd (cc)
passing_stays row s x None false Quiet g fit p = absurd (cc)
passing_stays row s x (Some n) false Quiet g fit p = absurd (cc)
passing_stays row s x None false (Repeat t) g fit p = absurd (cc)
passing_stays row s x (Some n) false (Repeat t) g fit p = absurd (cc)

not_gone : (gone : Bool) (a b : Bool) → gone ≡ false → (if gone then a else b) ≡ true → b ≡ true
not_gone true a b g e = absurd (cc)
not_gone false a b g e = e

pub stays_in : (row : SessionRow) (s : State) (x : Look) (p : Phase) → s.phase ≡ p → fits_in row s x p ≡ true → takes_in x p ≡ false → is_some (reply_in row s x p) ≡ false → passes_on x.feedback ≡ false → after_in row s x p ≡ s
stays_in row s x Down is fit t r p = refl
stays_in row s x (Waits n at) is fit t r p = waits_stay s n at _ (is_gone x.arrival) (nat_le at x.moment) t r
stays_in row s x (Passing owed) is fit t r p = passing_stays row s x owed (is_gone x.arrival) x.feedback t (not_gone (is_gone x.arrival) _ _ t fit) p
stays_in row s x Idle is fit t r p = idle_stays row s x x.arrival t

pub stays : (row : SessionRow) (s : State) (x : Look) → FeedbackFits row s x → takes_at s x ≡ false → is_some (reply_at row s x) ≡ false → passes_on x.feedback ≡ false → after row s x ≡ s
stays row s x fit t r p = stays_in row s x s.phase refl fit t r p
