-- A line of a low side alone does one thing, and prints one thing.
use Rattle.std.proofs.Common.{◌≡◌, ℕ, Bool, List, ◌∷◌, ◌++◌, drop, sym, ap, ◌∙◌, subst}
use Rattle.std.specs.Prelude.{if◌then◌else◌, ◌&&◌, ◌||◌, not}
use Rattle.pump_frame.specs.declared.row.SessionRow.{SessionRow}
use Rattle.pump_core.specs.declared.feedback.Feedback.{Feedback}
use Rattle.pump_core.specs.History.{Arrival, Look, looked}
use Rattle.pump_core.specs.History.{Gone}
use Rattle.pump_core.specs.Exchanges.{Part}
use Rattle.pump_core.specs.Replies.{takes, stores}
use Rattle.pump_core.proofs.Runs.{one_list_of_lives}
use Rattle.pump_core.proofs.Cuts.{one_cut}
use Rattle.script_reader.specs.declared.line.Line.{Line}
use Rattle.script_reader.specs.declared.line.Line.TheVariants as lines
use Rattle.script_reader.specs.declared.line.ToldFeedback.{ToldFeedback}
use Rattle.script_reader.specs.declared.line.ToldFeedback.TheVariants.{Quiet}
use Rattle.script_reader.specs.declared.event.Event.{Event}
use Rattle.script_reader.specs.Lows.{first_of, is_bad, printed_store, printed_feedback, printed_replies}
use Rattle.script_reader.specs.Steps.{LineComing}
use Rattle.script_reader.specs.Alone.{PastAlone, told_feedback, begins_store, IsToldLook, IsToldAt, joined_alone, lost_alone, IsOfferedTold, StepAlone}
use Rattle.script_reader.proofs.One.{cancel, arrives_one}

pub record SameLow (q r : PastAlone) (xs ys : List Event) : Type 0 where
  pub past : q ≡ r
  pub printed : xs ≡ ys

-- ---- a look ----

told_same : (s : SessionRow) (p : PastAlone) (told : ToldFeedback) (x : Look) (q r : PastAlone) (xs ys : List Event) → IsToldLook s p told x q xs → IsToldLook s p told x r ys → SameLow q r xs ys
told_same s p told x q r xs ys h k =
    let h' = looked p.history x in
    let b = one_cut s p.history.life h.before k.before h.cut k.cut in
    let c = one_cut s h'.life h.after k.after h.cut_with k.cut_with in
    let rs : h.replies ≡ k.replies = one_list_of_lives s (p.history.life ∷ p.history.earlier) h.replies k.replies h.are_replies k.are_replies in
    let all : h.replies ++ h.new ≡ k.replies ++ k.new = one_list_of_lives s (h'.life ∷ h'.earlier) (h.replies ++ h.new) (k.replies ++ k.new) h.are_replies_with k.are_replies_with in
    let n : h.new ≡ k.new = cancel h.replies h.new k.new (all ∙ ap (λ l. l ++ k.new) (sym rs)) in
    let hi : q.history ≡ r.history = h.history ∙ sym k.history in
    let wa : q.waits ≡ r.waits = h.waits ∙ ap (λ (u : List Part). if takes u then drop 1 p.waits else p.waits) c ∙ sym k.waits in
    let br : q.is_broken ≡ r.is_broken = h.broken ∙ ap (λ (u : List Part). p.is_broken || (takes u && is_bad x.arrival)) c ∙ sym k.broken in
    let un : q.reading ≡ r.reading = h.reading ∙ sym k.reading in
    let ar : q.is_armed ≡ r.is_armed = h.armed ∙ ap (λ (u : List Part). not (begins_store s p.history.life.opening u x.arrival) && p.is_armed) b ∙ sym k.armed in
    let mo : q.moment ≡ r.moment = h.moment ∙ sym k.moment in
    record {
      past = λ i. record { history = hi i; waits = wa i; is_broken = br i; reading = un i; is_armed = ar i; moment = mo i };
      printed = h.printed_is ∙ (λ i. printed_store s.id x.moment (stores (c i)) ++ (printed_feedback s.id x.moment x.feedback ++ printed_replies s.id (n i))) ∙ sym k.printed_is;
    }

told_at_one : (s : SessionRow) (p : PastAlone) (m w : ℕ) (told : ToldFeedback) (a : Arrival) (is_fault : Bool) (q r : PastAlone) (xs ys : List Event)
    → IsToldAt s p m w told a is_fault q xs → IsToldAt s p m w told a is_fault r ys → SameLow q r xs ys
told_at_one s p m w told a is_fault q r xs ys (f, h) (g, k) =
    let c = one_cut s p.history.life h.before k.before h.cut k.cut in
    let e : f ≡ g = h.feedback ∙ ap (λ (b : List Part). told_feedback s p.history.life.opening b told a) c ∙ sym k.feedback in
    told_same s p told _ q r xs ys h (subst (λ (t : Feedback). IsToldLook s p told (record { moment = m; word = w; arrival = a; is_fault = is_fault; feedback = t }) r ys) (sym e) k)

-- whether the disk fails in it is settled
outcome_at : (s : SessionRow) (p : PastAlone) (m w : ℕ) (told : ToldFeedback) (a : Arrival) (d e : Bool) (q r : PastAlone) (xs ys : List Event)
    → IsToldAt s p m w told a d q xs → IsToldAt s p m w told a e r ys → d ≡ e
outcome_at s p m w told a d e q r xs ys (f, h) (g, k) =
    let c = one_cut s p.history.life h.before k.before h.cut k.cut in
    h.outcome ∙ ap (λ (b : List Part). begins_store s p.history.life.opening b a && p.is_armed) c ∙ sym k.outcome

-- ---- lines ----

pub step_low_one : (s : SessionRow) (p : PastAlone) (line : Line) (is_fault : Bool) (q r : PastAlone) (xs ys : List Event) → StepAlone s p line is_fault q xs → StepAlone s p line is_fault r ys → SameLow q r xs ys
step_low_one s p (lines.Told session m w fault told z) is_fault q r xs ys (c, comes, (few, h)) (d, comes', (few', k)) =
    let same = arrives_one session p.reading z c d comes comes' in
    told_at_one s (joined_alone p fault c) m w told (first_of p.is_broken (joined_alone p fault c).waits) is_fault q r xs ys h
    (subst (λ (t : LineComing). IsOfferedTold s (joined_alone p fault t) m w told is_fault r ys) (sym same) (few', k)).1
step_low_one s p (lines.Gone session m) is_fault q r xs ys h k = told_at_one s (lost_alone p) m 0 Quiet Gone is_fault q r xs ys h k
step_low_one s p lines.Skip is_fault q r xs ys h k = absurd h
step_low_one s p (lines.Session row) is_fault q r xs ys h k = absurd h
step_low_one s p (lines.LowSession row next held) is_fault q r xs ys h k = absurd h
step_low_one s p (lines.Coarse session) is_fault q r xs ys h k = absurd h
step_low_one s p (lines.Look session m w z) is_fault q r xs ys h k = absurd h
step_low_one s p (lines.High session m) is_fault q r xs ys h k = absurd h
step_low_one s p (lines.Carry session back) is_fault q r xs ys h k = absurd h
step_low_one s p (lines.Return session m back) is_fault q r xs ys h k = absurd h
step_low_one s p (lines.Done session m t) is_fault q r xs ys h k = absurd h
step_low_one s p (lines.Restart session m) is_fault q r xs ys h k = absurd h
step_low_one s p (lines.ReceiverRestart session m) is_fault q r xs ys h k = absurd h
step_low_one s p (lines.Step session m w) is_fault q r xs ys h k = absurd h

pub one_outcome : (s : SessionRow) (p : PastAlone) (line : Line) (d e : Bool) (q r : PastAlone) (xs ys : List Event) → StepAlone s p line d q xs → StepAlone s p line e r ys → d ≡ e
one_outcome s p (lines.Told session m w fault told z) d e q r xs ys (c, comes, (few, h)) (c', comes', (few', k)) =
    let same = arrives_one session p.reading z c c' comes comes' in
    outcome_at s (joined_alone p fault c) m w told (first_of p.is_broken (joined_alone p fault c).waits) d e q r xs ys h
    (subst (λ (t : LineComing). IsOfferedTold s (joined_alone p fault t) m w told e r ys) (sym same) (few', k)).1
one_outcome s p (lines.Gone session m) d e q r xs ys h k = outcome_at s (lost_alone p) m 0 Quiet Gone d e q r xs ys h k
one_outcome s p lines.Skip d e q r xs ys h k = absurd h
one_outcome s p (lines.Session row) d e q r xs ys h k = absurd h
one_outcome s p (lines.LowSession row next held) d e q r xs ys h k = absurd h
one_outcome s p (lines.Coarse session) d e q r xs ys h k = absurd h
one_outcome s p (lines.Look session m w z) d e q r xs ys h k = absurd h
one_outcome s p (lines.High session m) d e q r xs ys h k = absurd h
one_outcome s p (lines.Carry session back) d e q r xs ys h k = absurd h
one_outcome s p (lines.Return session m back) d e q r xs ys h k = absurd h
one_outcome s p (lines.Done session m t) d e q r xs ys h k = absurd h
one_outcome s p (lines.Restart session m) d e q r xs ys h k = absurd h
one_outcome s p (lines.ReceiverRestart session m) d e q r xs ys h k = absurd h
one_outcome s p (lines.Step session m w) d e q r xs ys h k = absurd h
