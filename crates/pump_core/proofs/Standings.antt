-- A look moves what a low process stands for by that look, and gives its reply.
use Rattle.std.proofs.Common.{◌≡◌, ℕ, ◌≤◌, List, ◌∷◌, ◌++◌, refl, sym, ap, ◌∙◌, subst, append_assoc}
use Rattle.pump_frame.specs.declared.row.SessionRow.{SessionRow}
use Rattle.pump_core.specs.History.{Look, History, looked}
use Rattle.pump_core.specs.Exchanges.{Part, looks_of, IsCut}
use Rattle.pump_core.specs.Replies.{Sent, sent, replies_of, LowReplies}
use Rattle.pump_core.specs.Step.{after, reply_at, FeedbackFits}
use Rattle.pump_core.specs.Standing.{State, StandsAt}
use Rattle.pump_core.proofs.Runs.{run, run_replies, ran}
use Rattle.pump_core.proofs.Grows.{Grown, grown}
use Rattle.pump_core.proofs.Cuts.{Newest, newest_of_cut}

module _ (row : SessionRow) (s : State) (last : ℕ) (h : History) (x : Look) (fits : FeedbackFits row s x) (stands : StandsAt row s last h) where
  longer : Grown row h.life.opening stands.parts x
  longer = grown row h.life.opening stands.parts x stands.cut.are_parts (subst (λ (t : State). FeedbackFits row t x) stands.state fits)

  cut : IsCut row (looked h x).life longer.parts
  cut = record { are_parts = longer.are_parts; looks = ap (λ l. x ∷ l) stands.cut.looks ∙ sym longer.looks }

  state_was : run row h.life.opening (looks_of stands.parts) ≡ s
  state_was = (ran row h.life.opening stands.parts stands.cut.are_parts).state ∙ sym stands.state

  pub stands_after : last ≤ x.moment → StandsAt row (after row s x) x.moment (looked h x)
  stands_after le = record {
    earlier = stands.earlier;
    parts = longer.parts;
    cut = cut;
    state = sym (ap (λ t. after row t x) state_was) ∙ sym (ap (run row h.life.opening) longer.looks) ∙ (ran row h.life.opening longer.parts longer.are_parts).state;
    newest = refl;
    ordered = (subst (λ (n : ℕ). n ≤ x.moment) stands.newest le, stands.ordered);
  }

  pub replies_after : (rs : List Sent) → LowReplies row h rs → LowReplies row (looked h x) (rs ++ sent x (reply_at row s x))
  replies_after rs (older, newer, was, (parts, cut', e'), e) =
      let new = sent x (reply_at row s x) in
      let r = ran row h.life.opening parts cut'.are_parts in
      let told : run_replies row h.life.opening (looks_of stands.parts) ≡ newer = ap (run_replies row h.life.opening) (sym stands.cut.looks ∙ cut'.looks) ∙ r.replies ∙ sym e' in
      let now : newer ++ new ≡ replies_of row h.life.opening longer.parts =
      sym (ap (λ (t : List Sent × State). t.0 ++ sent x (reply_at row t.1 x)) (λ i. (told i, state_was i)))
      ∙ sym (ap (run_replies row h.life.opening) longer.looks)
      ∙ (ran row h.life.opening longer.parts longer.are_parts).replies in
      (older, newer ++ new, was, (longer.parts, cut, now), ap (λ l. l ++ new) e ∙ append_assoc older newer new)

  -- what the new look takes and stores, in any cut
  pub newest_after : (parts : List Part) → IsCut row (looked h x).life parts → Newest row s x parts
  newest_after parts c =
      subst (λ (t : State). Newest row t x parts) (sym stands.state)
      (newest_of_cut row h.life.opening x stands.parts parts stands.cut.are_parts c.are_parts (sym c.looks ∙ ap (λ l. x ∷ l) stands.cut.looks) (subst (λ (t : State). FeedbackFits row t x) stands.state fits))
