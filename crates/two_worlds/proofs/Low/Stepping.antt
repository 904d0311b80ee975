-- The step that a low process makes in a look, by its public clauses.
use Rattle.std.proofs.Common.{◌≡◌, ◌≤◌, List, [], ◌∷◌, ◌++◌, Option, Some, None, refl, sym, ap, ◌∙◌, subst}
use Rattle.std.specs.List.{AllByRecursion}
use Rattle.std.proofs.lemmas.List.{append_cancel_left}
use Rattle.pump_frame.specs.declared.row.SessionRow.{SessionRow}
use Rattle.pump_frame.specs.declared.frame.Frame.{Frame}
use Rattle.pump_core.specs.History.{Look, Life, History, looked}
use Rattle.pump_core.specs.Replies.{Sent, sent, replies_of, LivesReplies}
use Rattle.pump_core.specs.Step.{FeedbackFits, after, reply_at, stores_at, takes_at}
use Rattle.pump_core.specs.Standing.{State, HasCut, StandsAt, end_of}
use Rattle.pump_core.proofs.Cuts.{one_cut}
use Rattle.pump_core.proofs.Runs.{one_list_of_lives}
use Rattle.pump_core.proofs.Standings.{stands_after, replies_after, newest_after}
use Rattle.low_process.specs.declared.process.LowProcess.{LowProcess}
use Rattle.low_process.specs.declared.values.LowLook.{LowLook}
use Rattle.low_process.specs.Looks.{row_of, last_of, state_of, StandsFor, Looks}
use Rattle.pump_core.proofs.CutsFit.{cuts_fit}

-- a history that can be cut has replies
pub lives_reply : (row : SessionRow) (lives : List Life) → AllByRecursion (HasCut row) lives → (rs : List Sent) × LivesReplies row lives rs
lives_reply row [] all = ([], refl)
lives_reply row (life ∷ earlier) all =
    let older = lives_reply row earlier all.1 in
    let newer = replies_of row life.opening all.0.0 in
    (older.0 ++ newer, (older.0, newer, older.1, (all.0.0, all.0.1, refl), refl))

-- the look leads from this state to that process
pub record Stepped (row : SessionRow) (s : State) (q : LowProcess) (x : Look) (l : LowLook) : Type 0 where
  pub fits : FeedbackFits row s x
  pub state : state_of q ≡ after row s x
  pub reply : l.reply ≡ reply_at row s x
  pub taken : l.taken ≡ takes_at s x
  pub stored : l.stored ≡ stores_at row s x

abbrev first_reply : List Sent → Option Frame
first_reply [] = None
first_reply (r ∷ rs) = Some r.reply

first_sent : (x : Look) (r : Option Frame) → first_reply (sent x r) ≡ r
first_sent x None = refl
first_sent x (Some r) = refl

one_reply : (x : Look) (a b : Option Frame) → sent x a ≡ sent x b → a ≡ b
one_reply x a b e = sym (first_sent x a) ∙ ap first_reply e ∙ first_sent x b

module _ (p q : LowProcess) (h : History) (x : Look) (l : LowLook) (stood : StandsFor p h) (looks : Looks (StandsFor p) q (row_of p) x l) (same : row_of q ≡ row_of p) (last : last_of q ≡ x.moment) (order : last_of p ≤ x.moment) where
  abbrev row : SessionRow
  row = row_of p

  abbrev s : State
  s = state_of p

  abbrev at : StandsAt row s (last_of p) h
  at = stood.stands

  now : StandsAt row (state_of q) (last_of q) (looked h x)
  now = subst (λ (r : SessionRow). StandsAt r (state_of q) (last_of q) (looked h x)) same (looks.history h stood).stands

  fits : FeedbackFits row s x
  fits = subst (λ (t : State). FeedbackFits row t x) (sym at.state)
      (cuts_fit row h.life.opening x at.parts now.parts at.cut.are_parts now.cut.are_parts (sym now.cut.looks ∙ ap (λ l. x ∷ l) at.cut.looks))

  abbrev then : StandsAt row (after row s x) x.moment (looked h x)
  then = stands_after row s (last_of p) h x fits at order

  state : state_of q ≡ after row s x
  state = now.state ∙ ap (end_of row h.life.opening) (one_cut row (looked h x).life now.parts then.parts now.cut then.cut) ∙ sym then.state

  reply : l.reply ≡ reply_at row s x
  reply =
      let rs = lives_reply row (h.life ∷ h.earlier) ((at.parts, at.cut), at.earlier) in
      one_reply x l.reply (reply_at row s x) (append_cancel_left rs.0 (sent x l.reply) (sent x (reply_at row s x))
      (one_list_of_lives row ((looked h x).life ∷ h.earlier) (rs.0 ++ sent x l.reply) (rs.0 ++ sent x (reply_at row s x)) (looks.replies h rs.0 stood rs.1) (replies_after row s (last_of p) h x fits at rs.0 rs.1)))

  pub stepped : Stepped row s q x l
  stepped = record {
    fits = fits;
    state = state;
    reply = reply;
    taken = looks.taken h then.parts stood then.cut ∙ (newest_after row s (last_of p) h x fits at then.parts then.cut).taken;
    stored = looks.stored h then.parts stood then.cut ∙ (newest_after row s (last_of p) h x fits at then.parts then.cut).stored;
  }
