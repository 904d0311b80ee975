-- Histories that agree up to the counts have the same replies.
use Rattle.std.proofs.Common.{◌≡◌, ℕ, Bool, List, [], ◌∷◌, ◌++◌, refl, sym, ap, ◌∙◌}
use Rattle.pump_frame.specs.declared.row.SessionRow.{SessionRow}
use Rattle.pump_core.specs.History.{Arrival}
use Rattle.pump_core.specs.declared.feedback.Feedback.{Feedback}
use Rattle.pump_core.specs.declared.feedback.Feedback.TheVariants.{Quiet, Full, Passed, Released, Repeat}
use Rattle.pump_core.specs.History.{Look, Opening, Life}
use Rattle.pump_core.specs.Replies.{Sent, sent, LifeReplies, LivesReplies}
use Rattle.pump_core.specs.Standing.{State}
use Rattle.pump_core.specs.Step.{after, reply_at}
use Rattle.pump_core.specs.Pairs.{uncounted, SameLook, SameLooks, SameLife, SameLives}
use Rattle.pump_core.proofs.Runs.{run, run_replies, ran}

abbrev pub look : ℕ → ℕ → Arrival → Bool → Feedback → Look
look m w a d f = record { moment = m; word = w; arrival = a; is_fault = d; feedback = f }

-- a step does not see the count
blind : (row : SessionRow) (s : State) (m w : ℕ) (a : Arrival) (d : Bool) (f : Feedback) → (after row s (look m w a d f) ≡ after row s (look m w a d (uncounted f))) × (sent (look m w a d f) (reply_at row s (look m w a d f)) ≡ sent (look m w a d (uncounted f)) (reply_at row s (look m w a d (uncounted f))))
blind row s m w a d Quiet = (refl, refl)
blind row s m w a d Full = (refl, refl)
blind row s m w a d (Passed t) = (refl, refl)
blind row s m w a d Released = (refl, refl)
blind row s m w a d (Repeat t) = (refl, refl)

abbrev plain : Look → Look
plain x = record x { feedback = uncounted x.feedback }

plain-same : (x y : Look) → SameLook x y → plain x ≡ plain y
plain-same x y e i = look (e.moment i) (e.word i) (e.arrival i) (e.outcome i) (e.feedback i)

pub same_step : (row : SessionRow) (s : State) (x y : Look) → SameLook x y → (after row s x ≡ after row s y) × (sent x (reply_at row s x) ≡ sent y (reply_at row s y))
same_step row s x y e =
    let p = plain-same x y e in
    let a = blind row s x.moment x.word x.arrival x.is_fault x.feedback in
    let b = blind row s y.moment y.word y.arrival y.is_fault y.feedback in
    (a.0 ∙ ap (λ z. after row s z) p ∙ sym b.0, a.1 ∙ ap (λ z. sent z (reply_at row s z)) p ∙ sym b.1)

same_run : (row : SessionRow) (o : Opening) (xs ys : List Look) → SameLooks xs ys → (run row o xs ≡ run row o ys) × (run_replies row o xs ≡ run_replies row o ys)
same_run row o [] [] e = (refl, refl)
same_run row o [] (y ∷ ys) e = absurd e
same_run row o (x ∷ xs) [] e = absurd e
same_run row o (x ∷ xs) (y ∷ ys) e =
    let r = same_run row o xs ys e.1 in
    let s = same_step row (run row o ys) x y e.0 in (
      ap (λ t. after row t x) r.0 ∙ s.0,
      ap (λ (t : List Sent × State). t.0 ++ sent x (reply_at row t.1 x)) (λ i. (r.1 i, r.0 i)) ∙ ap (λ l. run_replies row o ys ++ l) s.1,
    )

same_life : (row : SessionRow) (a b : Life) (xs ys : List Sent) → SameLife a b → LifeReplies row a xs → LifeReplies row b ys → xs ≡ ys
same_life row a b xs ys same (parts, cut, e) (parts', cut', e') =
    let r = ran row a.opening parts cut.are_parts in
    let r' = ran row b.opening parts' cut'.are_parts in
    e ∙ sym r.replies ∙ ap (run_replies row a.opening) (sym cut.looks)
    ∙ (same_run row a.opening a.looks b.looks same.looks).1
    ∙ ap (λ o. run_replies row o b.looks) same.opening
    ∙ ap (run_replies row b.opening) cut'.looks ∙ r'.replies ∙ sym e'

pub same_lives : (row : SessionRow) (as' bs : List Life) (xs ys : List Sent) → SameLives as' bs → LivesReplies row as' xs → LivesReplies row bs ys → xs ≡ ys
same_lives row [] [] xs ys same e e' = e ∙ sym e'
same_lives row [] (b ∷ bs) xs ys same h h' = absurd same
same_lives row (a ∷ as') [] xs ys same h h' = absurd same
same_lives row (a ∷ as') (b ∷ bs) xs ys same (older, newer, h, k, e) (older', newer', h', k', e') =
    let p = same_lives row as' bs older older' same.1 h h' in
    let q = same_life row a b newer newer' same.0 k k' in
    e ∙ ap (λ (t : List Sent × List Sent). t.0 ++ t.1) (λ i. (p i, q i)) ∙ sym e'
