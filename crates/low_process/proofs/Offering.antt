-- What a look does with the low end, from the answers of the end and the feedback.
use Rattle.std.proofs.Common.{◌≡◌, ℕ, ◌+◌, Bool, true, false, [], ◌∷◌, ◌++◌, Option, Some, None, refl, sym, ap, ◌∙◌, subst}
use Rattle.pump_frame.specs.declared.frame.Item.{Item}
use Rattle.pump_core.specs.Passage.{Shape, Low, High, ComesNext, forwards, tried, read_pair}
use Rattle.pump_core.proofs.PassageSteps.{comes_after}
use Rattle.pump_core.specs.declared.feedback.Feedback.{Feedback}
use Rattle.pump_core.specs.declared.feedback.Feedback.TheVariants.{Quiet, Full, Passed, Released, Repeat}
use Rattle.low_process.specs.declared.values.Answer.{Answer}
use Rattle.low_process.specs.declared.values.Answer.TheVariants.{Full as ToldFull, Passed as ToldPassed, Average as ToldAverage}
use Rattle.low_process.specs.declared.process.LowProcess.{LowProcess}
use Rattle.low_process.specs.Looks.{Tells, next_of, hand_of, hand_passed}
use Rattle.low_process.specs.Ends.{number_offered, OfferStep, EndStep, StandsFitting}

module _ (s : Shape) (on_one_thread : Bool) (stands : Low → High → Type 0) (q : LowProcess) (l : Low) (h : High) where
  -- behind the message that passed the next one may come
  after : (item : Item) → hand_of q ≡ None → item.number + 1 ≡ next_of q → ComesNext (l.forwarded ++ item ∷ []) (number_offered (next_of q) (hand_of q))
  after item empty next =
      subst (λ (t : ℕ × Option Item). ComesNext (l.forwarded ++ item ∷ []) (number_offered t.0 t.1)) (λ i. (next i, sym empty i)) (comes_after l.forwarded item item.number refl)

  -- a message was offered
  pub offered : (item : Item) (owed : Bool) (answer : Answer) (f : Feedback) → OfferStep s on_one_thread stands l h item owed answer → Tells owed answer f
      → hand_of q ≡ hand_passed (Some item) f → item.number + 1 ≡ next_of q → ComesNext l.forwarded item.number → EndStep s on_one_thread (StandsFitting stands q) l h (Some item) f
  offered item owed ToldFull f o tells hand next comes =
      let still : hand_of q ≡ Some item = hand ∙ ap (hand_passed (Some item)) tells in
      subst (λ (t : Feedback). EndStep s on_one_thread (StandsFitting stands q) l h (Some item) t) (sym tells)
      (o.0, o.1, o.2, (o.3, λ up. subst (λ (t : Option Item). ComesNext l.forwarded (number_offered (next_of q) t)) (sym still) comes))
  offered item true (ToldPassed seen) f o tells hand next comes =
      let empty : hand_of q ≡ None = hand ∙ ap (hand_passed (Some item)) tells in
      subst (λ (t : Feedback). EndStep s on_one_thread (StandsFitting stands q) l h (Some item) t) (sym tells)
      (o.0, (o.1.0, o.1.1, (o.1.2, λ up. after item empty next)))
  offered item false (ToldPassed seen) f o tells hand next comes =
      let empty : hand_of q ≡ None = hand ∙ ap (hand_passed (Some item)) tells in
      subst (λ (t : Feedback). EndStep s on_one_thread (StandsFitting stands q) l h (Some item) t) (sym tells)
      (o.0, (o.1, λ up. after item empty next))
  offered item owed (ToldAverage seen) f o tells hand next comes = absurd o

-- there is something that the end stands for after a look
pub stands_for_some : (s : Shape) (on_one_thread : Bool) (after : Low → High → Type 0) (l : Low) (h : High) (hand : Option Item) (f : Feedback) → EndStep s on_one_thread after l h hand f → (l' : Low) × ((h' : High) × after l' h')
stands_for_some s on_one_thread after l h hand Quiet e = (l, (h, e))
stands_for_some s on_one_thread after l h hand Full e = (tried l e.0, (h, e.3))
stands_for_some s on_one_thread after l h (Some item) (Passed seen) e = (read_pair (forwards l item) seen.count seen.average, (h, e.1.2))
stands_for_some s on_one_thread after l h None (Passed seen) e = absurd e
stands_for_some s on_one_thread after l h (Some item) Released e = (forwards l item, (h, e.1))
stands_for_some s on_one_thread after l h None Released e = absurd e
stands_for_some s on_one_thread after l h hand (Repeat seen) e = (read_pair l seen.count seen.average, (h, e.2))
