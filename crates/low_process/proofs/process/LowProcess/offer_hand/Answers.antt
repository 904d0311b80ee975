use Rattle.std.proofs.Common.{◌+◌, Bool, Option, Some, sym, ap, ◌∙◌, subst}
use Rattle.pump_frame.specs.declared.frame.Item.{Item}
use Rattle.pump_core.specs.Passage.{ComesNext}
use Rattle.low_process.specs.Ends.{EndStep, StandsFitting}
use Rattle.low_process.specs.Looks.{Tells, hand_passed}
use Rattle.low_process.proofs.Offering.{offered}
use Rattle.low_process.proofs.process.LowProcess.offer_hand.Goals as goal

pub returns-clause-ends : goal.returns-clause-ends
returns-clause-ends g c = λ l h stands comes.
    let answer = c.offer-answer.result in
    let f = c.finish_into.new.head.feedback in
    let e = c.finish_into.ensures in
    let x : Item = c.item.result.now in
    let is = c.item.ensures in
    let comes_next : ComesNext l.forwarded x.number = subst (λ (y : Item). ComesNext l.forwarded y.number) (sym is) comes in
    let tells = subst (λ (o : Bool). Tells o answer f) (sym c.owes-is_owed.ensures) e.tells in
    let hand = e.hand ∙ ap (λ (t : Option Item). hand_passed t f) (c.requires.hand ∙ ap Some (sym is)) in
    subst (λ (y : Item). EndStep (g.L.LowSide.shape c.args.ends.now) g.L.LowSide.on_one_thread (StandsFitting (g.L.LowSide.stands c.offer-answer.new.ends) c.finish_into.new.self) l h (Some y) f) is
    (offered (g.L.LowSide.shape c.args.ends.now) g.L.LowSide.on_one_thread (g.L.LowSide.stands c.offer-answer.new.ends) c.finish_into.new.self l h
    x c.owes-is_owed.result answer f (c.offer-answer.ensures.step l h stands comes_next) tells hand (ap (λ (y : Item). y.number + 1) is ∙ c.requires.number ∙ sym e.next) comes_next)
