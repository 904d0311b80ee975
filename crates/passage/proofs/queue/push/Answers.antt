use Rattle.std.proofs.Common.{◌<◌, ◌^◌, sym, subst, ap, ◌∙◌}
use Rattle.pump_core.specs.Passage.{ComesNext}
use Rattle.pump_frame.specs.declared.frame.Item.{Item}
use Rattle.passage.specs.declared.queue.QueueView.{QueueView}
use Rattle.passage.proofs.QueueSteps.{sends}
use Rattle.passage.proofs.queue.push.Goals as goal

pub try_push_as-requires-clause-rule : goal.try_push_as-requires-clause-rule
try_push_as-requires-clause-rule g c =
    let same = c.loop.invariant.2 in
    let is = c.loop.invariant.3 in
    sends _ _ _ c.loop.item (ap (λ v. v.pushes) same ∙ c.requires.role)
    (subst (λ (p : QueueView × Item). ComesNext p.0.forwarded p.1.number) (λ i. (sym same i, sym is i)) c.requires.follows.0)
    (subst (λ (x : Item). x.number < 2 ^ 48) (sym is) c.requires.follows.1)
