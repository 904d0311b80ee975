use Rattle.std.proofs.Common.{◌≡◌, ap, ◌∙◌}
use Rattle.pump_link.specs.Doors.{accepted}
use Rattle.pump_link.proofs.DoorSteps.{accepts_more, comes_more}
use Rattle.pump_link.proofs.mem_door.MemDoorDoor.accept.Goals as goal

answer : (c : goal.After-answer) → c.answer.result ≡ accepted c.args.self.now.waiting
answer c = c.answer.ensures ∙ ap accepted (c.take.ensures.value ∙ ap (λ door. door.waiting) c.self.view_is)

pub returns-clause-did : goal.returns-clause-did
returns-clause-did c = accepts_more c.args.self.now.waiting _ _ _ _ c.take.ensures.after (ap (λ door. door.back) c.self.view_is) (answer c)

pub returns-clause-gives : goal.returns-clause-gives
returns-clause-gives c = comes_more c.args.self.now.waiting _ _ c.take.ensures.after (answer c)
