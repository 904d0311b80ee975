use Rattle.std.proofs.Common.{ap}
use Rattle.pump_link.proofs.DoorSteps.{takes_back}
use Rattle.pump_link.proofs.mem_door.MemDoorDoor.back.Goals as goal

pub returns-clause-did : goal.returns-clause-did
returns-clause-did c = takes_back c.args.self.now.waiting _ _ c.args.link (ap (λ door. door.waiting) c.self.view_is)
