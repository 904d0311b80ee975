use Rattle.std.proofs.Common.{rules}
use Rattle.high_process.specs.Tasks.{frame_of}
use Rattle.high_process.specs.States.{hand_of}
use Rattle.high_process.proofs.Looking.{begins_all, below, never_device, asked_all, images}
use Rattle.high_process.proofs.process.HighProcess.begin.Goals as goal

pub step-requires-clause-below : goal.step-requires-clause-below
step-requires-clause-below g c = below c.args.self.now (frame_of c.args.frame) c.task-task.result c.task-task.ensures

pub step-requires-clause-refusal : goal.step-requires-clause-refusal
step-requires-clause-refusal g c =
    let p = c.args.self.now in
    never_device p.row.id p.removed (hand_of p) (frame_of c.args.frame) c.task-task.result c.task-task.ensures

pub returns : goal.returns
returns g c =
    let p = c.args.self.now in
    let q = c.step.new.self in
    record {
      fares = search rules;
      begins = begins_all p q c.args.moment c.task-task.result _ c.attaches-attaches.result _ c.step.result
          c.task-task.ensures c.attaches-attaches.ensures c.step.ensures.steps;
      asked = asked_all p q (frame_of c.args.frame) c.args.moment c.task-task.result c.attaches-attaches.result
          c.step.result c.task-task.ensures c.step.ensures.steps;
      images = λ row stands. images g.D.Disk.told row p.row.id p.removed (hand_of p) (frame_of c.args.frame)
          c.args.store.now c.step.new.store c.requires.store.settled stands _ p q c.step.result c.task-task.result
          c.task-task.ensures c.step.ensures.fares;
      fault = search rules;
      store = search rules;
      count = search rules;
      up = search rules;
      between = search rules;
      last = search rules;
      row = search rules;
    }
