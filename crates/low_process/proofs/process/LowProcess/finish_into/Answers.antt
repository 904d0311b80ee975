use Rattle.low_process.specs.Heads.{look_with}
use Rattle.low_process.proofs.Looking.{finished}
use Rattle.low_process.proofs.process.LowProcess.finish_into.Goals as goal

pub returns-clause-looks : goal.returns-clause-looks
returns-clause-looks c =
    let e = c.step_on.ensures in
    finished c.args.self.now c.step_on.new.self (look_with c.args.self.now.row c.step_on.new.head) e.asking e.step e.rest.row e.rest.last
