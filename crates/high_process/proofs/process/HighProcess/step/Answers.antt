use Rattle.high_process.proofs.Looking.{refused}
use Rattle.high_process.proofs.process.HighProcess.step.Goals as goal

pub returns-in-Refuse-clause-fault : goal.returns-in-Refuse-clause-fault
returns-in-Refuse-clause-fault g c = refused c.args.task c.in-Refuse.fault c.args.self.now c.args.moment c.in-Refuse.is c.requires.refusal
