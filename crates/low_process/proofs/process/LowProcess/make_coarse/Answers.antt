use Rattle.low_process.proofs.Coarse.{stands}
use Rattle.low_process.proofs.process.LowProcess.make_coarse.Goals as goal

pub returns-clause-stands : goal.returns-clause-stands
returns-clause-stands c = λ h s. (let t = stands c.args.self.now h s in record { asking = t.asking; stands = t.stands })
