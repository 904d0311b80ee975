use Rattle.high_process.proofs.process.HighProcess.make_coarse.Goals as goal

pub returns-clause-stands : goal.returns-clause-stands
returns-clause-stands c = λ t s. record { asking = s.asking; holds = s.holds; last = s.last }
