use Rattle.std.proofs.Common.{arith}
use Rattle.file_collector.proofs.Sound.{begun_with, if_some}
use Rattle.file_collector.proofs.opening.begin_with.Goals as goal

pub returns-clause-begun : goal.returns-clause-begun
returns-clause-begun c =
    if_some c.resume.result _ _ _ (λ assembly is stands.
    begun_with c.args.start.now assembly (λ i. let f = c.type_inv.start i in omega arith) is stands) (λ some. c.resume.ensures.some.0 some) c.resume.ensures.value
