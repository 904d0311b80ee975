use Rattle.std.proofs.Common.{arith}
use Rattle.std.proofs.lemmas.Grind.{common_steps}
use Rattle.stable_buffer.proofs.new_disk.finish.Goals as goal

pub returns-clause-answers : goal.returns-clause-answers
returns-clause-answers g c = grind (arith, common_steps)

pub returns-in_err-sync-clause-answers : goal.returns-in_err-sync-clause-answers
returns-in_err-sync-clause-answers g c = grind (arith, common_steps)

pub returns-in_err-write_and_sync-clause-answers : goal.returns-in_err-write_and_sync-clause-answers
returns-in_err-write_and_sync-clause-answers g c = grind (arith, common_steps)
