use Rattle.script_reader.proofs.LowFunction.{same_full, same_full_so_far}
use Rattle.script_reader.proofs.laws.full_moments_and_averages_decide.Goals as goal

pub returns-clause-whole : goal.returns-clause-whole
returns-clause-whole c = same_full

pub returns-clause-so_far : goal.returns-clause-so_far
returns-clause-so_far c = same_full_so_far
