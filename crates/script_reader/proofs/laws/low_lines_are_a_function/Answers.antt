use Rattle.script_reader.proofs.LowFunction.{same_told, same_told_so_far, same_but_high}
use Rattle.script_reader.proofs.laws.low_lines_are_a_function.Goals as goal

pub returns-clause-whole : goal.returns-clause-whole
returns-clause-whole c = same_told

pub returns-clause-so_far : goal.returns-clause-so_far
returns-clause-so_far c = same_told_so_far

pub returns-clause-replaced : goal.returns-clause-replaced
returns-clause-replaced c = same_but_high
