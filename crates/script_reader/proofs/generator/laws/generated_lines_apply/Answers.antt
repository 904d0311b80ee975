use Rattle.script_reader.proofs.Generating.{generated_apply}
use Rattle.script_reader.proofs.generator.laws.generated_lines_apply.Goals as goal

pub returns : goal.returns
returns c = generated_apply
