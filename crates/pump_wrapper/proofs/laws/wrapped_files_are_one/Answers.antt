use Rattle.pump_wrapper.proofs.Wrapping.{files_are_one}
use Rattle.pump_wrapper.proofs.laws.wrapped_files_are_one.Goals as goal

pub returns : goal.returns
returns c = files_are_one
