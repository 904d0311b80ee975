use Rattle.pump_wrapper.specs.Cutting.{MayCut}
use Rattle.command_tests.proofs.piece_tests.cuts.Given as goal

abbrev pub invariant-loop-message : goal.invariant-loop-message
invariant-loop-message g l = MayCut l.cutter
