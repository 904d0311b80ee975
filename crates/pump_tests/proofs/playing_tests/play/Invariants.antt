use Rattle.std.proofs.Common.{◌≡◌, false}
use Rattle.two_worlds.specs.Pumps.{is_down}
use Rattle.pump_tests.proofs.playing_tests.play.Given as goal

abbrev pub invariant-loop-line : goal.invariant-loop-line
invariant-loop-line g l = is_down l.pump ≡ false
