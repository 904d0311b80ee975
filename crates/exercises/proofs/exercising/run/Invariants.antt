use Rattle.std.proofs.Common.{length}
use Rattle.exercises.specs.Exercising.{IsUnderWay}
use Rattle.exercises.proofs.exercising.run.Given as goal

abbrev pub invariant-lines : goal.invariant-lines
invariant-lines l = IsUnderWay l.seed l.count l.pump l.tally l.generator

abbrev pub decreases-lines : goal.decreases-lines
decreases-lines l = length l.generator
