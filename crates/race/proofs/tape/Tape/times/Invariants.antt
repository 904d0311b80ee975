use Rattle.race.specs.Race.{time_lines}
use Rattle.race.specs.Tape.{Prints}
use Rattle.race.specs.Turns.{turns}
use Rattle.race.proofs.tape.Tape.times.Given as goal

abbrev pub invariant-times : goal.invariant-times
invariant-times g l = Prints l.fn.self l.self (g.O.Sink.written l.fn.out) (g.O.Sink.written l.out) (g.O.Sink.faults l.fn.out) (g.O.Sink.faults l.out) (time_lines (turns l.times l.number))
