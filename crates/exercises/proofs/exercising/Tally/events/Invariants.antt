use Rattle.std.proofs.Common.{take}
use Rattle.two_worlds.specs.Printing.{lines_in}
use Rattle.exercises.specs.Exercising.{AddsEvents}
use Rattle.exercises.proofs.exercising.Tally.events.Given as goal

abbrev pub invariant-each : goal.invariant-each
invariant-each l = AddsEvents l.initial.self l.self l.word (lines_in (take l.event-index l.events))
