use Rattle.std.proofs.Common.{take, arith, length, ◌+◌, ◌^◌, ◌≤◌}
use Rattle.std.proofs.lemmas.List.{length-map, length-take-le}
use Rattle.script_reader.specs.EventHeads.{event_of}
use Rattle.two_worlds.specs.Printing.{lines_in}
use Rattle.exercises.proofs.Tallies.{adds_within, within_more, adds_more}
use Rattle.exercises.proofs.exercising.Tally.events.Goals as goal

pub event-requires : goal.event-requires
event-requires c =
    let some = take c.each.event-index c.args.events.now in
    let few : length (lines_in some) ≤ 4 =
    omega (arith, length-map some event_of, length-take-le c.each.event-index c.args.events.now (omega arith)) in
    within_more c.each.self (2 ^ 61 + 400000) (2 ^ 62) (omega arith)
    (adds_within c.args.self.now c.each.self c.args.word (lines_in some) (2 ^ 61) c.each.invariant few c.requires.small)

pub each-preserved : goal.each-preserved
each-preserved c = adds_more c.args.self.now c.each.self c.event.new.self c.args.word c.args.events.now c.each.event-index _ c.each-test.true c.each.invariant c.event.ensures
