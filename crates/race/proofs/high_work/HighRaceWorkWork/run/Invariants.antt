use Rattle.std.proofs.Common.{◌≡◌, Bool, List}
use Rattle.race.specs.HighWorks.{HighSoFar}
use Rattle.race.specs.Turns.{looks_in}
use Rattle.race.proofs.high_work.HighRaceWorkWork.run.Given as goal

abbrev pub invariant-loop : goal.invariant-loop
invariant-loop g l = (turns_made : List Bool)
    × HighSoFar g.H.HighSide.stands g.H.HighSide.place g.H.HighSide.shape g.G.Gate.asked g.G.Gate.stops l.fn.self l.self l.has_taken turns_made
    × (l.looks ≡ looks_in turns_made)
