use Rattle.std.proofs.Common.{◌≡◌, List, false}
use Rattle.relay_threads.specs.Records.{Made, was_full}
use Rattle.race.specs.LowWorks.{LowSoFar}
use Rattle.race.specs.MadeLooks.{acks_of}
use Rattle.race.specs.Turns.{looks_in, asks_of}
use Rattle.race.proofs.low_work.LowRaceWorkWork.run.Given as goal

abbrev pub invariant-loop : goal.invariant-loop
invariant-loop g l = (made : List Made)
    × LowSoFar g.K.Clock.reads g.K.Clock.floor g.O.Sink.written g.O.Sink.faults g.L.LowSide.stands g.L.LowSide.place g.L.LowSide.shape g.G.Gate.asked g.G.Gate.stops l.fn.self l.self made (asks_of (acks_of made))
    × (l.was_full ≡ was_full made) × (l.self.is_stopped ≡ false) × (l.looks ≡ looks_in (acks_of made))
