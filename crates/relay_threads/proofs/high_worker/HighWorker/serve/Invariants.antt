use Rattle.std.proofs.Common.{◌-◌, ◌≡◌, ◌≤◌, List}
use Rattle.pump_frame.specs.Readings.{HasBegun}
use Rattle.high_process.specs.States.{row_of}
use Rattle.relay_threads.specs.HighRounds.{Round, removals}
use Rattle.relay_threads.specs.HighEnds.{TakesSo}
use Rattle.relay_threads.specs.HighWorkers.{CanGoOn, GoesOn}
use Rattle.relay_threads.proofs.HighServing.{Told, SoFar}
use Rattle.relay_threads.proofs.high_worker.HighWorker.serve.Given as goal

abbrev pub invariant-loop-rounds : goal.invariant-loop-rounds
invariant-loop-rounds g l = record {
  rounds : List Round;
  so_far : SoFar l.fn.self.process.now l.self.process.now l.connection.reader l.connection.is_attached l.rounds rounds;
  told : Told (g.C.Link.gives l.fn.link) (g.C.Link.gives l.link) (g.C.Link.sent l.fn.link) (g.C.Link.sent l.link) (g.K.Clock.reads l.fn.self.clock.now) (g.K.Clock.reads l.self.clock.now) (g.G.Gate.asked l.fn.gate) (g.G.Gate.asked l.gate) (row_of l.fn.self.process.now).id rounds;
  takes : TakesSo g.H.HighSide.stands l.fn.self.ends.now l.self.ends.now l.fn.self.process.now l.self.process.now rounds;
  begun : HasBegun l.connection.reader;
  removed : l.removed ≡ removals rounds;
  few : l.removed ≤ l.rounds;
  can : CanGoOn g.K.Clock.floor g.D.Disk.told g.H.HighSide.stands l.self;
  goes_on : GoesOn g.K.Clock.floor g.D.Disk.told g.H.HighSide.stands g.H.HighSide.shape g.H.HighSide.place l.fn.self l.self;
  most : l.rounds ≤ l.looks;
  link : g.C.Link.faults l.fn.link ≤ g.C.Link.faults l.link;
  gate : g.G.Gate.stops l.gate ≡ g.G.Gate.stops l.fn.gate;
}

abbrev pub decreases-loop-rounds : goal.decreases-loop-rounds
decreases-loop-rounds g l = l.looks - l.rounds
