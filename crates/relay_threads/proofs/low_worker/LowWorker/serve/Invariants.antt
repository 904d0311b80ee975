use Rattle.std.proofs.Common.{◌-◌, ◌≡◌, ◌≤◌, List, false}
use Rattle.pump_frame.specs.Readings.{HasBegun}
use Rattle.low_process.specs.Looks.{row_of, is_down}
use Rattle.relay_threads.specs.Levels.{IsEndOf}
use Rattle.relay_threads.specs.LowRounds.{Round, made_in}
use Rattle.relay_threads.specs.LowEnds.{DoesSo, StoresSo}
use Rattle.relay_threads.specs.LowWorkers.{KeepsWorker}
use Rattle.relay_threads.specs.Replays.{TellLevels}
use Rattle.relay_threads.proofs.LowServing.{Told, SoFar}
use Rattle.relay_threads.proofs.low_worker.LowWorker.serve.Given as goal

abbrev pub invariant-loop-rounds : goal.invariant-loop-rounds
invariant-loop-rounds g l = record {
  rounds : List Round;
  so_far : SoFar l.fn.self.process.now l.self.process.now l.connection.reader l.was_full l.acks l.rounds rounds;
  told : Told (g.C.Link.gives l.fn.link) (g.C.Link.gives l.link) (g.C.Link.sent l.fn.link) (g.C.Link.sent l.link) (g.K.Clock.reads l.fn.self.clock.now) (g.K.Clock.reads l.self.clock.now) (g.W.Words.gives l.fn.self.words.now) (g.W.Words.gives l.self.words.now)
      (g.G.Gate.asked l.fn.gate) (g.G.Gate.asked l.gate) (g.O.Sink.written l.fn.self.tape.now) (g.O.Sink.written l.self.tape.now) (row_of l.fn.self.process.now) rounds;
  levels : IsEndOf g.L.LowSide.stands g.L.LowSide.shape l.fn.self.ends.now (row_of l.fn.self.process.now) → TellLevels (row_of l.fn.self.process.now) (made_in rounds);
  does : DoesSo g.L.LowSide.stands g.L.LowSide.shape l.fn.self.ends.now l.self.ends.now l.fn.self.process.now l.self.process.now (made_in rounds);
  stores : StoresSo g.D.Disk.told l.fn.self.store.now l.self.store.now l.fn.self.process.now l.self.process.now (made_in rounds);
  begun : HasBegun l.connection.reader;
  keeps : KeepsWorker g.K.Clock.floor g.D.Disk.told g.L.LowSide.stands g.L.LowSide.shape g.L.LowSide.place l.fn.self l.self;
  up : is_down l.self.process.now ≡ false;
  most : l.rounds ≤ l.looks;
  link : g.C.Link.faults l.fn.link ≤ g.C.Link.faults l.link;
  tape : g.O.Sink.faults l.fn.self.tape.now ≤ g.O.Sink.faults l.self.tape.now;
  gate : g.G.Gate.stops l.gate ≡ g.G.Gate.stops l.fn.gate;
}

abbrev pub decreases-loop-rounds : goal.decreases-loop-rounds
decreases-loop-rounds g l = l.looks - l.rounds
