use Rattle.std.proofs.Common.{◌-◌, ◌≡◌, ℕ, ◌≤◌, ◌<◌, List, [], None, false}
use Rattle.std.specs.List.{AllByRecursion}
use Rattle.low_process.specs.Looks.{row_of, is_down}
use Rattle.relay_threads.specs.Levels.{IsEndOf}
use Rattle.relay_threads.specs.LowEnds.{DoesSo, StoresSo}
use Rattle.relay_threads.specs.LowStays.{Stay, StaysSo, IsOver, count, newest_end, stayed}
use Rattle.relay_threads.specs.LowWorkers.{KeepsWorker}
use Rattle.relay_threads.specs.Replays.{TellLevels}
use Rattle.relay_threads.proofs.LowStaying.{StaysTold}
use Rattle.relay_threads.proofs.low_stays.low_rounds.Given as goal

abbrev pub invariant-loop-made : goal.invariant-loop-made
invariant-loop-made g l = record {
  stays : List (Stay g.row.P-Link.Denot);
  so : StaysSo l.initial.worker.process.now l.worker.process.now stays;
  told : StaysTold g.P.Link.Link.gives g.P.Link.Link.sent g.P.Link.Link.faults (g.P.Door.did l.fn.door) (g.P.Door.did l.door) (g.P.Door.gives l.fn.door) (g.P.Door.gives l.door) (g.K.Clock.reads l.initial.worker.clock.now) (g.K.Clock.reads l.worker.clock.now) (g.W.Words.gives l.initial.worker.words.now) (g.W.Words.gives l.worker.words.now) (g.O.Sink.written l.initial.worker.tape.now) (g.O.Sink.written l.worker.tape.now) (row_of l.initial.worker.process.now) stays;
  levels : IsEndOf g.L.LowSide.stands g.L.LowSide.shape l.initial.worker.ends.now (row_of l.initial.worker.process.now) → TellLevels (row_of l.initial.worker.process.now) (stayed [] stays);
  does : DoesSo g.L.LowSide.stands g.L.LowSide.shape l.initial.worker.ends.now l.worker.ends.now l.initial.worker.process.now l.worker.process.now (stayed [] stays);
  stores : StoresSo g.D.Disk.told l.initial.worker.store.now l.worker.store.now l.initial.worker.process.now l.worker.process.now (stayed [] stays);
  on : newest_end stays ≡ None;
  over : l.made < l.most → AllByRecursion IsOver stays;
  made : l.made ≡ count stays;
  port : (n : ℕ) → g.P.Door.port l.fn.door n → g.P.Door.port l.door n;
  most : l.made ≤ l.most;
  keeps : KeepsWorker g.K.Clock.floor g.D.Disk.told g.L.LowSide.stands g.L.LowSide.shape g.L.LowSide.place l.initial.worker l.worker;
  up : is_down l.worker.process.now ≡ false;
  tape : g.O.Sink.faults l.initial.worker.tape.now ≤ g.O.Sink.faults l.worker.tape.now;
}

abbrev pub decreases-loop-made : goal.decreases-loop-made
decreases-loop-made g l = l.most - l.made
