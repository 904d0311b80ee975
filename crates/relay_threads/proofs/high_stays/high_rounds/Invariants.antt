use Rattle.std.proofs.Common.{◌-◌, ◌≡◌, ℕ, ◌≤◌, ◌<◌, List, false}
use Rattle.std.specs.List.{AllByRecursion}
use Rattle.high_process.specs.States.{row_of}
use Rattle.relay_threads.specs.HighEnds.{StaysTake}
use Rattle.relay_threads.specs.HighServes.{device_in}
use Rattle.relay_threads.specs.HighStays.{Stay, StaysSo, IsOver, count, newest_stay_cause}
use Rattle.relay_threads.specs.HighWorkers.{CanGoOn, GoesOn}
use Rattle.relay_threads.proofs.HighStaying.{StaysTold}
use Rattle.relay_threads.proofs.high_stays.high_rounds.Given as goal

abbrev pub invariant-loop-made : goal.invariant-loop-made
invariant-loop-made g l = record {
  stays : List (Stay g.row.P-Link.Denot);
  so : StaysSo l.initial.worker.process.now l.worker.process.now stays;
  takes : StaysTake g.H.HighSide.stands l.initial.worker.ends.now l.worker.ends.now l.initial.worker.process.now l.worker.process.now stays;
  over : l.made < l.most → AllByRecursion IsOver stays;
  calm : device_in (newest_stay_cause stays) ≡ false;
  told : StaysTold g.P.Link.Link.gives g.P.Link.Link.sent g.P.Link.Link.faults (row_of l.initial.worker.process.now).id (g.P.Door.did l.fn.door) (g.P.Door.did l.door) (g.P.Door.gives l.fn.door) (g.P.Door.gives l.door) (g.K.Clock.reads l.initial.worker.clock.now) (g.K.Clock.reads l.worker.clock.now) stays;
  made : l.made ≡ count stays;
  port : (n : ℕ) → g.P.Door.port l.fn.door n → g.P.Door.port l.door n;
  most : l.made ≤ l.most;
  can : CanGoOn g.K.Clock.floor g.D.Disk.told g.H.HighSide.stands l.worker;
  goes_on : GoesOn g.K.Clock.floor g.D.Disk.told g.H.HighSide.stands g.H.HighSide.shape g.H.HighSide.place l.initial.worker l.worker;
}

abbrev pub decreases-loop-made : goal.decreases-loop-made
decreases-loop-made g l = l.most - l.made
