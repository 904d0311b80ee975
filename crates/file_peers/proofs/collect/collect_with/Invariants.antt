use Rattle.std.proofs.Common.{◌≤◌, ℕ, List}
use Rattle.file_collector.specs.Collecting.{HasTaken, IsCollecting}
use Rattle.file_peers.proofs.Turning.{SoFar}
use Rattle.file_peers.proofs.collect.collect_with.Given as goal

abbrev pub invariant-frames : goal.invariant-frames
invariant-frames g l = record {
  ready : IsCollecting g.I.Inbox.told g.I.Disk.Disk.told l.collector;
  so_far : (start : List (List ℕ)) → HasTaken g.I.Inbox.told g.I.Disk.Disk.told l.fn.collector start
      → SoFar g.I.Inbox.told g.I.Disk.Disk.told l.row start l.looks l.left (g.C.Link.gives l.fn.link) (g.C.Link.gives l.link) (g.C.Link.sent l.fn.link) (g.C.Link.sent l.link) (g.O.Sink.written l.fn.out) (g.O.Sink.written l.out) l.fn.collector l.collector;
  later : g.C.Link.faults l.fn.link ≤ g.C.Link.faults l.link;
  out_later : g.O.Sink.faults l.fn.out ≤ g.O.Sink.faults l.out;
}

abbrev pub decreases-frames : goal.decreases-frames
decreases-frames g l = l.left
