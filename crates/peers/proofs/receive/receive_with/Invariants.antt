use Rattle.std.proofs.Common.{◌≤◌}
use Rattle.peers.proofs.Turning.{SoFar}
use Rattle.peers.proofs.receive.receive_with.Given as goal

abbrev pub invariant-frames : goal.invariant-frames
invariant-frames g l = record {
  so_far : SoFar g.D.Disk.told l.row l.looks l.left (g.C.Link.gives l.fn.link) (g.C.Link.gives l.link) (g.C.Link.sent l.fn.link) (g.C.Link.sent l.link) (g.O.Sink.written l.fn.out) (g.O.Sink.written l.out) l.fn.receiver l.receiver;
  later : g.C.Link.faults l.fn.link ≤ g.C.Link.faults l.link;
  out_later : g.O.Sink.faults l.fn.out ≤ g.O.Sink.faults l.out;
}

abbrev pub decreases-frames : goal.decreases-frames
decreases-frames g l = l.left
