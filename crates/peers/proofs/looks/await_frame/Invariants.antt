use Rattle.std.proofs.Common.{◌≤◌, []}
use Rattle.pump_link.specs.Tells.{Grows}
use Rattle.peers.proofs.Hearing.{Reads}
use Rattle.peers.proofs.looks.await_frame.Given as goal

abbrev pub invariant-loop-left : goal.invariant-loop-left
invariant-loop-left g l = record {
  reads : Reads l.reader (g.C.Link.gives l.fn.link) (g.C.Link.gives l.link) l.fn.left l.left;
  sent : Grows (g.C.Link.sent l.fn.link) (g.C.Link.sent l.link) [];
  later : g.C.Link.faults l.fn.link ≤ g.C.Link.faults l.link;
}

abbrev pub decreases-loop-left : goal.decreases-loop-left
decreases-loop-left g l = l.left
