use Rattle.std.proofs.Common.{◌≤◌, []}
use Rattle.pump_link.specs.Tells.{Grows}
use Rattle.file_peers.proofs.Looking.{Resting}
use Rattle.file_peers.proofs.resting.take_rest.Given as goal

abbrev pub invariant-looks : goal.invariant-looks
invariant-looks g l = record {
  rests : Resting l.reader l.begun l.some (g.C.Link.gives l.fn.link) (g.C.Link.gives l.link) l.fn.left l.left;
  sent : Grows (g.C.Link.sent l.fn.link) (g.C.Link.sent l.link) [];
  later : g.C.Link.faults l.fn.link ≤ g.C.Link.faults l.link;
}

abbrev pub decreases-looks : goal.decreases-looks
decreases-looks g l = l.left
