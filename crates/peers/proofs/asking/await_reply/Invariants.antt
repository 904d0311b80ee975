use Rattle.std.proofs.Common.{◌≡◌, ◌+◌, ◌≤◌, List, [], length}
use Rattle.pump_frame.specs.declared.frame.Frame.{Frame}
use Rattle.pump_link.specs.Tells.{Draws, Grows}
use Rattle.pump_link.specs.declared.link.Looked.{Looked}
use Rattle.peers.specs.Looks.{HearsJust}
use Rattle.peers.specs.Sending.{ArePassed}
use Rattle.peers.proofs.asking.await_reply.Given as goal

abbrev pub invariant-frames : goal.invariant-frames
invariant-frames g l = record {
  looks : List Looked;
  passed : List Frame;
  heard : HearsJust looks passed;
  over : ArePassed l.session l.wanted passed;
  count : l.fn.left ≡ l.left + length looks;
  gave : Draws (g.C.Link.gives l.fn.link) (g.C.Link.gives l.link) looks;
  sent : Grows (g.C.Link.sent l.fn.link) (g.C.Link.sent l.link) [];
  later : g.C.Link.faults l.fn.link ≤ g.C.Link.faults l.link;
}

abbrev pub decreases-frames : goal.decreases-frames
decreases-frames g l = l.left
