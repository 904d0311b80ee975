use Rattle.std.proofs.Common.{◌≤◌}
use Rattle.peers.specs.Appender.{IsReady, coming}
use Rattle.peers.proofs.Streaming.{SoFar}
use Rattle.peers.proofs.append.Appender.send_lines.Given as goal

abbrev pub invariant-lines : goal.invariant-lines
invariant-lines g l = record {
  so_far : SoFar l.fn.self l.self (g.C.Link.gives l.fn.link) (g.C.Link.gives l.link) (g.C.Link.sent l.fn.link) (g.C.Link.sent l.link)
      (coming l.fn.self (g.I.Source.left l.fn.script)) (coming l.self (g.I.Source.left l.script)) (g.O.Sink.written l.fn.out) (g.O.Sink.written l.out);
  ready : IsReady l.self;
  link_later : g.C.Link.faults l.fn.link ≤ g.C.Link.faults l.link;
  source_later : g.I.Source.faults l.fn.script ≤ g.I.Source.faults l.script;
  out_later : g.O.Sink.faults l.fn.out ≤ g.O.Sink.faults l.out;
}

abbrev pub decreases-lines : goal.decreases-lines
decreases-lines g l = l.self.left
