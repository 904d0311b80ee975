use Rattle.std.proofs.Common.{◌≡◌, ◌≤◌}
use Rattle.peers.specs.Appender.{IsReady, coming}
use Rattle.peers.specs.Appending.{link_tells}
use Rattle.peers.proofs.Tries.{TriesSoFar}
use Rattle.peers.proofs.append.append_with.Given as goal

abbrev pub invariant-tries : goal.invariant-tries
invariant-tries g l = record {
  so_far : TriesSoFar (link_tells g.P.Link.Link.gives g.P.Link.Link.sent g.P.Link.Link.faults) l.row l.looks l.appender (g.P.Ports.did l.fn.ports) (g.P.Ports.did l.ports)
      (g.I.Source.left l.fn.script) (coming l.appender (g.I.Source.left l.script)) (g.O.Sink.written l.fn.out) (g.O.Sink.written l.out);
  ready : IsReady l.appender;
  session : l.appender.frame.session ≡ l.row.id;
  source_later : g.I.Source.faults l.fn.script ≤ g.I.Source.faults l.script;
  out_later : g.O.Sink.faults l.fn.out ≤ g.O.Sink.faults l.out;
}

abbrev pub decreases-tries : goal.decreases-tries
decreases-tries g l = l.appender.left
