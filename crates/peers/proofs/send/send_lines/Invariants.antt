use Rattle.std.proofs.Common.{◌≡◌, ◌-◌, ◌^◌, ◌≤◌}
use Rattle.std.specs.Io.KnownBytes.{prepend_known}
use Rattle.pump_frame.specs.declared.frame.Kind.TheVariants.{Data}
use Rattle.peers.proofs.SendingLines.{SoFar}
use Rattle.peers.proofs.send.send_lines.Given as goal

abbrev pub invariant-lines : goal.invariant-lines
invariant-lines g l = record {
  so_far : SoFar l.session l.first l.fn.left l.left l.number (g.C.Link.gives l.fn.link) (g.C.Link.gives l.link) (g.C.Link.sent l.fn.link) (g.C.Link.sent l.link)
      (g.I.Source.left l.fn.script) (prepend_known l.script_lines (g.I.Source.left l.script)) (g.O.Sink.written l.fn.out) (g.O.Sink.written l.out);
  link_later : g.C.Link.faults l.fn.link ≤ g.C.Link.faults l.link;
  source_later : g.I.Source.faults l.fn.script ≤ g.I.Source.faults l.script;
  out_later : g.O.Sink.faults l.fn.out ≤ g.O.Sink.faults l.out;
  kind : l.frame.kind ≡ Data;
  session : l.frame.session ≡ l.session;
}

abbrev pub decreases-lines : goal.decreases-lines
decreases-lines g l = 2 ^ 32 - 1 - l.number
