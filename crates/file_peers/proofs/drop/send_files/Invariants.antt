use Rattle.std.proofs.Common.{◌≡◌, ◌+◌, ◌-◌, ◌^◌, ◌≤◌}
use Rattle.pump_frame.specs.declared.frame.Kind.TheVariants.{Data}
use Rattle.file_dropper.specs.Works.{MayAsk}
use Rattle.file_peers.proofs.Visiting.{SoFar}
use Rattle.file_peers.proofs.drop.send_files.Given as goal

abbrev pub invariant-turns : goal.invariant-turns
invariant-turns g l = record {
  so_far : SoFar g.O.Outbox.told g.O.File.Source.left l.session l.fn.left l.left (g.C.Link.gives l.fn.link) (g.C.Link.gives l.link) (g.C.Link.sent l.fn.link) (g.C.Link.sent l.link)
      (g.W.Sink.written l.fn.out) (g.W.Sink.written l.out) l.fn.dropper l.dropper;
  may : MayAsk g.O.Outbox.told l.dropper;
  link_later : g.C.Link.faults l.fn.link ≤ g.C.Link.faults l.link;
  later : g.O.Outbox.told.count l.fn.dropper.outbox ≤ g.O.Outbox.told.count l.dropper.outbox;
  out_later : g.W.Sink.faults l.fn.out ≤ g.W.Sink.faults l.out;
  kind : l.frame.kind ≡ Data;
  session : l.frame.session ≡ l.session;
}

abbrev pub decreases-turns : goal.decreases-turns
decreases-turns g l = l.left + (2 ^ 48 - l.dropper.number)
