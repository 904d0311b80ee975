use Rattle.std.proofs.Common.{◌≤◌, []}
use Rattle.pump_link.specs.Tells.{Grows}
use Rattle.pump_frame.specs.Readings.{HasBegun}
use Rattle.relay_threads.specs.Hearings.{held_in}
use Rattle.relay_threads.proofs.Hearing.{Reads}
use Rattle.relay_threads.proofs.hear.hear.Given as goal

abbrev pub invariant-loop-count : goal.invariant-loop-count
invariant-loop-count g l = record {
  reads : Reads (held_in l.fn.reader) l.reader (g.C.Link.gives l.fn.link) (g.C.Link.gives l.link) l._count;
  begun : HasBegun l.reader;
  sent : Grows (g.C.Link.sent l.fn.link) (g.C.Link.sent l.link) [];
  later : g.C.Link.faults l.fn.link ≤ g.C.Link.faults l.link;
}
