use Rattle.std.proofs.Common.{◌-◌, ◌≤◌, length}
use Rattle.std.specs.Io.KnownBytes.{prepend_known, Consumes}
use Rattle.script_reader.specs.Lines.{IsUnended}
use Rattle.peers.proofs.payload_lines.PayloadLines.next.Given as goal

abbrev pub invariant-bytes : goal.invariant-bytes
invariant-bytes g l = record {
  line : Consumes (prepend_known l.fn.self (g.I.Source.left l.fn.script)) (prepend_known l.self (g.I.Source.left l.script)) l.line.items;
  unended : IsUnended l.line.items;
  short : length l.line.items ≤ 2048;
  later : g.I.Source.faults l.fn.script ≤ g.I.Source.faults l.script;
}

abbrev pub decreases-bytes : goal.decreases-bytes
decreases-bytes g l = 2048 - length l.line.items
