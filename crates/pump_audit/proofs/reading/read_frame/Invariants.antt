use Rattle.std.proofs.Common.{◌≡◌, take}
use Rattle.pump_frame.specs.Readings.{Within, HasBegun}
use Rattle.pump_audit.proofs.reading.read_frame.Given as goal

abbrev pub invariant-loop-i : goal.invariant-loop-i
invariant-loop-i l = record {
  held : l.reader ≡ Within (take l.i l.bytes);
  begun : HasBegun l.reader;
}
