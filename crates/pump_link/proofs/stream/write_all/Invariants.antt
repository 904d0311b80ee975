use Rattle.std.proofs.Common.{length, ◌-◌, ◌≤◌, take}
use Rattle.std.specs.Io.KnownBytes.{Appends}
use Rattle.pump_link.proofs.stream.write_all.Given as goal

abbrev pub invariant-loop-at : goal.invariant-loop-at
invariant-loop-at g l = (l.at ≤ length l.bytes) × Appends (g.O.Sink.written l.fn.out) (g.O.Sink.written l.out) (take l.at l.bytes) × (g.O.Sink.faults l.fn.out ≤ g.O.Sink.faults l.out)

abbrev pub decreases-loop-at : goal.decreases-loop-at
decreases-loop-at g l = length l.bytes - l.at
