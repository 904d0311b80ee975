use Rattle.std.proofs.Common.{◌-◌, ◌≡◌, ◌≤◌, length, take}
use Rattle.std.specs.Io.KnownBytes.{Consumes}
use Rattle.file_cutter.proofs.fill.fill.Given as goal

abbrev pub invariant-loop-at : goal.invariant-loop-at
invariant-loop-at g l = record {
  prefix : Consumes (g.I.Source.left l.fn.file) (g.I.Source.left l.file) (take l.at l.room);
  most : l.at ≤ length l.room;
  long : length l.room ≡ length l.initial.room;
  later : g.I.Source.faults l.fn.file ≤ g.I.Source.faults l.file;
}

abbrev pub decreases-loop-at : goal.decreases-loop-at
decreases-loop-at g l = length l.initial.room - l.at
