use Rattle.std.proofs.Common.{◌-◌, ◌≡◌, ◌≤◌, length, take}
use Rattle.std.specs.Io.KnownBytes.{Consumes}
use Rattle.serving.proofs.keys.read_key.Given as goal

abbrev pub invariant-loop-at : goal.invariant-loop-at
invariant-loop-at g l = record {
  prefix : Consumes (g.Q.Source.left l.fn.keys) (g.Q.Source.left l.keys) (take l.at l.key);
  most : l.at ≤ 32;
  long : length l.key ≡ 32;
  later : g.Q.Source.faults l.fn.keys ≤ g.Q.Source.faults l.keys;
}

abbrev pub decreases-loop-at : goal.decreases-loop-at
decreases-loop-at g l = 32 - l.at
