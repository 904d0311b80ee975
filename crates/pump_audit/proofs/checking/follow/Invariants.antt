use Rattle.std.proofs.Common.{◌-◌, ◌≤◌, ◌^◌, ℕ, List}
use Rattle.std.specs.Io.KnownBytes.{prepend_known}
use Rattle.pump_audit.specs.Auditing.{Reads}
use Rattle.pump_audit.proofs.checking.follow.Given as goal

abbrev pub invariant-lines : goal.invariant-lines
invariant-lines g l = record {
  reads : (bytes : List ℕ) → Reads bytes l.fn.audit (prepend_known l.fn.texts (g.I.Source.left l.fn.tape)) → Reads bytes l.audit (prepend_known l.texts (g.I.Source.left l.tape));
  later : g.I.Source.faults l.fn.tape ≤ g.I.Source.faults l.tape;
}

abbrev pub decreases-lines : goal.decreases-lines
decreases-lines g l = 2 ^ 32 - l.audit.lines
