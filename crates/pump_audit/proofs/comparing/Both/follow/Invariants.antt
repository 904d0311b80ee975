use Rattle.std.proofs.Common.{◌-◌, ◌≤◌, ◌^◌, ℕ, List, Option}
use Rattle.std.specs.Io.KnownBytes.{prepend_known}
use Rattle.pump_audit.specs.Comparing.{ItemTold}
use Rattle.pump_audit.specs.Siding.{SideGoes}
use Rattle.pump_audit.proofs.comparing.Both.follow.Given as goal

abbrev pub invariant-lines : goal.invariant-lines
invariant-lines g l = record {
  goes : (first : Option (List ItemTold)) (bytes : List ℕ) (before : ℕ) → SideGoes first l.is_first before bytes l.fn.side l.fn.self.lines (prepend_known l.fn.self.texts (g.I.Source.left l.fn.tape))
      → SideGoes first l.is_first before bytes l.side l.self.lines (prepend_known l.self.texts (g.I.Source.left l.tape));
  later : g.I.Source.faults l.fn.tape ≤ g.I.Source.faults l.tape;
}

abbrev pub decreases-lines : goal.decreases-lines
decreases-lines g l = 2 ^ 32 - l.self.lines
