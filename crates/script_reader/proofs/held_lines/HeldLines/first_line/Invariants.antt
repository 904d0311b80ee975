use Rattle.std.proofs.Common.{◌≡◌, ◌-◌, ◌≤◌, length}
use Rattle.std.specs.Io.KnownBytes.{prepend_known, Keeps}
use Rattle.script_reader.specs.Lines.{LineIsReady, ReadsTo}
use Rattle.script_reader.proofs.held_lines.HeldLines.first_line.Given as goal

abbrev pub invariant-turns : goal.invariant-turns
invariant-turns g l = Keeps (prepend_known l.fn.self (g.I.Source.left l.fn.source)) (prepend_known l.self (g.I.Source.left l.source))
    × (g.I.Source.faults l.fn.source ≤ g.I.Source.faults l.source)
    × (LineIsReady l.fn.self → (l.self ≡ l.fn.self) × (l.source ≡ l.fn.source))
    × ReadsTo l.fn.self (g.I.Source.gives l.fn.source) (g.I.Source.gives l.source) l.self

abbrev pub decreases-turns : goal.decreases-turns
decreases-turns g l = 4096 - length l.self
