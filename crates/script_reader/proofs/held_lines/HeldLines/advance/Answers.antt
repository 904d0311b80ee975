use Rattle.std.proofs.Common.{◌+◌, ◌-◌, ◌≤◌, ℕ, List, length, drop, ap, arith, length-take}
use Rattle.script_reader.proofs.LineEnds.{advanced}
use Rattle.script_reader.proofs.held_lines.HeldLines.advance.Goals as goal

pub returns : goal.returns
returns c =
    let at : List ℕ → ℕ = λ held. length held in
    let fits : c.self.inside.start + c.args.len ≤ c.self.inside.end = omega (arith, c.requires, ap at c.self.view_is, c.self.invariant, length-take (c.self.inside.end - c.self.inside.start) (drop c.self.inside.start c.self.inside.cells)) in
    rw (← c.self.view_is) (advanced c.self.inside.cells c.self.inside.start c.self.inside.end c.args.len fits)
