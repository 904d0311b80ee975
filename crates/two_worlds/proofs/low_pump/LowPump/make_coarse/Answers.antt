use Rattle.std.proofs.Common.{sym, ◌∙◌}
use Rattle.std.proofs.Math.Logic.{∥∥₁_map}
use Rattle.two_worlds.proofs.low_pump.LowPump.make_coarse.Goals as goal

pub invariant_of-self : goal.invariant_of-self
invariant_of-self c =
    let o = c.make_coarse.ensures in
    record { stands = λ up. ∥∥₁_map (c.args.self.now.stands (sym o.up ∙ up)) (λ s. (s.0, o.stands s.0 s.1)) }
