use Rattle.std.proofs.Common.{◌∙◌, sym}
use Rattle.std.proofs.Math.Logic.{∥∥₁_elim}
use Rattle.std.proofs.Props.{props}
use Rattle.two_worlds.proofs.Lines.Timely.{held_is, hand_lent, goes_held}
use Rattle.two_worlds.proofs.pump.parts.Parts.goes_on.Goals as goal

pub returns-else-is_some : goal.returns-else-is_some
returns-else-is_some g c =
    goes_held c.args.self.now c.held.result (hand_lent c.hand.result _ c.hand.ensures.hand ∙ sym c.if-is_some.ensures)
    (∥∥₁_elim c.requires.able.works (hlevel props) (λ w. held_is g.D.Disk.told c.args.self.now c.held.result w c.held.ensures))
