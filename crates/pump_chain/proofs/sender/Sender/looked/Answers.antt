use Rattle.std.proofs.Common.{Bool, sym, ap, ◌∙◌, ◌||◌, ◌&&◌}
use Rattle.std.specs.Prelude.{not}
use Rattle.pump_chain.specs.Chained.{is_reply, is_welcome}
use Rattle.pump_chain.proofs.Printing.{any_lines, chosen}
use Rattle.pump_chain.proofs.sender.Sender.looked.Goals as goal

pub returns : goal.returns
returns c =
    let welcome = c.either-self.ensures ∙ ap (λ (b : Bool). c.args.self.now.is_welcome || b) (c.has_welcome.ensures ∙ sym (any_lines is_welcome c.args.printed.now)) in
    let under_way = c.is_under_way_still-self.ensures ∙ ap (λ (b : Bool). (c.args.self.now.is_under_way || c.args.adds) && not b) (c.has_reply.ensures ∙ sym (any_lines is_reply c.args.printed.now)) in
    (λ i. record { is_welcome = welcome i; is_under_way = under_way i }) ∙ chosen c.args.is_made _ c.args.self.now c.if-not-is_made.false
