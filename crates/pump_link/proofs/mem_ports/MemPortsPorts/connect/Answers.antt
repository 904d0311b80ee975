use Rattle.std.proofs.Common.{arith, refl, ap, ◌∙◌, sym}
use Rattle.std.proofs.lemmas.Grind.{common_steps}
use Rattle.pump_link.specs.Ports.{NoConnection, Connected, first_of, leave, with_next_out}
use Rattle.pump_link.proofs.PortsSteps.{did_more, leave_none}
use Rattle.pump_link.proofs.mem_ports.MemPortsPorts.connect.Goals as goal

pub returns-then-is_failing-clause-did : goal.returns-then-is_failing-clause-did
returns-then-is_failing-clause-did c =
    let after = c.if-is_failing.ensures.after in
    did_more c.args.self.now c.is_failing.new.self (NoConnection c.args.port) (ap (λ p. p.kept) after) (ap (λ p. p.connected) after)

pub returns-clause-did : goal.returns-clause-did
returns-clause-did c =
    let after = c.if-is_failing.ensures.after in
    let next = c.next.ensures.after in
    let came = sym c.in-Some.is ∙ c.next.ensures.link ∙ ap (λ p. first_of p.coming) after in
    did_more c.args.self.now _ (Connected c.args.port c.in-Some.link) (ap (λ p. p.kept) (c.self.view_is ∙ next ∙ ap with_next_out after) ∙ ap (leave c.args.self.now.kept) (sym came)) refl

pub returns-in_default-clause-did : goal.returns-in_default-clause-did
returns-in_default-clause-did c =
    let after = c.if-is_failing.ensures.after in
    let next = c.next.ensures.after in
    let none = sym c.in_default.is ∙ c.next.ensures.link ∙ ap (λ p. first_of p.coming) after in
    let kept = ap (λ p. p.kept) (c.self.view_is ∙ next ∙ ap with_next_out after) in
    did_more c.args.self.now _ (NoConnection c.args.port) (kept ∙ ap (leave c.args.self.now.kept) (sym none) ∙ leave_none c.args.self.now.kept) (ap (λ p. p.connected) (c.self.view_is ∙ next ∙ ap with_next_out after))

pub returns-in_default-clause-fails : goal.returns-in_default-clause-fails
returns-in_default-clause-fails c = grind (arith, common_steps)

pub returns-clause-fails : goal.returns-clause-fails
returns-clause-fails c = grind (arith, common_steps)

pub returns-in_default-clause-gives : goal.returns-in_default-clause-gives
returns-in_default-clause-gives c = grind (arith, common_steps)

pub returns-clause-gives : goal.returns-clause-gives
returns-clause-gives c = grind (arith, common_steps)
