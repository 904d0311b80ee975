use Rattle.std.proofs.Common.{arith, ap, ◌∙◌, sym}
use Rattle.std.proofs.lemmas.Grind.{common_steps}
use Rattle.pump_link.specs.Ports.{NoDoor, Listened, first_of, leave, with_next_out}
use Rattle.pump_link.proofs.PortsSteps.{did_more}
use Rattle.pump_link.proofs.mem_ports.MemPortsPorts.listen.Goals as goal

pub returns-then-is_failing-clause-did : goal.returns-then-is_failing-clause-did
returns-then-is_failing-clause-did c =
    let after = c.if-is_failing.ensures.after in
    did_more c.args.self.now c.is_failing.new.self (NoDoor c.args.port) (ap (λ p. p.kept) after) (ap (λ p. p.connected) after)

pub returns-clause-did : goal.returns-clause-did
returns-clause-did c =
    let after = c.if-is_failing.ensures.after in
    let next = c.next.ensures.after in
    let came = ap (λ door. door.waiting) c.new.ensures ∙ c.next.ensures.link ∙ ap (λ p. first_of p.coming) after in
    did_more c.args.self.now c.next.new.self (Listened c.args.port c.new.result) (ap (λ p. p.kept) (next ∙ ap with_next_out after) ∙ ap (leave c.args.self.now.kept) (sym came)) (ap (λ p. p.connected) next ∙ ap (λ p. p.connected) after)

pub returns-clause-ok : goal.returns-clause-ok
returns-clause-ok c = grind (arith, common_steps)

pub returns-clause-fails : goal.returns-clause-fails
returns-clause-fails c = grind (arith, common_steps)

pub returns-clause-gives : goal.returns-clause-gives
returns-clause-gives c = grind (arith, common_steps)

pub returns-then-is_failing-clause-gives : goal.returns-then-is_failing-clause-gives
returns-then-is_failing-clause-gives c = grind (arith, common_steps)
