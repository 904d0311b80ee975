use Rattle.std.proofs.Common.{refl, ap, ◌∙◌, sym}
use Rattle.pump_link.specs.Ports.{ShutDoor, with_back}
use Rattle.pump_link.proofs.PortsSteps.{did_more}
use Rattle.pump_link.proofs.mem_ports.MemPortsPorts.shut.Goals as goal

pub returns-in-Some-clause-did : goal.returns-in-Some-clause-did
returns-in-Some-clause-did c =
    let back = c.keep.ensures ∙ ap (with_back c.args.self.now) (sym c.in-Some.is ∙ c.into_back.ensures) in
    did_more c.args.self.now c.keep.new.self (ShutDoor c.args.door) (ap (λ p. p.kept) back) (ap (λ p. p.connected) back)

pub returns-in_default-clause-did : goal.returns-in_default-clause-did
returns-in_default-clause-did c =
    let back = ap (with_back c.args.self.now) (sym c.in_default.is ∙ c.into_back.ensures) in
    did_more c.args.self.now c.args.self.now (ShutDoor c.args.door) (ap (λ p. p.kept) back) refl
