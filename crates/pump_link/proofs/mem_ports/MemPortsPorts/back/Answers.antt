use Rattle.std.proofs.Common.{ap}
use Rattle.pump_link.specs.Ports.{BackToPorts}
use Rattle.pump_link.proofs.PortsSteps.{did_more}
use Rattle.pump_link.proofs.mem_ports.MemPortsPorts.back.Goals as goal

pub returns-clause-did : goal.returns-clause-did
returns-clause-did c =
    did_more c.args.self.now c.keep.new.self (BackToPorts c.args.link) (ap (λ p. p.kept) c.keep.ensures) (ap (λ p. p.connected) c.keep.ensures)
