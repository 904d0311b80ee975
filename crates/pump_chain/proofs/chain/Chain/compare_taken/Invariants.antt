use Rattle.std.proofs.Common.{◌≡◌}
use Rattle.disk_model.specs.declared.name.Role.TheVariants as roles
use Rattle.high_receiver.specs.Receiving.{record_at}
use Rattle.script_reader.specs.Past.{Past}
use Rattle.two_worlds.specs.Pumps.{StandsFor}
use Rattle.two_worlds.specs.Reads.{ReadsOn}
use Rattle.pump_chain.specs.Comparing.{Agree}
use Rattle.pump_chain.proofs.chain.Chain.compare_taken.Given as goal

abbrev pub invariant-loop-number : goal.invariant-loop-number
invariant-loop-number g l =
    let m = g.D.Disk.told in
    record {
      at : m.tells → (q : Past) → StandsFor m l.fn.self.second q → l.at ≡ record_at q.world.received l.number;
      agree : m.tells → (p q : Past) → StandsFor m l.fn.self.first p → StandsFor m l.fn.self.second q → Agree 0 l.number q.world.received p.world.received;
      first : ReadsOn m roles.Recv l.fn.self.first l.self.first;
      second : ReadsOn m roles.Recv l.fn.self.second l.self.second;
      sender : l.self.sender ≡ l.fn.self.sender;
      under_way : l.self.is_under_way ≡ l.fn.self.is_under_way;
    }
