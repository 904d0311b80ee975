use Rattle.std.proofs.Common.{◌≡◌, ◌≤◌}
use Rattle.disk_model.specs.declared.name.Role.TheVariants as roles
use Rattle.script_reader.specs.Past.{Past}
use Rattle.two_worlds.specs.Pumps.{StandsFor}
use Rattle.two_worlds.specs.Reads.{ReadsOn}
use Rattle.pump_chain.specs.Comparing.{Agree}
use Rattle.pump_chain.proofs.chain.Chain.compare_live.Given as goal

abbrev pub invariant-loop-number : goal.invariant-loop-number
invariant-loop-number g l =
    let m = g.D.Disk.told in
    record {
      from : l.removed ≤ l.number;
      agree : m.tells → (p q : Past) → StandsFor m l.fn.self.first p → StandsFor m l.fn.self.second q → Agree l.removed l.number q.world.accepted p.world.received;
      first : ReadsOn m roles.Recv l.fn.self.first l.self.first;
      second : ReadsOn m roles.Low l.fn.self.second l.self.second;
      sender : l.self.sender ≡ l.fn.self.sender;
      under_way : l.self.is_under_way ≡ l.fn.self.is_under_way;
    }
