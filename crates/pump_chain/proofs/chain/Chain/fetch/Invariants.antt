use Rattle.std.proofs.Common.{◌≡◌, ◌≤◌}
use Rattle.disk_model.specs.declared.name.Role.TheVariants as roles
use Rattle.two_worlds.specs.Reads.{ReadsOn}
use Rattle.pump_chain.proofs.chain.Chain.fetch.Given as goal

abbrev pub invariant-loop-earlier : goal.invariant-loop-earlier
invariant-loop-earlier g l =
    let m = g.D.Disk.told in
    record {
      from : l.self.place.number ≤ l.number;
      here : l.self.place.number ≡ l._earlier;
      reads : ReadsOn m roles.Recv l.fn.self.first l.self.first;
      second : l.self.second ≡ l.fn.self.second;
      sender : l.self.sender ≡ l.fn.self.sender;
      under_way : l.self.is_under_way ≡ l.fn.self.is_under_way;
    }
