use Rattle.std.proofs.Common.{ap}
use Rattle.std.proofs.Math.Logic.{∥∥₁_map}
use Rattle.two_worlds.specs.declared.pump.state.BareDisks.{BareDisks}
use Rattle.two_worlds.specs.States.{disks_in}
use Rattle.two_worlds.proofs.Coarse.{disk_stays, room_stays, still_keeps}
use Rattle.two_worlds.proofs.pump.Pump.make_coarse.Goals as goal

pub invariant_of-self : goal.invariant_of-self
invariant_of-self g c =
    let o = c.make_coarse.ensures in
    record { keeps = ∥∥₁_map c.args.self.now.keeps (still_keeps g.D.Disk.told c.args.self.now.state c.make_coarse.new.self o.disks o.down o.able) }

pub returns-clause-row : goal.returns-clause-row
returns-clause-row g c = ap (λ (d : BareDisks _). d.row) c.make_coarse.ensures.disks

pub returns-clause-disks : goal.returns-clause-disks
returns-clause-disks g c = λ role. disk_stays role (disks_in c.args.self.now.state) (disks_in c.make_coarse.new.self) c.make_coarse.ensures.disks

pub returns-clause-room : goal.returns-clause-room
returns-clause-room g c = room_stays g.D.Disk.told (disks_in c.args.self.now.state) (disks_in c.make_coarse.new.self) c.make_coarse.ensures.disks
