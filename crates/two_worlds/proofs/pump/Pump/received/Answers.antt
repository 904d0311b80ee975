use Rattle.disk_model.specs.declared.name.Role.TheVariants as roles
use Rattle.two_worlds.proofs.Lines.Kept.{kept_able}
use Rattle.two_worlds.proofs.Reading.{keeps_either}
use Rattle.two_worlds.proofs.pump.Pump.received.Goals as goal

pub received-requires-clause-able : goal.received-requires-clause-able
received-requires-clause-able g c = kept_able g.D.Disk.told c.args.self.now.state c.requires.up c.args.self.now.keeps

pub invariant_of-self : goal.invariant_of-self
invariant_of-self g c = record {
  keeps = keeps_either g.D.Disk.told roles.Recv c.args.self.now.state c.received.new.self c.received.result (kept_able g.D.Disk.told c.args.self.now.state c.requires.up c.args.self.now.keeps) c.received.ensures.reads c.received.ensures.able c.received.ensures.fails c.args.self.now.keeps;
}
