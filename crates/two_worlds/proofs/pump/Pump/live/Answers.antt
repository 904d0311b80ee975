use Rattle.disk_model.specs.declared.name.Role.TheVariants as roles
use Rattle.two_worlds.proofs.Lines.Kept.{kept_able}
use Rattle.two_worlds.proofs.Reading.{keeps_either}
use Rattle.two_worlds.proofs.pump.Pump.live.Goals as goal

pub live-requires-clause-able : goal.live-requires-clause-able
live-requires-clause-able g c = kept_able g.D.Disk.told c.args.self.now.state c.requires.up c.args.self.now.keeps

pub invariant_of-self : goal.invariant_of-self
invariant_of-self g c = record {
  keeps = keeps_either g.D.Disk.told roles.Low c.args.self.now.state c.live.new.self c.live.result (kept_able g.D.Disk.told c.args.self.now.state c.requires.up c.args.self.now.keeps) c.live.ensures.reads c.live.ensures.able c.live.ensures.fails c.args.self.now.keeps;
}
