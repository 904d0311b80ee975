use Rattle.script_reader.specs.Heads.{arriving_with}
use Rattle.two_worlds.proofs.Told.Lines.{told_stands, told_ends}
use Rattle.two_worlds.specs.Printing.{lines_in}
use Rattle.two_worlds.proofs.low_pump.parts.LowPumpParts.told.Goals as goal

pub look_first-requires-clause-stands : goal.look_first-requires-clause-stands
look_first-requires-clause-stands c =
    told_stands c.args.self.now c.join.new.self c.arm.new.store c.args.fault (arriving_with c.args.bytes.now c.args.arriving.now) c.if-not-join.ensures c.arm.ensures c.requires.stands

pub returns-clause-ends : goal.returns-clause-ends
returns-clause-ends c =
    told_ends c.args.self.now c.join.new.self c.arm.new.store c.args.fault (arriving_with c.args.bytes.now c.args.arriving.now) c.if-not-join.ensures c.arm.ensures
    c.look_first.new.self c.args.moment c.args.word c.args.told (lines_in c.look_first.new.out.items) c.look_first.result c.look_first.ensures.ends
