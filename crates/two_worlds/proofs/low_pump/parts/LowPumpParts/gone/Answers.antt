use Rattle.two_worlds.proofs.Told.Lines.{gone_stands, gone_ends}
use Rattle.two_worlds.specs.Printing.{lines_in}
use Rattle.two_worlds.proofs.low_pump.parts.LowPumpParts.gone.Goals as goal

pub look_gone-requires-clause-stands : goal.look_gone-requires-clause-stands
look_gone-requires-clause-stands c = gone_stands c.args.self.now c.lose.new.self c.lose.ensures c.requires.stands

pub returns-clause-ends : goal.returns-clause-ends
returns-clause-ends c =
    gone_ends c.args.self.now c.lose.new.self c.lose.ensures
    c.look_gone.new.self c.args.moment (lines_in c.look_gone.new.out.items) c.look_gone.result c.look_gone.ensures.ends
