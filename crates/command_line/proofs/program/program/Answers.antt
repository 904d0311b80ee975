use Rattle.command_line.specs.Program.{bare, leaf}
use Rattle.command_line.proofs.program.program.Goals as goal

pub returns : goal.returns
returns c = c.with.ensures bare (leaf c.args.name.now c.args.ids.now) c.bare.ensures.app c.leaf.ensures.app
