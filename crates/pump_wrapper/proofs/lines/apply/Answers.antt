use Rattle.script_reader.specs.Heads.{line_with}
use Rattle.two_worlds.specs.Printing.{lines_in}
use Rattle.pump_wrapper.proofs.Going.{goes_one, stops_one}
use Rattle.pump_wrapper.proofs.lines.apply.Goals as goal

pub returns-in-None-clause-goes : goal.returns-in-None-clause-goes
returns-in-None-clause-goes g c =
    let e = c.in-None.ensures in
    goes_one g.D.Disk.told c.args.pump.now c.apply_head.new.self (line_with c.args.bytes.now c.args.line.now) (lines_in c.apply_head.new.events.items) e.applies e.row e.serve

pub returns-in-Some-clause-goes : goal.returns-in-Some-clause-goes
returns-in-Some-clause-goes g c =
    let e = c.in-Some.ensures in
    stops_one g.D.Disk.told c.args.pump.now c.apply_head.new.self (line_with c.args.bytes.now c.args.line.now) (lines_in c.apply_head.new.events.items) c.in-Some.stop e.applies e.on e.row e.serve
