use Rattle.script_reader.specs.Heads.{line_with}
use Rattle.two_worlds.specs.Printing.{lines_in}
use Rattle.exercises.proofs.Exercised.{never_stops, leads_pump}
use Rattle.exercises.proofs.exercising.apply.Goals as goal

pub unreachable-requires : goal.unreachable-requires
unreachable-requires c =
    let e = c.in-Some.ensures in
    let can = c.requires.can in
    never_stops c.args.pump.now c.apply_head.new.self (line_with c.args.bytes.now c.args.line.now) can.0 (lines_in c.apply_head.new.events.items) c.in-Some.field-0 c.requires.ready can.2
    (e.applies tt can.0 can.1) e.serve

pub returns-clause-leads : goal.returns-clause-leads
returns-clause-leads c = λ past stands.
    let e = c.in-None.ensures in
    leads_pump c.args.pump.now c.apply_head.new.self (line_with c.args.bytes.now c.args.line.now) past (lines_in c.apply_head.new.events.items) c.requires.ready (e.applies tt past stands)
