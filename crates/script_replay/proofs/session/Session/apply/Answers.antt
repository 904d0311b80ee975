use Rattle.script_reader.specs.Heads.{line_with}
use Rattle.two_worlds.specs.Printing.{lines_in}
use Rattle.script_reader.specs.Scripts.{Alone}
use Rattle.script_replay.proofs.Going.{whole_applies, whole_with, whole_failed, alone_applies}
use Rattle.script_replay.proofs.Told.{whole_alone}
use Rattle.script_replay.proofs.session.Session.apply.Goals as goal

pub returns-in-Whole-clause-applies : goal.returns-in-Whole-clause-applies
returns-in-Whole-clause-applies g c = λ tells.
    whole_applies _ tells c.args.self.now c.in-Whole.id c.in-Whole.pump c.apply_head.new.self (line_with c.args.body.now c.args.line.now) (lines_in c.apply_head.new.events.items) c.apply_head.result c.in-Whole.is c.requires.some c.requires.later (rw c.as_slice.ensures.value at (c.apply_head.ensures.applies tells))
    c.apply_head.ensures.down c.apply_head.ensures.row

pub returns-in-Whole-clause-with : goal.returns-in-Whole-clause-with
returns-in-Whole-clause-with g c = whole_with _ c.args.self.now c.in-Whole.id c.in-Whole.pump c.apply_head.new.self c.apply_head.result c.in-Whole.is c.apply_head.ensures.serve

pub returns-in-Whole-clause-failed : goal.returns-in-Whole-clause-failed
returns-in-Whole-clause-failed g c = whole_failed _ c.args.self.now c.in-Whole.id c.in-Whole.pump c.apply_head.new.self c.apply_head.result c.in-Whole.is c.apply_head.ensures.serve

pub returns-in-Alone-clause-applies : goal.returns-in-Alone-clause-applies
returns-in-Alone-clause-applies g c = λ tells.
    alone_applies _ c.args.self.now c.in-Alone.id c.in-Alone.pump c.apply_head-in-Alone.new.self (line_with c.args.body.now c.args.line.now) (lines_in c.apply_head-in-Alone.new.events.items) c.apply_head-in-Alone.result c.in-Alone.is c.requires.some c.requires.later
    (rw c.as_slice-in-Alone.ensures.value at c.apply_head-in-Alone.ensures.applies) c.apply_head-in-Alone.ensures.down c.apply_head-in-Alone.ensures.row

pub returns-in-Whole-clause-alone : goal.returns-in-Whole-clause-alone
returns-in-Whole-clause-alone g c = λ s stands. absurd (whole_alone g.D.Disk.told c.args.self.now c.in-Whole.id c.in-Whole.pump c.in-Whole.is s stands)

pub returns-in-Alone-clause-alone : goal.returns-in-Alone-clause-alone
returns-in-Alone-clause-alone g c = λ s.
    alone_applies g.D.Disk.told c.args.self.now c.in-Alone.id c.in-Alone.pump c.apply_head-in-Alone.new.self (line_with c.args.body.now c.args.line.now) (lines_in c.apply_head-in-Alone.new.events.items) c.apply_head-in-Alone.result c.in-Alone.is c.requires.some c.requires.later
    (rw c.as_slice-in-Alone.ensures.value at c.apply_head-in-Alone.ensures.applies) c.apply_head-in-Alone.ensures.down c.apply_head-in-Alone.ensures.row (Alone s)
