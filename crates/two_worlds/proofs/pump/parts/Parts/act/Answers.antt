use Rattle.std.proofs.Common.{rules, ◌≡◌, true, false, refl, sym, ap, ◌∙◌}
use Rattle.script_reader.specs.Heads.{arriving_with, act_with}
use Rattle.script_reader.specs.declared.line.Line.TheVariants as lines
use Rattle.two_worlds.specs.Printing.{lines_in}
use Rattle.two_worlds.specs.Timely.{is_timely_by}
use Rattle.two_worlds.proofs.Lines.Ran.{ran_by, test_as, tried, refused, on_time, on_time_and}
use Rattle.two_worlds.proofs.Lines.Runs.{high_runs, return_runs}
use Rattle.two_worlds.proofs.pump.parts.Parts.act.Goals as goal

pub returns-in-Look : goal.returns-in-Look
returns-in-Look g c =
    let m = g.D.Disk.told in
    let s = c.args.self.now in
    let out = c.args.out.now.items in
    let now = lines_in c.look_line.new.out.items in
    let line = act_with c.args.bytes.now s.row.id c.args.moment c.args.act.now in
    let own = lines.Look s.row.id c.args.moment c.in-Look.word (arriving_with c.args.bytes.now c.in-Look.arrival) in
    let is = ap (act_with c.args.bytes.now s.row.id c.args.moment) c.in-Look.is in
    let timely = test_as s true line own is (on_time s c.args.moment c.requires.order) in
    tried m s line out c.requires.out c.look_line.new.self now c.look_line.result own is timely
    (c.look_line.ensures)

pub returns-in-Gone : goal.returns-in-Gone
returns-in-Gone g c =
    let m = g.D.Disk.told in
    let s = c.args.self.now in
    let out = c.args.out.now.items in
    let now = lines_in c.gone_line.new.out.items in
    let line = act_with c.args.bytes.now s.row.id c.args.moment c.args.act.now in
    let own = lines.Gone s.row.id c.args.moment in
    let is = ap (act_with c.args.bytes.now s.row.id c.args.moment) c.in-Gone.is in
    let timely = test_as s true line own is (on_time s c.args.moment c.requires.order) in
    tried m s line out c.requires.out c.gone_line.new.self now c.gone_line.result own is timely
    (c.gone_line.ensures)

pub returns-in-High : goal.returns-in-High
returns-in-High g c =
    let m = g.D.Disk.told in
    let s = c.args.self.now in
    let out = c.args.out.now.items in
    let now = lines_in c.look_high.new.out.items in
    let line = act_with c.args.bytes.now s.row.id c.args.moment c.args.act.now in
    let own = lines.High s.row.id c.args.moment in
    let is = ap (act_with c.args.bytes.now s.row.id c.args.moment) c.in-High.is in
    let timely = test_as s true line own is (on_time s c.args.moment c.requires.order) in
    tried m s line out c.requires.out c.look_high.new.self now c.look_high.result own is timely
    (let d = c.look_high.new.self in
    let e = c.look_high.ensures in
    ran_by m s d own (lines_in out) now c.look_high.result tt (high_runs m s d (lines_in out) now c.look_high.result own s.row.id c.args.moment refl e.step.does) e.step.works (λ none. absurd none) e.step.serve e.step.row)

pub returns-in-Return : goal.returns-in-Return
returns-in-Return g c =
    let m = g.D.Disk.told in
    let s = c.args.self.now in
    let out = c.args.out.now.items in
    let now = lines_in c.take_back.new.out.items in
    let line = act_with c.args.bytes.now s.row.id c.args.moment c.args.act.now in
    let own = lines.Return s.row.id c.args.moment c.in-Return.back in
    let is = ap (act_with c.args.bytes.now s.row.id c.args.moment) c.in-Return.is in
    let timely = test_as s true line own is (on_time_and s c.args.moment c.requires.order _ ∙ sym c.if-can_return.ensures) in
    tried m s line out c.requires.out c.take_back.new.self now c.take_back.result own is timely
    (let d = c.take_back.new.self in
    let e = c.take_back.ensures in
    ran_by m s d own (lines_in out) now c.take_back.result tt (return_runs m s d (lines_in out) now c.take_back.result own s.row.id c.args.moment c.in-Return.back refl e.step.does) e.step.works e.ahead e.step.serve e.step.row)

pub returns-in-Done : goal.returns-in-Done
returns-in-Done g c =
    let m = g.D.Disk.told in
    let s = c.args.self.now in
    let out = c.args.out.now.items in
    let now = lines_in c.done_line.new.out.items in
    let line = act_with c.args.bytes.now s.row.id c.args.moment c.args.act.now in
    let own = lines.Done s.row.id c.args.moment c.in-Done.time in
    let is = ap (act_with c.args.bytes.now s.row.id c.args.moment) c.in-Done.is in
    let timely = test_as s true line own is (on_time_and s c.args.moment c.requires.order _ ∙ sym c.if-can_be_done.ensures) in
    tried m s line out c.requires.out c.done_line.new.self now c.done_line.result own is timely
    (let e = c.done_line.ensures in
    ran_by m s c.done_line.new.self own (lines_in out) now c.done_line.result tt e.runs e.works (λ none. absurd none) e.serve e.row)

pub returns-in_default : goal.returns-in_default
returns-in_default g c =
    let s = c.args.self.now in
    let line = act_with c.args.bytes.now s.row.id c.args.moment c.args.act.now in
    let is = ap (act_with c.args.bytes.now s.row.id c.args.moment) c.in-Return.is in
    refused g.D.Disk.told s line c.args.out.now.items c.requires.out c.requires.able
    (test_as s false line _ is (on_time_and s c.args.moment c.requires.order _ ∙ sym c.if-can_return.ensures))

pub returns-in_default-2 : goal.returns-in_default-2
returns-in_default-2 g c =
    let s = c.args.self.now in
    let line = act_with c.args.bytes.now s.row.id c.args.moment c.args.act.now in
    let is = ap (act_with c.args.bytes.now s.row.id c.args.moment) c.in-Done.is in
    refused g.D.Disk.told s line c.args.out.now.items c.requires.out c.requires.able
    (test_as s false line _ is (on_time_and s c.args.moment c.requires.order _ ∙ sym c.if-can_be_done.ensures))

pub returns-in_default-3 : goal.returns-in_default-3
returns-in_default-3 g c =
    let s = c.args.self.now in
    let line = act_with c.args.bytes.now s.row.id c.args.moment c.args.act.now in
    refused g.D.Disk.told s line c.args.out.now.items c.requires.out c.requires.able
    (let late : is_timely_by s line ≡ false = search rules in late)
