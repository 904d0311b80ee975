use Rattle.std.proofs.Common.{rules, ◌≡◌, ℕ, true, false, refl, sym, ap, ◌∙◌, subst}
use Rattle.script_reader.specs.Heads.{act_with, line_with}
use Rattle.script_reader.specs.Lawful.{IsLawfulLine}
use Rattle.script_reader.specs.declared.line.Line.TheVariants as lines
use Rattle.two_worlds.specs.Printing.{lines_in}
use Rattle.two_worlds.specs.Private.LineSteps.{Tried}
use Rattle.two_worlds.specs.Timely.{is_timely_by, opens_again}
use Rattle.two_worlds.proofs.Lines.Ran.{ran_by, test_as, tried, refused, own_session}
use Rattle.two_worlds.proofs.Lines.Runs.{carry_runs}
use Rattle.two_worlds.proofs.Lines.Timely.{late_act}
use Rattle.two_worlds.proofs.pump.parts.Parts.apply.Goals as goal

pub act-requires-clause-lawful : goal.act-requires-clause-lawful
act-requires-clause-lawful g c =
    let at = c.in-At in
    let own = own_session c.args.self.now at.session _ c.if-is_timely.ensures in
    subst (λ (n : ℕ). IsLawfulLine (act_with c.args.bytes.now n at.moment at.act)) own (rw at.is at c.requires.lawful)

pub act-requires-clause-stays : goal.act-requires-clause-stays
act-requires-clause-stays g c =
    let at = c.in-At in
    let own = own_session c.args.self.now at.session _ c.if-is_timely.ensures in
    subst (λ (n : ℕ). opens_again (act_with c.args.bytes.now n at.moment at.act) ≡ false) own (rw at.is at c.requires.stays)

pub returns-in-At : goal.returns-in-At
returns-in-At g c =
    let at = c.in-At in
    let own = own_session c.args.self.now at.session _ c.if-is_timely.ensures in
    let is = ap (line_with c.args.bytes.now) at.is ∙ ap (λ (n : ℕ). act_with c.args.bytes.now n at.moment at.act) own in
    subst (λ line. Tried g.D.Disk.told c.args.self.now c.act.new.self line (lines_in c.act.new.out.items) c.act.result) (sym is) c.act.ensures

pub returns-in-Carry : goal.returns-in-Carry
returns-in-Carry g c =
    let m = g.D.Disk.told in
    let s = c.args.self.now in
    let d = c.carry.new.self in
    let line = line_with c.args.bytes.now c.args.line.now in
    let own = lines.Carry c.in-Carry.session c.in-Carry.back in
    let out = lines_in c.clear.new.self.items in
    let now = lines_in c.carry.new.out.items in
    let is = ap (line_with c.args.bytes.now) c.in-Carry.is in
    let e = c.carry.ensures in
    tried m s line c.clear.new.self.items c.clear.ensures d now c.carry.result own is (test_as s true line own is (sym c.if-can_carry.ensures))
    (ran_by m s d own out now c.carry.result tt (carry_runs m s d out now c.carry.result own c.in-Carry.session c.in-Carry.back refl e.step.does) e.step.works e.ahead e.step.serve e.step.row)

pub returns-in_default : goal.returns-in_default
returns-in_default g c =
    let s = c.args.self.now in
    let at = c.in-At in
    let line = line_with c.args.bytes.now c.args.line.now in
    let is = ap (line_with c.args.bytes.now) at.is in
    refused g.D.Disk.told s line c.clear.new.self.items c.clear.ensures c.requires.able
    (test_as s false line _ is (late_act s c.args.bytes.now at.session at.moment at.act (sym c.if-is_timely.ensures)))

pub returns-in_default-2 : goal.returns-in_default-2
returns-in_default-2 g c =
    let line = line_with c.args.bytes.now c.args.line.now in
    let is = ap (line_with c.args.bytes.now) c.in-Carry.is in
    refused g.D.Disk.told c.args.self.now line c.clear.new.self.items c.clear.ensures c.requires.able
    (test_as c.args.self.now false line _ is (sym c.if-can_carry.ensures))

pub returns-in_default-3 : goal.returns-in_default-3
returns-in_default-3 g c =
    let s = c.args.self.now in
    let line = line_with c.args.bytes.now c.args.line.now in
    refused g.D.Disk.told s line c.clear.new.self.items c.clear.ensures c.requires.able
    (let late : is_timely_by s line ≡ false = search rules in late)
