use Rattle.std.proofs.Math.Logic.{∥∥₁_map}
use Rattle.script_reader.specs.Heads.{line_with}
use Rattle.two_worlds.specs.Printing.{lines_in}
use Rattle.two_worlds.proofs.Lines.Kept.{kept_able, still_keeps, down_after, pump_applies, pump_applies_on}
use Rattle.two_worlds.proofs.pump.Pump.apply_head.Goals as goal

pub apply-requires-clause-able : goal.apply-requires-clause-able
apply-requires-clause-able g c = kept_able g.D.Disk.told c.args.self.now.state c.requires.up c.args.self.now.keeps

pub invariant_of-self : goal.invariant_of-self
invariant_of-self g c = record {
  keeps = ∥∥₁_map c.args.self.now.keeps
      (still_keeps g.D.Disk.told c.args.self.now.state c.apply.new.self (line_with c.args.bytes.now c.args.line.now) (lines_in c.apply.new.out.items) c.apply.result c.apply.ensures.row c.requires.up c.apply.ensures.applies c.apply.ensures.on);
}

pub returns-clause-applies : goal.returns-clause-applies
returns-clause-applies g c = λ told p s.
    pump_applies g.D.Disk.told c.args.self.now _ (line_with c.args.bytes.now c.args.line.now) p (lines_in c.apply.new.out.items) c.apply.result (c.apply.ensures.applies told p s)

pub returns-clause-on : goal.returns-clause-on
returns-clause-on g c =
    pump_applies_on g.D.Disk.told c.args.self.now _ (line_with c.args.bytes.now c.args.line.now) (lines_in c.apply.new.out.items) c.apply.result c.apply.ensures.on

pub returns-clause-down : goal.returns-clause-down
returns-clause-down g c =
    down_after g.D.Disk.told c.args.self.now.state c.apply.new.self (line_with c.args.bytes.now c.args.line.now) (lines_in c.apply.new.out.items) c.apply.result c.requires.up c.apply.ensures.on

pub returns-clause-ahead : goal.returns-clause-ahead
returns-clause-ahead g c = c.apply.ensures.ahead
