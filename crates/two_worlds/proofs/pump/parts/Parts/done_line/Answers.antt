use Rattle.std.proofs.Common.{subst, sym, None, ◌∙◌}
use Rattle.script_reader.specs.Highs.{IsHighLook}
use Rattle.two_worlds.proofs.Lines.On.{able_on, none_kept}
use Rattle.pump_frame.specs.declared.row.SessionRow.{SessionRow}
use Rattle.two_worlds.proofs.Lines.Timely.{hand_lent}
use Rattle.two_worlds.proofs.Lines.Done as done
use Rattle.two_worlds.proofs.Disks.Together.{serve_then}
use Rattle.two_worlds.specs.Printing.{lines_in}
use Rattle.two_worlds.proofs.pump.parts.Parts.done_line.Goals as goal

pub returns-then-is_none-clause-runs : goal.returns-then-is_none-clause-runs
returns-then-is_none-clause-runs g c =
    done.done_here g.D.Disk.told c.args.self.now c.look_high.new.self c.args.moment c.args.time (lines_in c.args.out.now.items) (lines_in c.look_high.new.out.items) c.in_ok-look_high.ensures.step.does
    (hand_lent c.hand.result _ c.hand.ensures.hand ∙ c.if-is_none.ensures)

pub carry_back-requires-clause-able : goal.carry_back-requires-clause-able
carry_back-requires-clause-able g c =
    able_on g.D.Disk.told c.args.self.now c.look_high.new.self (λ p q printed. IsHighLook c.args.self.now.row p c.args.moment None q printed) (lines_in c.args.out.now.items) (lines_in c.look_high.new.out.items) c.requires.able c.in_ok-look_high.ensures.step.works c.in_ok-look_high.ensures.step.does

pub carry_back-requires-clause-moment : goal.carry_back-requires-clause-moment
carry_back-requires-clause-moment g c =
    c.requires.back (c.in_ok-look_high.ensures.goes (hand_lent c.hand.result _ c.hand.ensures.hand ∙ c.if-is_none.ensures))

pub returns-clause-runs : goal.returns-clause-runs
returns-clause-runs g c =
    done.done_on g.D.Disk.told c.args.self.now c.carry_back.new.self c.args.moment c.args.time (lines_in c.args.out.now.items) (lines_in c.carry_back.new.out.items) c.look_high.new.self (lines_in c.look_high.new.out.items) c.carry_back.result
    (record { low = c.in_ok-look_high.ensures.low; high = c.in_ok-look_high.ensures.high; recv = c.in_ok-look_high.ensures.recv; row = c.in_ok-look_high.ensures.step.row; low_after = c.carry_back.ensures.low })
    c.in_ok-look_high.ensures.step.does
    (hand_lent c.hand.result _ c.hand.ensures.hand ∙ c.if-is_none.ensures)
    (subst (λ (r : SessionRow). done.BackFrom g.D.Disk.told c.carry_back.new.self c.args.moment c.args.time (lines_in c.carry_back.new.out.items) r c.look_high.new.self (lines_in c.look_high.new.out.items) c.carry_back.result) c.look_high.ensures.step.row c.carry_back.ensures.step.does)

pub returns-clause-serve : goal.returns-clause-serve
returns-clause-serve g c =
    serve_then g.D.Disk.told c.args.self.now c.look_high.new.self c.carry_back.new.self c.carry_back.result c.in_ok-look_high.ensures.step.serve c.in_ok-look_high.ensures.high c.in_ok-look_high.ensures.step.row c.carry_back.ensures.step.serve

pub returns-then-is_empty-clause-runs : goal.returns-then-is_empty-clause-runs
returns-then-is_empty-clause-runs g c = λ p s.
    let some = done.has_packet g.D.Disk.told c.args.self.now c.look_high.new.self c.args.moment c.args.time (lines_in c.args.out.now.items) (lines_in c.look_high.new.out.items) c.look_high.new.self (lines_in c.look_high.new.out.items) c.in_ok-look_high.ensures.step.does
    (hand_lent c.hand.result _ c.hand.ensures.hand ∙ c.if-is_none.ensures) p s in
    absurd (none_kept c.look_high.new.self.sent.items some (sym c.is_empty.ensures ∙ c.if-is_empty.true))
