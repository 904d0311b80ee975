use Rattle.std.proofs.Common.{subst, sym, ◌∙◌}
use Rattle.std.proofs.lemmas.Result.{err_from_is_err_and}
use Rattle.script_reader.specs.Highs.{IsCarried}
use Rattle.two_worlds.proofs.Lines.On.{able_on, none_kept}
use Rattle.pump_frame.specs.declared.row.SessionRow.{SessionRow}
use Rattle.two_worlds.proofs.Lines.Done as done
use Rattle.two_worlds.proofs.Disks.Together.{serve_then}
use Rattle.two_worlds.specs.Printing.{lines_in}
use Rattle.two_worlds.proofs.pump.parts.Parts.carry_back.Goals as goal

pub take_back-requires-clause-able : goal.take_back-requires-clause-able
take_back-requires-clause-able g c =
    able_on g.D.Disk.told c.args.self.now c.carry.new.self (λ p q printed. IsCarried c.args.self.now.row p 0 q printed) (lines_in c.args.out.now.items) (lines_in c.carry.new.out.items) c.requires.able c.in_ok-carry.ensures.step.works c.in_ok-carry.ensures.step.does

pub returns-in_err-carry-clause-step : goal.returns-in_err-carry-clause-step
returns-in_err-carry-clause-step g c =
    let r = err_from_is_err_and c.from_residual.result c.from_residual.ensures.1 in
    let e = c.in_err-carry.ensures.step in
    rw (r.1, r.2) (record {
      does = done.carry_ends g.D.Disk.told c.args.self.now c.carry.new.self c.args.moment (lines_in c.args.out.now.items) (lines_in c.carry.new.out.items) c.in_err-carry.field-0.0 e.does;
      works = e.works;
      serve = e.serve;
      row = e.row;
    })

pub returns-then-is_empty-clause-step : goal.returns-then-is_empty-clause-step
returns-then-is_empty-clause-step g c =
    let e = c.in_ok-carry.ensures in
    record {
      does = λ p s. absurd (none_kept c.carry.new.self.returned.items (e.returned p s) (sym c.is_empty.ensures ∙ c.if-is_empty.true));
      works = e.step.works;
      serve = e.step.serve;
      row = e.step.row;
    }

pub returns-clause-step : goal.returns-clause-step
returns-clause-step g c =
    let m = g.D.Disk.told in
    let s = c.args.self.now in
    let out = lines_in c.args.out.now.items in
    let now = lines_in c.take_back.new.out.items in
    let e = c.in_ok-carry.ensures in
    let back = c.take_back.ensures in
    let is = c.carry.ensures.step.row in
    record {
      does = done.carry_back m s c.take_back.new.self c.args.moment out now c.carry.new.self (lines_in c.carry.new.out.items) c.take_back.result
          (record { low = e.low; high = e.high; row = e.step.row; low_after = back.low; recv_after = back.recv; row_after = back.step.row })
          e.step.does
          (subst (λ (r : SessionRow). done.BackDoes m s c.take_back.new.self c.args.moment out now r c.carry.new.self (lines_in c.carry.new.out.items) c.take_back.result) is back.step.does);
      works = back.step.works;
      serve = serve_then m s c.carry.new.self c.take_back.new.self c.take_back.result e.step.serve e.high e.step.row back.step.serve;
      row = back.step.row ∙ e.step.row;
    }
