use Rattle.std.proofs.Common.{◌≡◌, true, Option, Some, sym, ◌∙◌, subst}
use Rattle.script_reader.specs.declared.line.Line.TheVariants as lines
use Rattle.two_worlds.specs.declared.applied.Stop.{Stop}
use Rattle.two_worlds.specs.Printing.{lines_in}
use Rattle.two_worlds.specs.Private.Restarting.{is_due_in}
use Rattle.two_worlds.specs.Private.StateSteps.{StateApplies, StateAppliesOn}
use Rattle.two_worlds.specs.Rooms.{DisksGo}
use Rattle.two_worlds.specs.States.{disks_in}
use Rattle.two_worlds.proofs.Lines.Restarts.{state_still}
use Rattle.two_worlds.proofs.Reopening.Attached.{stopped, stopped_on, able_again, applied, applied_on, disks_go}
use Rattle.two_worlds.proofs.pump.state.PumpState.restart_receiver.Goals as goal

pub returns-then-not-is_due-clause-serve : goal.returns-then-not-is_due-clause-serve
returns-then-not-is_due-clause-serve g c = state_still g.D.Disk.told c.args.self.now c.requires.able

pub returns-in-Err-clause-applies : goal.returns-in-Err-clause-applies
returns-in-Err-clause-applies g c = λ told p s.
    let m = g.D.Disk.told in
    let t = c.replace_with.new.dest in
    let due : is_due_in c.args.self.now c.args.session c.args.moment ≡ true = sym c.is_due.ensures ∙ c.if-not-is_due.false in
    subst (λ (l : _). StateApplies m c.args.self.now t (lines.ReceiverRestart c.args.session c.args.moment) p (lines_in l) (Some c.in-Err.stop)) (sym c.clear.ensures)
    (stopped m c.args.self.now t c.args.session c.args.moment due c.in-Err.stop c.in-Err.ensures told p s)

pub returns-in-Err-clause-on : goal.returns-in-Err-clause-on
returns-in-Err-clause-on g c =
    let m = g.D.Disk.told in
    let t = c.replace_with.new.dest in
    let due : is_due_in c.args.self.now c.args.session c.args.moment ≡ true = sym c.is_due.ensures ∙ c.if-not-is_due.false in
    subst (λ (l : _). StateAppliesOn m c.args.self.now t (lines.ReceiverRestart c.args.session c.args.moment) (lines_in l) (Some c.in-Err.stop)) (sym c.clear.ensures)
    (stopped_on m c.args.self.now t c.args.session c.args.moment due c.in-Err.stop c.in-Err.ensures)

pub attach-requires-clause-able : goal.attach-requires-clause-able
attach-requires-clause-able g c = able_again g.D.Disk.told c.args.self.now c.replace_with.new.dest c.requires.able c.in_default.ensures

pub returns-clause-applies : goal.returns-clause-applies
returns-clause-applies g c = λ told p s.
    let m = g.D.Disk.told in
    let t = c.attach.new.self in
    let printed = lines_in c.attach.new.out.items in
    let due : is_due_in c.args.self.now c.args.session c.args.moment ≡ true = sym c.is_due.ensures ∙ c.if-not-is_due.false in
    subst (λ (stop : Option Stop). StateApplies m c.args.self.now t (lines.ReceiverRestart c.args.session c.args.moment) p printed stop) (sym c.err.ensures.value)
    (applied m c.args.self.now c.replace_with.new.dest t c.args.session c.args.moment printed c.attach.result due c.in_default.ensures c.attach.ensures told p s)

pub returns-clause-on : goal.returns-clause-on
returns-clause-on g c =
    let m = g.D.Disk.told in
    let t = c.attach.new.self in
    let printed = lines_in c.attach.new.out.items in
    let due : is_due_in c.args.self.now c.args.session c.args.moment ≡ true = sym c.is_due.ensures ∙ c.if-not-is_due.false in
    subst (λ (stop : Option Stop). StateAppliesOn m c.args.self.now t (lines.ReceiverRestart c.args.session c.args.moment) printed stop) (sym c.err.ensures.value)
    (applied_on m c.args.self.now c.replace_with.new.dest t c.args.session c.args.moment printed c.attach.result due c.in_default.ensures c.attach.ensures)

pub returns-clause-serve : goal.returns-clause-serve
returns-clause-serve g c =
    let m = g.D.Disk.told in
    let own = disks_in c.args.self.now in
    let left = disks_in c.attach.new.self in
    subst (λ (stop : Option Stop). DisksGo m own.row own.low own.high own.recv left.low left.high left.recv stop) (sym c.err.ensures.value)
    (disks_go m c.args.self.now c.replace_with.new.dest c.attach.new.self c.args.moment (lines_in c.attach.new.out.items) c.attach.result c.in_default.ensures c.attach.ensures)
