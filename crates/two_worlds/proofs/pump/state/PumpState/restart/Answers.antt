use Rattle.std.proofs.Common.{[], ◌∷◌, ◌++◌, sym, ap, ◌∙◌}
use Rattle.script_reader.specs.EventHeads.{event_of}
use Rattle.two_worlds.specs.Printing.{lines_in}
use Rattle.two_worlds.proofs.Lines.Restarts.{state_still, restart_applies, restart_stops}
use Rattle.two_worlds.proofs.pump.state.PumpState.restart.Goals as goal

pub returns-then-not-is_due-clause-serve : goal.returns-then-not-is_due-clause-serve
returns-then-not-is_due-clause-serve g c = state_still g.D.Disk.told c.args.self.now c.requires.able

pub returns-in-Ok-clause-applies : goal.returns-in-Ok-clause-applies
returns-in-Ok-clause-applies g c = λ told p s.
    restart_applies g.D.Disk.told c.args.self.now c.replace_with.new.dest c.args.session c.args.moment c.in-Ok.event p (lines_in c.put.new.out.items) (sym c.if-not-is_due.ensures) s
    (c.put.ensures.items ∙ ap (λ l. lines_in l ++ event_of c.in-Ok.event ∷ []) c.clear.ensures) (c.in-Ok.ensures.0 told p s)

pub returns-in-Err-clause-applies : goal.returns-in-Err-clause-applies
returns-in-Err-clause-applies g c = λ told p s.
    restart_stops g.D.Disk.told c.args.self.now c.replace_with.new.dest c.args.session c.args.moment c.in-Err.stop p (lines_in c.clear.new.self.items) (sym c.if-not-is_due.ensures) s
    (ap (λ l. lines_in l) c.clear.ensures) (c.in-Err.ensures.0 told p s)
