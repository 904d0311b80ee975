use Rattle.std.proofs.Common.{List, ℕ, sym, subst}
use Rattle.pump_frame.specs.Counts.{Rose}
use Rattle.commands.specs.ReadDisks.{disk_file}
use Rattle.commands.specs.Telling.{TellsStatus}
use Rattle.command_ends.specs.declared.command_end.CommandEnd.TheVariants as ends
use Rattle.command_ends.proofs.CommandEnds.{closed_cause, done_cause, ends_so}
use Rattle.command_ends.specs.CommandEnds.{IsSessionEnd}
use Rattle.commands.proofs.status.tell_status.Goals as goal

pub returns-in-Ok-clause-ends : goal.returns-in-Ok-clause-ends
returns-in-Ok-clause-ends g c = λ told.
    let Writes = TellsStatus (g.S.Shelf.told.file c.args.shelf.now c.args.table.now) (disk_file (g.S.Shelf.told.file c.args.shelf.now) c.args.session) (Rose (g.S.Shelf.told.faults c.args.shelf.now) (g.S.Shelf.told.faults c.status_text.new.shelf)) c.args.session in
    ends_so Writes (λ output h. h) _ _ _ _ _ ends.Done c.close.result c.close.ensures (subst (λ (b : List ℕ). Writes ends.Done b) (sym c.as_slice.ensures.value) (c.in-Ok.ensures.text told))

pub returns-in-Err-clause-ends : goal.returns-in-Err-clause-ends
returns-in-Err-clause-ends g c = λ told.
    ends_so (TellsStatus (g.S.Shelf.told.file c.args.shelf.now c.args.table.now) (disk_file (g.S.Shelf.told.file c.args.shelf.now) c.args.session) (Rose (g.S.Shelf.told.faults c.args.shelf.now) (g.S.Shelf.told.faults c.status_text.new.shelf)) c.args.session) (λ output h. h) _ _ _ _ _ c.in-Err.end c.write_end.result c.write_end.ensures (c.in-Err.ensures.stops told)

pub returns-in-Ok-clause-cause : goal.returns-in-Ok-clause-cause
returns-in-Ok-clause-cause g c = done_cause _ _ _ _ _ _ _ c.close.result c.close.ensures

pub returns-in-Err-clause-cause : goal.returns-in-Err-clause-cause
returns-in-Err-clause-cause g c = closed_cause IsSessionEnd _ _ _ _ _ _ _ _ c.in-Err.end c.write_end.result tt c.write_end.ensures c.in-Err.ensures.cause (λ role rose. rose)
