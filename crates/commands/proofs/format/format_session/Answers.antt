use Rattle.std.proofs.Common.{◌≡◌, List, ℕ, sym, ◌∙◌, subst}
use Rattle.commands.specs.Formatting.{Formats, formatted_line}
use Rattle.command_ends.specs.declared.command_end.CommandEnd.TheVariants as ends
use Rattle.command_ends.proofs.CommandEnds.{closed_cause, done_cause, ends_so}
use Rattle.command_ends.specs.CommandEnds.{IsSessionEnd}
use Rattle.script_replay.specs.Failing.{FailsAt}
use Rattle.commands.proofs.format.format_session.Goals as goal

pub returns-in-Ok-clause-ends : goal.returns-in-Ok-clause-ends
returns-in-Ok-clause-ends g c = λ told tells.
    let Writes = Formats (g.S.Shelf.told.file c.args.shelf.now c.args.table.now) (g.S.Shelf.told.disk c.args.shelf.now) (g.S.Shelf.told.disk c.format_row.new.shelf) (FailsAt g.S.Shelf.told g.S.Disk.Disk.told c.args.shelf.now c.format_row.new.shelf) c.args.session in
    let line : c.as_slice.result.now ≡ formatted_line c.args.session = c.as_slice.ensures.value ∙ c.put_formatted.ensures in
    ends_so Writes (λ output h. h) _ _ _ _ _ ends.Done c.close.result c.close.ensures (subst (λ (b : List ℕ). Writes ends.Done b) (sym line) (c.in-Ok.ensures.formats told tells))

pub returns-in-Err-clause-ends : goal.returns-in-Err-clause-ends
returns-in-Err-clause-ends g c = λ told tells.
    ends_so (Formats (g.S.Shelf.told.file c.args.shelf.now c.args.table.now) (g.S.Shelf.told.disk c.args.shelf.now) (g.S.Shelf.told.disk c.format_row.new.shelf) (FailsAt g.S.Shelf.told g.S.Disk.Disk.told c.args.shelf.now c.format_row.new.shelf) c.args.session) (λ output h. h) _ _ _ _ _ c.in-Err.end c.write_end.result c.write_end.ensures (c.in-Err.ensures.formats told tells)

pub returns-in-Ok-clause-cause : goal.returns-in-Ok-clause-cause
returns-in-Ok-clause-cause g c = done_cause _ _ _ _ _ _ _ c.close.result c.close.ensures

pub returns-in-Err-clause-cause : goal.returns-in-Err-clause-cause
returns-in-Err-clause-cause g c = closed_cause IsSessionEnd _ _ _ _ _ _ _ _ c.in-Err.end c.write_end.result tt c.write_end.ensures c.in-Err.ensures.cause (λ role fails. fails.0)
