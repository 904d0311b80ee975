use Rattle.std.proofs.Common.{refl}
use Rattle.script_replay.specs.Failing.{FailsAt}
use Rattle.command_ends.specs.CommandEnds.{IsWrapEnd}
use Rattle.command_ends.proofs.CommandEnds.{closed_cause, names_failed, other_ends}
use Rattle.commands.specs.Wrapping.{WrapsAll}
use Rattle.commands.proofs.wrap.wrap_session.Goals as goal

pub returns-clause-ends : goal.returns-clause-ends
returns-clause-ends g c = λ told tells.
    let end = c.wrap_in_table-end in
    let fails = FailsAt g.S.Shelf.told g.S.Disk.Disk.told c.args.shelf.now end.new.shelf in
    other_ends
    (WrapsAll (g.S.Shelf.told.faults c.args.shelf.now) (g.S.Shelf.told.faults end.new.shelf) (g.S.Shelf.told.file c.args.shelf.now c.args.table.now) (g.S.Shelf.told.disk c.args.shelf.now) (g.S.Shelf.told.disk end.new.shelf) fails c.args.session (g.I.Source.left c.args.file.now) (g.I.Source.left end.new.file))
    _ _ _ _ _ end.result c.write_end.result end.ensures.cause.unwritten c.write_end.ensures (end.ensures.wraps told tells, end.ensures.gave, names_failed fails c.args.session end.result end.ensures.cause.device, refl)

pub returns-clause-cause : goal.returns-clause-cause
returns-clause-cause g c = closed_cause IsWrapEnd _ _ _ _ _ _ _ _ c.wrap_in_table-end.result c.write_end.result tt c.write_end.ensures c.wrap_in_table-end.ensures.cause (λ role fails. fails)
