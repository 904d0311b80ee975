use Rattle.std.proofs.Common.{ℕ, List, Err, inl, inr, subst}
use Rattle.command_ends.specs.CommandEnds.{IsWrapEnd}
use Rattle.command_ends.specs.Tables.{HasRow, IsRowOf}
use Rattle.script_replay.specs.Failing.{FailsAt}
use Rattle.commands.proofs.Failing.{fails_later}
use Rattle.command_ends.proofs.TableRows.{stops_at_file, table_cause}
use Rattle.commands.proofs.Wrapped.{wrap_table_only, wraps_row}
use Rattle.commands.proofs.wrap.wrap_in_table.Goals as goal

pub returns-in-Ok-clause-wraps : goal.returns-in-Ok-clause-wraps
returns-in-Ok-clause-wraps g c = λ told tells.
    let row = c.in-Ok.row in
    let r = c.in-Ok.ensures in
    wraps_row _ _ (g.S.Shelf.told.file c.args.shelf.now c.args.table.now) (g.S.Shelf.told.disk c.args.shelf.now) (g.S.Shelf.told.disk c.row_in_file.new.shelf) (g.S.Shelf.told.disk c.wrap_row.new.shelf) c.args.session row _ _ c.wrap_row.result
    (subst (λ (n : List ℕ). HasRow (g.S.Shelf.told.file c.args.shelf.now n) c.args.session row) c.as_str.ensures.value (r.row told)) r.disks (c.wrap_row.ensures.wraps told tells)

pub returns-in-Err-clause-wraps : goal.returns-in-Err-clause-wraps
returns-in-Err-clause-wraps g c = λ told tells.
    let e = c.in-Err.ensures in
    inl (
      stops_at_file (g.S.Shelf.told.file c.args.shelf.now c.args.table.now) _ _ c.args.session c.in-Err.end e.only
          (subst (λ (n : List ℕ). IsRowOf (g.S.Shelf.told.file c.args.shelf.now n) c.args.session (Err c.in-Err.end)) c.as_str.ensures.value (e.row told)) e.read,
      e.disks,
    )

pub returns-in-Ok-clause-cause : goal.returns-in-Ok-clause-cause
returns-in-Ok-clause-cause g c =
    let r = c.in-Ok.ensures in
    let w = c.wrap_row.ensures.cause in
    record {
      only = w.only;
      device = λ role is.
          subst (λ (n : ℕ). FailsAt g.S.Shelf.told g.S.Disk.Disk.told c.args.shelf.now c.wrap_row.new.shelf n role) r.id
          (fails_later g.S.Shelf.told g.S.Disk.Disk.told c.args.shelf.now c.row_in_file.new.shelf c.wrap_row.new.shelf c.in-Ok.row.id role r.disks r.disk_faults (w.device role is));
      read = λ is. inr (w.read is);
      unwritten = w.unwritten;
    }

pub returns-in-Err-clause-cause : goal.returns-in-Err-clause-cause
returns-in-Err-clause-cause g c = table_cause IsWrapEnd _ _ _ c.in-Err.end c.in-Err.ensures.only wrap_table_only (λ is. inl (c.in-Err.ensures.read is))
