use Rattle.std.proofs.Common.{ℕ, List, Err, inl, ap, subst}
use Rattle.std.proofs.KnownBytes.{Appends-nil}
use Rattle.commands.specs.LentDisks.{RecvFailsAt}
use Rattle.command_ends.specs.Tables.{HasRow, IsRowOf, IsTableEnd}
use Rattle.command_ends.specs.declared.command_end.CommandEnd.{CommandEnd}
use Rattle.script_replay.specs.Shelves.{Places, reading_in}
use Rattle.command_ends.proofs.CommandEnds.{names_failed}
use Rattle.commands.proofs.Failing.{recv_fails_later}
use Rattle.command_ends.specs.CommandEnds.{IsUnwrapEnd}
use Rattle.command_ends.proofs.TableRows.{stops_at_table, table_cause}
use Rattle.commands.proofs.Unwrapped.{unwrap_table_only, unwraps_row}
use Rattle.commands.proofs.unwrap.unwrap_session.Goals as goal

pub returns-in-Ok-clause-cause : goal.returns-in-Ok-clause-cause
returns-in-Ok-clause-cause g c =
    let r = c.in-Ok.ensures in
    let u = c.unwrap_row.ensures.cause in
    record {
      only = u.only;
      device = λ role is.
          subst (λ (n : ℕ). RecvFailsAt g.S.Shelf.told g.S.Disk.Disk.told c.args.shelf.now c.unwrap_row.new.shelf n role) r.id
          (recv_fails_later g.S.Shelf.told g.S.Disk.Disk.told c.args.shelf.now c.row_in_file.new.shelf c.unwrap_row.new.shelf c.in-Ok.row.id role r.disks r.disk_faults (u.device role is));
      read = λ is. absurd (u.read is);
      unwritten = u.unwritten;
    }

pub returns-in-Ok-clause-unwraps : goal.returns-in-Ok-clause-unwraps
returns-in-Ok-clause-unwraps g c = λ told tells.
    let row = c.in-Ok.row in
    let r = c.in-Ok.ensures in
    let fails = RecvFailsAt g.S.Shelf.told g.S.Disk.Disk.told c.args.shelf.now c.unwrap_row.new.shelf in
    unwraps_row (g.S.Shelf.told.file c.args.shelf.now c.args.table.now) (g.S.Shelf.told.disk c.args.shelf.now) (g.S.Shelf.told.disk c.row_in_file.new.shelf) (g.S.Shelf.told.disk c.unwrap_row.new.shelf) fails c.args.session row _ _ c.unwrap_row.result
    (subst (λ (n : List ℕ). HasRow (g.S.Shelf.told.file c.args.shelf.now n) c.args.session row) c.as_str.ensures.value (r.row told)) r.disks (c.unwrap_row.ensures.alike told tells)
    (names_failed fails c.args.session c.unwrap_row.result (λ role is.
    subst (λ (n : ℕ). fails n role) r.id
    (recv_fails_later g.S.Shelf.told g.S.Disk.Disk.told c.args.shelf.now c.row_in_file.new.shelf c.unwrap_row.new.shelf row.id role r.disks r.disk_faults (c.unwrap_row.ensures.cause.device role is))))
    (c.unwrap_row.ensures.unwraps told tells)

pub returns-in-Err-clause-cause : goal.returns-in-Err-clause-cause
returns-in-Err-clause-cause g c = table_cause IsUnwrapEnd _ _ _ c.in-Err.end c.in-Err.ensures.only unwrap_table_only c.in-Err.ensures.read

pub returns-in-Err-clause-unwraps : goal.returns-in-Err-clause-unwraps
returns-in-Err-clause-unwraps g c = λ told tells.
    let e = c.in-Err.ensures in
    let end = c.in-Err.end in (
      (λ name. ap (λ (places : Places). reading_in (places name)) e.disks),
      names_failed (RecvFailsAt g.S.Shelf.told g.S.Disk.Disk.told c.args.shelf.now c.row_in_file.new.shelf) c.args.session end (λ role is. absurd (subst (λ (x : CommandEnd). IsTableEnd x) is e.only)),
      inl (
        stops_at_table (g.S.Shelf.told.file c.args.shelf.now c.args.table.now) c.args.session end e.only (subst (λ (n : List ℕ). IsRowOf (g.S.Shelf.told.file c.args.shelf.now n) c.args.session (Err end)) c.as_str.ensures.value (e.row told)),
        Appends-nil _,
      ),
    )
