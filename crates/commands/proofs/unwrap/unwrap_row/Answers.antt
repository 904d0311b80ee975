use Rattle.std.proofs.Common.{ℕ, List, inr, sym, ◌∙◌, ap, subst}
use Rattle.disk_model.specs.Shelf.{OnShelf}
use Rattle.disk_model.specs.declared.name.Role.TheVariants as roles
use Rattle.script_replay.proofs.Shelving.{read_in}
use Rattle.commands.specs.Unwrapping.{UnwrapsOn}
use Rattle.command_ends.specs.CommandEnds.{IsUnwrapEnd}
use Rattle.commands.proofs.Caused.{at_shelf, disk_cause}
use Rattle.commands.proofs.Unwrapped.{unwrap_disk_only}
use Rattle.commands.proofs.Failing.{recv_came_back, recv_untaken_names}
use Rattle.commands.proofs.LentDisks.{alike}
use Rattle.commands.proofs.unwrap.unwrap_row.Goals as goal

pub returns-clause-unwraps : goal.returns-clause-unwraps
returns-clause-unwraps g c = λ told tells.
    inr (
      c.if-row-lt9.false,
      subst (λ (found : List ℕ). UnwrapsOn c.args.row.now found (g.O.Sink.written c.args.out.now) (g.O.Sink.written c.unwrap_on-unwrapped.new.out) c.unwrap_on-unwrapped.result.end)
          (sym (read_in _ _ (c.in-Ok.ensures.read told))) (c.unwrap_on-unwrapped.ensures.unwraps tells),
    )

pub returns-clause-alike : goal.returns-clause-alike
returns-clause-alike g c = λ told tells.
    alike (g.S.Shelf.told.disk c.args.shelf.now) (g.S.Shelf.told.disk c.take_disk.new.shelf) (g.S.Shelf.told.disk c.put_disk_back.new.shelf) c.args.row.now.id roles.Recv c.take_disk.ensures.others c.put_disk_back.ensures.others
    _ (c.in-Ok.ensures.read told) (c.put_disk_back.ensures.back told ∙ ap OnShelf (c.unwrap_on-unwrapped.ensures.same tells))

pub returns-then-row-lt9-clause-cause : goal.returns-then-row-lt9-clause-cause
returns-then-row-lt9-clause-cause g c = record {
  only = tt;
  device = λ role is. absurd (cc);
  read = λ is. absurd (cc);
  unwritten = λ is. absurd (cc);
}

pub returns-clause-cause : goal.returns-clause-cause
returns-clause-cause g c =
    let u = c.unwrap_on-unwrapped in
    record {
      only = u.ensures.only;
      device = λ role is.
          recv_came_back g.S.Shelf.told g.S.Disk.Disk.told c.args.shelf.now c.take_disk.new.shelf c.put_disk_back.new.shelf c.args.row.now.id c.in-Ok.disk u.result.disk c.in-Ok.ensures.out (u.ensures.device role is)
          c.take_disk.ensures.later c.put_disk_back.ensures.rises c.put_disk_back.ensures.back role (u.ensures.role role is);
      read = u.ensures.unread;
      unwritten = u.ensures.unwritten;
    }

pub returns-in-Err-clause-cause : goal.returns-in-Err-clause-cause
returns-in-Err-clause-cause g c =
    let e = c.in-Err.ensures in
    let u = c.untaken.ensures in
    disk_cause IsUnwrapEnd _ _ _ c.untaken.result (at_shelf c.in-Err.not_taken.fault c.in-Err.not_taken.role c.untaken.result u.memory u.failed) unwrap_disk_only
    (recv_untaken_names g.S.Shelf.told g.S.Disk.Disk.told c.args.shelf.now c.take_disk.new.shelf c.args.row.now.id c.in-Err.not_taken.role c.in-Err.not_taken.fault c.untaken.result e.role u.memory u.failed e.none e.cause)
