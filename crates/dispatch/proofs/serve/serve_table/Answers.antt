use Rattle.std.proofs.Common.{List, ℕ, [], Err, inl, inr, refl, sym, ap, subst}
use Rattle.std.proofs.KnownBytes.{Appends-trans}
use Rattle.relay_side.proofs.Unused.{is_unused}
use Rattle.command_ends.specs.Tables.{HasRow, IsRowOf}
use Rattle.disk_model.specs.declared.name.Role.{Role}
use Rattle.script_replay.specs.Failing.{FailsAt}
use Rattle.script_replay.specs.Shelves.{AllAreBack, Places}
use Rattle.command_ends.proofs.TableRows.{stops_at_table}
use Rattle.commands.proofs.Failing.{fails_later}
use Rattle.dispatch.specs.Servings.{disks, file}
use Rattle.dispatch.proofs.LiveEnded.{caused_named, status_caused, table_named, table_status}
use Rattle.dispatch.proofs.Served.{serves_row, same_places}
use Rattle.dispatch.proofs.serve.serve_table.Goals as goal

pub returns-in-Ok : goal.returns-in-Ok
returns-in-Ok g c =
    let row = c.in-Ok.row in
    let r = c.in-Ok.ensures in
    let e = c.serve_row-end in
    let f = c.finish.ensures in
    let s = g.S.Shelf.told in
    let d = g.S.Disk.Disk.told in
    let fails = FailsAt s d c.args.shelf.now e.new.shelf in
    let named : (role : Role) → FailsAt s d c.row_in_file.new.shelf e.new.shelf row.id role → fails c.args.session role = λ role failed.
    subst (λ (n : ℕ). fails n role) r.id (fails_later s d c.args.shelf.now c.row_in_file.new.shelf e.new.shelf row.id role r.disks r.disk_faults failed) in
    record {
      ends = record {
        end = e.result;
        mid = g.O.Sink.written e.new.out;
        mid_faults = g.O.Sink.faults e.new.out;
        comes = serves_row _ _ _ _ (disks s d c.row_in_file.new.shelf e.new.shelf) _ _ _ (file s c.args.shelf.now e.new.shelf c.args.table.now) fails c.args.session row e.result _ _
            (s.disk c.args.shelf.now) r.disks (caused_named _ fails c.args.session e.result named e.ensures.cause)
            (r.lawful, r.id, λ told. subst (λ (n : List ℕ). HasRow (s.file c.args.shelf.now n) c.args.session row) c.as_str.ensures.value (r.row told)) e.ensures.others e.ensures.serves;
        last = f.closes;
        later = f.later;
      };
      back = λ told. subst (λ (places : Places). AllAreBack places (s.disk e.new.shelf)) r.disks (e.ensures.back told);
      cause = status_caused (g.O.Sink.written c.args.out.now) (g.O.Sink.written e.new.out) _ (g.O.Sink.faults c.args.out.now) (g.O.Sink.faults e.new.out) _ c.args.session _ e.result e.ensures.later f.later f.closes f.cause _ e.ensures.cause _ _ _
          (Appends-trans _ _ _ [] []) inr (λ rose. rose) (λ role failed. (named role failed).0) (λ rose. rose);
    }

pub returns-in-Err : goal.returns-in-Err
returns-in-Err g c =
    let r = c.in-Err.ensures in
    let f = c.finish-in-Err.ensures in
    let s = g.S.Shelf.told in
    record {
      ends = record {
        end = c.in-Err.end;
        mid = g.O.Sink.written c.args.out.now;
        mid_faults = g.O.Sink.faults c.args.out.now;
        comes = (
          table_named (FailsAt s g.S.Disk.Disk.told c.args.shelf.now c.row_in_file.new.shelf) c.args.session c.in-Err.end r.only,
          inl (
            (
              r.only,
              λ unread. r.read (ap Err unread),
              λ told. stops_at_table (s.file c.args.shelf.now c.args.table.now) c.args.session c.in-Err.end r.only (subst (λ (n : List ℕ). IsRowOf (s.file c.args.shelf.now n) c.args.session (Err c.in-Err.end)) c.as_str.ensures.value (r.row told)),
            ),
            record { low_unused = is_unused _ _ _; high_unused = is_unused _ _ _; unwritten = refl; unchanged = λ told. same_places _ _ r.disks },
          ),
        );
        last = f.closes;
        later = f.later;
      };
      back = λ told. subst (λ (places : Places). AllAreBack (s.disk c.args.shelf.now) places) (sym r.disks) (λ name out. out);
      cause = table_status (g.O.Sink.written c.args.out.now) _ (g.O.Sink.faults c.args.out.now) _ c.args.session _ c.in-Err.end f.later f.closes f.cause _ _ _ r.only (λ unread. inl (r.read unread));
    }
