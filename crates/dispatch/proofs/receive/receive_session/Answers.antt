use Rattle.std.proofs.Common.{List, ℕ, [], Err, inl, refl, sym, subst}
use Rattle.std.proofs.KnownBytes.{Appends-trans}
use Rattle.pump_link.proofs.Grown.{Grows-nil}
use Rattle.command_ends.specs.Tables.{HasRow, IsRowOf}
use Rattle.disk_model.specs.declared.name.Role.{Role}
use Rattle.commands.specs.LentDisks.{RecvFailsAt}
use Rattle.script_replay.specs.Shelves.{AllAreBack, Places}
use Rattle.command_ends.proofs.TableRows.{stops_at_table}
use Rattle.commands.proofs.Failing.{recv_fails_later}
use Rattle.dispatch.proofs.LiveEnded.{caused_named, status_caused, table_named, table_status}
use Rattle.dispatch.proofs.Received.{receives_row}
use Rattle.dispatch.proofs.receive.receive_session.Goals as goal

pub returns-in-Ok : goal.returns-in-Ok
returns-in-Ok g c =
    let row = c.in-Ok.row in
    let r = c.in-Ok.ensures in
    let e = c.receive_row-end in
    let f = c.finish.ensures in
    let s = g.S.Shelf.told in
    let fails = RecvFailsAt s g.S.Disk.Disk.told c.args.shelf.now e.new.shelf in
    let named : (role : Role) → RecvFailsAt s g.S.Disk.Disk.told c.row_in_file.new.shelf e.new.shelf row.id role → fails c.args.session role = λ role failed.
    subst (λ (n : ℕ). fails n role) r.id (recv_fails_later s g.S.Disk.Disk.told c.args.shelf.now c.row_in_file.new.shelf e.new.shelf row.id role r.disks r.disk_faults failed) in
    record {
      ends = λ told tells. record {
        end = e.result;
        mid = g.O.Sink.written e.new.out;
        mid_faults = g.O.Sink.faults e.new.out;
        comes = receives_row _ _ _ _ _ _ (s.file c.args.shelf.now c.args.table.now) (s.disk c.args.shelf.now) (s.disk c.row_in_file.new.shelf) (s.disk e.new.shelf) fails c.args.session row e.result _ _ (caused_named _ fails c.args.session e.result named e.ensures.cause)
            (subst (λ (n : List ℕ). HasRow (s.file c.args.shelf.now n) c.args.session row) c.as_str.ensures.value (r.row told)) r.disks e.ensures.others (e.ensures.receives told tells);
        last = f.closes;
        later = f.later;
      };
      back = λ told. subst (λ (places : Places). AllAreBack places (s.disk e.new.shelf)) r.disks (e.ensures.back told);
      cause = status_caused (g.O.Sink.written c.args.out.now) (g.O.Sink.written e.new.out) _ (g.O.Sink.faults c.args.out.now) (g.O.Sink.faults e.new.out) _ c.args.session _ e.result e.ensures.later f.later f.closes f.cause _ e.ensures.cause _ _ _
          (Appends-trans _ _ _ [] []) (λ none. absurd none) (λ rose. rose) (λ role failed. (named role failed).1) (λ rose. rose);
    }

pub returns-in-Err : goal.returns-in-Err
returns-in-Err g c =
    let r = c.in-Err.ensures in
    let f = c.finish-in-Err.ensures in
    let s = g.S.Shelf.told in
    record {
      ends = λ told tells. record {
        end = c.in-Err.end;
        mid = g.O.Sink.written c.args.out.now;
        mid_faults = g.O.Sink.faults c.args.out.now;
        comes = (
          table_named (RecvFailsAt s g.S.Disk.Disk.told c.args.shelf.now c.row_in_file.new.shelf) c.args.session c.in-Err.end r.only,
          inl (stops_at_table (s.file c.args.shelf.now c.args.table.now) c.args.session c.in-Err.end r.only (subst (λ (n : List ℕ). IsRowOf (s.file c.args.shelf.now n) c.args.session (Err c.in-Err.end)) c.as_str.ensures.value (r.row told)), r.disks, Grows-nil _, refl),
        );
        last = f.closes;
        later = f.later;
      };
      back = λ told. subst (λ (places : Places). AllAreBack (s.disk c.args.shelf.now) places) (sym r.disks) (λ name out. out);
      cause = table_status (g.O.Sink.written c.args.out.now) _ (g.O.Sink.faults c.args.out.now) _ c.args.session _ c.in-Err.end f.later f.closes f.cause _ _ _ r.only r.read;
    }
