use Rattle.std.proofs.Common.{List, ℕ, Err, inl, inr, refl, subst}
use Rattle.pump_link.proofs.Grown.{Grows-nil}
use Rattle.command_ends.specs.Tables.{HasRow, IsRowOf}
use Rattle.command_ends.proofs.TableRows.{stops_at_file}
use Rattle.dispatch.proofs.Appended.{appender_causes, told_caused}
use Rattle.dispatch.proofs.LiveEnded.{status_caused, table_status}
use Rattle.dispatch.proofs.append.append_session.Goals as goal

pub returns-in-Ok : goal.returns-in-Ok
returns-in-Ok g c =
    let r = c.in-Ok.ensures in
    let e = c.append_over-end in
    let f = c.finish.ensures in
    let a = e.ensures.appends in
    let causes = appender_causes (g.I.Source.faults c.args.script.now) (g.I.Source.faults e.new.script) (g.O.Sink.faults c.args.out.now) (g.O.Sink.faults e.new.out) in
    let is_caused = told_caused causes c.in-Ok.row.id a.lines a.next a.acked (g.O.Sink.written e.new.out) e.result a.unread a.unwritten a.came a.tells in
    record {
      ends = λ told. record {
        end = e.result;
        mid = g.O.Sink.written e.new.out;
        mid_faults = g.O.Sink.faults e.new.out;
        comes = inr (c.in-Ok.row, subst (λ (n : List ℕ). HasRow (g.S.Shelf.told.file c.args.shelf.now n) c.args.session c.in-Ok.row) c.as_str.ensures.value (r.row told), e.ensures.appends);
        last = f.closes;
        later = f.later;
      };
      cause = status_caused (g.O.Sink.written c.args.out.now) (g.O.Sink.written e.new.out) _ (g.O.Sink.faults c.args.out.now) (g.O.Sink.faults e.new.out) _ c.args.session _ e.result e.ensures.later f.later f.closes f.cause causes is_caused _ _ _
          (λ none. absurd none) inr (λ rose. rose) (λ role none. none) (λ none. none);
      disks = r.disks;
    }

pub returns-in-Err : goal.returns-in-Err
returns-in-Err g c =
    let r = c.in-Err.ensures in
    let f = c.finish-in-Err.ensures in
    record {
      ends = λ told. record {
        end = c.in-Err.end;
        mid = g.O.Sink.written c.args.out.now;
        mid_faults = g.O.Sink.faults c.args.out.now;
        comes = inl (stops_at_file (g.S.Shelf.told.file c.args.shelf.now c.args.table.now) (g.S.Shelf.told.faults c.args.shelf.now) (g.S.Shelf.told.faults c.row_in_file.new.shelf) c.args.session c.in-Err.end r.only (subst (λ (n : List ℕ). IsRowOf (g.S.Shelf.told.file c.args.shelf.now n) c.args.session (Err c.in-Err.end)) c.as_str.ensures.value (r.row told)) r.read, Grows-nil _, refl);
        last = f.closes;
        later = f.later;
      };
      cause = table_status (g.O.Sink.written c.args.out.now) _ (g.O.Sink.faults c.args.out.now) _ c.args.session _ c.in-Err.end f.later f.closes f.cause _ _ _ r.only (λ unread. inl (r.read unread));
      disks = r.disks;
    }
