use Rattle.std.proofs.Common.{◌<◌, ◌^◌, [], ◌∷◌, ◌++◌, length, arith, refl, sym, subst, length-append}
use Rattle.pump_link.proofs.Known.{Appends-none}
use Rattle.script_reader.specs.Heads.{line_with}
use Rattle.script_reader.specs.Openings.{new_disks}
use Rattle.script_reader.specs.Sessions.{no_sessions}
use Rattle.script_reader.proofs.LineLaws.{lawful_line}
use Rattle.script_replay.specs.Outputs.{held_of}
use Rattle.script_replay.specs.Runners.{lent, AllAreUp}
use Rattle.script_replay.specs.Sessions.{found_at, AllLend}
use Rattle.script_replay.specs.Told.{StopsAsTold, TellsFault}
use Rattle.script_replay.proofs.OtherEnds.{write_no_memory, write_no_fault, memory_no_write, memory_no_fault, closed_no_memory}
use Rattle.script_replay.proofs.Fresh.{none_fresh}
use Rattle.script_replay.proofs.Quiet.{by_way, quiet_shown, quiet_turn, quiet_memory}
use Rattle.script_replay.proofs.Stops.{came_all, keeps_so, stops, barred, cut_off, stop_device, closed_device, closed_not, line_fault}
use Rattle.script_replay.proofs.Told.{none_made, alone_more, tells_so}
use Rattle.script_replay.proofs.Turns.{hands_of}
use Rattle.script_replay.proofs.Widened.{advance}
use Rattle.script_replay.proofs.SoFar.{Keeps-fresh, AreLines-more, fresh_gathers, so_far_more, so_far_kept, shown, printed, one_left, refused, failed, finished, closed, unshown, faulty_line, faulty_bad, line_number, bad_number, near_now, near_bad, within_failed, next_line, near_next, replayed}
use Rattle.script_replay.proofs.replaying.run.Goals as goal

pub turns-init : goal.turns-init
turns-init g c = (
  λ told tells. (
    [],
    [],
    no_sessions,
    new_disks,
    record { spelled = rw c.new-lines.ensures (Keeps-fresh _); leads = (refl, refl) },
    fresh_gathers (held_of c.args.replaying.now.output) _ c.requires.unheld,
    c.requires.stands,
    λ number. tt,
    rw c.new-lines.ensures refl,
  ),
  (
    subst (λ l. AllLend g.S.Disk.Disk.told (g.S.Shelf.told.disk c.args.shelf.now) (g.S.Shelf.told.disk c.args.shelf.now) l) (sym c.requires.none) (λ number role. refl),
    subst (λ l. AllAreUp l) (sym c.requires.none) (λ number. tt),
  ),
  rw c.new-lines.ensures (omega arith),
  rw c.new-lines.ensures (omega arith),
  omega arith,
  omega arith,
  omega arith,
  c.requires.order,
  λ way. (c.requires.unheld, Appends-none (g.O.Sink.written c.args.out.now)),
  λ told tells way. none_fresh g.S.Disk.Disk.told (g.S.Shelf.told.disk c.args.shelf.now) c.args.replaying.now.sessions.begun.items c.requires.none,
  record { lines = []; spelled = rw c.new-lines.ensures (Keeps-fresh _); made = none_made g.S.Disk.Disk.told c.args.replaying.now.sessions c.requires.none },
)

pub apply-requires-clause-lawful : goal.apply-requires-clause-lawful
apply-requires-clause-lawful g c = let n = c.in-Line.ensures.next in lawful_line (line_with c.next_head.new.body c.in-Line.line) n.0 n.2

pub returns-in-Err : goal.returns-in-Err
returns-in-Err g c = record {
  ends =
      λ told tells.
      let i = c.turns.invariant in
      let t = i.0 told tells in
      unshown (lent g.S.Disk.Disk.told (g.S.Shelf.told.disk c.args.shelf.now) (g.S.Shelf.told.disk c.turns.shelf) c.turns.replaying.sessions.begun.items) t.3 _ _ _ _ _ _ _ _ t.0 t.1 t.2 t.4 (omega (arith, t.8, i.3)) (held_of c.turns.replaying.output) t.5 (keeps_so g.S.Disk.Disk.told (g.S.Shelf.told.disk c.args.shelf.now) (g.S.Shelf.told.disk c.turns.shelf) c.turns.replaying.sessions.begun.items t.3 t.2 t.1 i.1.0 t.7 t.6.each) (near_now c.turns.lines _ i.2) c.in-Err.ensures.err;
  hands = hands_of _ g.S.Disk.Disk.told (g.S.Shelf.told.disk c.args.shelf.now) (g.S.Shelf.told.disk c.turns.shelf) c.turns.replaying.sessions.begun.items c.turns.invariant.1.0;
  rise = c.turns.invariant.7.rise;
  device = λ number role failed. absurd failed;
  told = λ number role failed. absurd failed;
  memory = λ e. absurd (write_no_memory e);
  later = c.turns.invariant.6;
  write = λ e. omega (arith, c.turns.invariant.5, c.in-Err.ensures.cause.failed);
  words = write_no_fault _;
  read = λ e. absurd (write_no_fault _ e);
}

pub returns-in-Unwritten : goal.returns-in-Unwritten
returns-in-Unwritten g c = record {
  ends =
      λ told tells.
      let i = c.turns.invariant in
      let t = i.0 told tells in
      let n = c.in-Line.ensures.next in
      let m = c.in-Unwritten.ensures.goes.does told tells (g.S.Shelf.told.disk c.args.shelf.now) i.1.0 t.2 t.6 in
      let w = shown (held_of c.turns.replaying.output) (held_of c.show.new.self) _ _ _ _ t.5 c.in-Ok.ensures.ok in
      cut_off _ g.S.Disk.Disk.told (g.S.Shelf.told.disk c.args.shelf.now) (g.S.Shelf.told.disk c.apply.new.shelf) c.apply.new.replaying.sessions.begun.items t.3 _ _ _ _ _ _ _ c.turns.lines c.next_head.new.self (line_with c.next_head.new.body c.in-Line.line) n t.0 t.1 t.2 t.4 (one_left c.turns.lines c.next_head.new.self _ _ (line_with c.next_head.new.body c.in-Line.line) t.0 n t.8 (c.in-Line.ensures.few (λ e. cc) (λ e. cc)))
      (held_of c.show.new.self) w t.7 _ m.0 m.1 m.2 m.3;
  hands = c.in-Unwritten.ensures.goes.hands (g.S.Shelf.told.disk c.args.shelf.now) c.turns.invariant.1.0;
  rise = c.apply.ensures.goes.order.rise;
  device = λ number role failed. absurd failed;
  told = λ number role failed. absurd failed;
  memory = λ e. absurd (write_no_memory e);
  later = omega (arith, c.turns.invariant.6, c.apply.ensures.disks_later);
  write = λ e. omega (arith, c.turns.invariant.5, c.show.ensures.cause.later, c.in-Unwritten.ensures.cause refl);
  words = write_no_fault _;
  read = λ e. absurd (write_no_fault _ e);
}

pub returns-in-Refused : goal.returns-in-Refused
returns-in-Refused g c = record {
  ends =
      λ told tells.
      let i = c.turns.invariant in
      let t = i.0 told tells in
      let n = c.in-Line.ensures.next in
      let m = c.in-Refused.ensures.goes.does told tells (g.S.Shelf.told.disk c.args.shelf.now) i.1.0 t.2 t.6 in
      let w = shown (held_of c.turns.replaying.output) (held_of c.show.new.self) _ _ _ _ t.5 c.in-Ok.ensures.ok in
      let v = barred _ _ _ (held_of c.show.new.self) (held_of c.apply.new.replaying.output) t.1 m.0 w m.1.1 m.2 in
      refused (lent g.S.Disk.Disk.told (g.S.Shelf.told.disk c.args.shelf.now) (g.S.Shelf.told.disk c.apply.new.shelf) c.apply.new.replaying.sessions.begun.items) t.3 _ _ _ _ _ _ _ _ t.0 t.1 t.2 t.4 (omega (arith, t.8, i.3)) (held_of c.apply.new.replaying.output) v (keeps_so g.S.Disk.Disk.told (g.S.Shelf.told.disk c.args.shelf.now) (g.S.Shelf.told.disk c.apply.new.shelf) c.apply.new.replaying.sessions.begun.items t.3 t.2 t.1 m.1.3 t.7 m.1.2) c.refuse.result c.number.result _ _
      (near_next c.turns.lines c.next_head.new.self _ _ (line_with c.next_head.new.body c.in-Line.line) n)
      (faulty_line c.turns.lines c.next_head.new.self _ _ (line_with c.next_head.new.body c.in-Line.line) t.2 (length t.0) n m.1.0)
      (line_number c.turns.lines c.next_head.new.self _ _ (line_with c.next_head.new.body c.in-Line.line) t.0 c.number.result n t.8 c.number.ensures (omega arith))
      c.refuse.ensures;
  hands = c.in-Refused.ensures.goes.hands (g.S.Shelf.told.disk c.args.shelf.now) c.turns.invariant.1.0;
  rise = c.apply.ensures.goes.order.rise;
  device = λ number role failed. absurd (closed_device _ _ _ _ _ _ c.refuse.result number role c.refuse.ensures failed);
  told = λ number role failed. absurd (closed_device _ _ _ _ _ _ c.refuse.result number role c.refuse.ensures failed);
  memory = λ e. absurd (closed_no_memory _ _ _ _ _ _ c.refuse.result c.refuse.ensures e);
  later = omega (arith, c.turns.invariant.6, c.apply.ensures.disks_later);
  write = closed _ _ _ _ _ _ _ _ (omega (arith, c.turns.invariant.5, c.show.ensures.cause, c.apply.ensures.later)) (λ e. cc) c.refuse.ensures;
  words = closed_not _ _ _ _ _ _ _ c.refuse.result c.refuse.ensures (λ e. cc);
  read = λ e. absurd (closed_not _ _ _ _ _ _ _ c.refuse.result c.refuse.ensures (λ e. cc) e);
}

pub returns-in-Stopped : goal.returns-in-Stopped
returns-in-Stopped g c = record {
  ends =
      λ told tells.
      let i = c.turns.invariant in
      let t = i.0 told tells in
      let n = c.in-Line.ensures.next in
      let m = c.in-Stopped.ensures.goes.does told tells (g.S.Shelf.told.disk c.args.shelf.now) i.1.0 t.2 t.6 in
      let w = shown (held_of c.turns.replaying.output) (held_of c.show.new.self) _ _ _ _ t.5 c.in-Ok.ensures.ok in
      stops _ g.S.Disk.Disk.told (g.S.Shelf.told.disk c.args.shelf.now) (g.S.Shelf.told.disk c.apply.new.shelf) c.apply.new.replaying.sessions.begun.items t.3 _ _ _ _ _ _ _ c.turns.lines c.next_head.new.self (line_with c.next_head.new.body c.in-Line.line) n t.0 t.1 t.2 t.4
      (one_left c.turns.lines c.next_head.new.self _ _ (line_with c.next_head.new.body c.in-Line.line) t.0 n t.8 (c.in-Line.ensures.few (λ e. cc) (λ e. cc)))
      (held_of c.show.new.self) w t.7 (held_of c.apply.new.replaying.output) _ _ _ _ m.0 c.in-Stopped.fault c.stop.result m.1 m.2 c.stop.ensures;
  hands = c.in-Stopped.ensures.goes.hands (g.S.Shelf.told.disk c.args.shelf.now) c.turns.invariant.1.0;
  rise = c.apply.ensures.goes.order.rise;
  told =
      λ number role failed.
      let n = c.in-Line.ensures.next in
      let i = c.turns.invariant.10 in
      let line = line_with c.next_head.new.body c.in-Line.line in
      alone_more (found_at number c.apply.new.replaying.sessions.begun.items) (StopsAsTold i.lines line number) (TellsFault (g.I.Source.left c.args.script.now) (g.I.Source.left c.next_head.new.script))
      (tells_so g.S.Disk.Disk.told c.turns.replaying.sessions _ _ _ _ line i (next_line c.turns.lines c.next_head.new.self _ _ line n) (near_next c.turns.lines c.next_head.new.self _ _ line n) number)
      ((c.in-Stopped.ensures.goes.told i.lines i.made).stopped number role (closed_device _ _ _ _ _ c.in-Stopped.fault c.stop.result number role c.stop.ensures failed));
  device =
      λ number role failed.
      stop_device g.S.Shelf.told g.S.Disk.Disk.told (g.S.Shelf.told.disk c.args.shelf.now) c.args.shelf.now c.turns.shelf c.apply.new.shelf c.apply.new.replaying.sessions.begun.items number role c.turns.invariant.6
      (c.in-Stopped.ensures.goes.device number role (closed_device _ _ _ _ _ c.in-Stopped.fault c.stop.result number role c.stop.ensures failed) (g.S.Shelf.told.disk c.args.shelf.now) c.turns.invariant.1.0);
  memory = λ e. absurd (closed_no_memory _ _ _ _ _ _ c.stop.result c.stop.ensures e);
  later = omega (arith, c.turns.invariant.6, c.apply.ensures.disks_later);
  write = closed _ _ _ _ _ _ _ _ (omega (arith, c.turns.invariant.5, c.show.ensures.cause, c.apply.ensures.later)) (λ e. cc) c.stop.ensures;
  words = closed_not _ _ _ _ _ _ _ c.stop.result c.stop.ensures (line_fault c.in-Stopped.fault _ c.in-Stopped.ensures.goes.stops (λ h. h));
  read = λ e. absurd (closed_not _ _ _ _ _ _ _ c.stop.result c.stop.ensures (line_fault c.in-Stopped.fault _ c.in-Stopped.ensures.goes.stops (λ h. h)) e);
}

pub returns-in-Memory : goal.returns-in-Memory
returns-in-Memory g c = record {
  ends =
      λ told tells.
      let i = c.turns.invariant in
      let t = i.0 told tells in
      let n = c.in-Line.ensures.next in
      let before = g.S.Shelf.told.disk c.args.shelf.now in
      let begun = c.apply.new.replaying.sessions.begun.items in
      let stand = c.in-Memory.ensures.goes.does told tells before i.1.0 t.2 t.6 in
      let quiet = c.in-Memory.ensures.goes.quiet in
      let fresh = c.in-Memory.ensures.goes.fresh told tells before (i.9 told tells (quiet.memory refl).0) in
      let written = quiet_memory c.turns.replaying.sessions c.apply.new.replaying.sessions (held_of c.show.new.self) (held_of c.apply.new.replaying.output) _ _ _ _ quiet
      (λ way. let q = i.8 way in quiet_shown (held_of c.turns.replaying.output) (held_of c.show.new.self) _ _ _ q.0 q.1 c.in-Ok.ensures.ok) refl in
      let counted : length t.0 < 2 ^ 32 = omega (arith, t.8, i.3) in (
        replayed t.3 _ _ t.0 t.1 t.2 t.4 counted,
        [],
        record {
          taken = near_next c.turns.lines c.next_head.new.self _ _ (line_with c.next_head.new.body c.in-Line.line) n;
          output_is = refl;
          disks = (fresh, came_all g.S.Disk.Disk.told begun t.2.begun stand);
        },
        written,
      );
  hands = c.in-Memory.ensures.goes.hands (g.S.Shelf.told.disk c.args.shelf.now) c.turns.invariant.1.0;
  rise = c.apply.ensures.goes.order.rise;
  device = λ number role failed. absurd failed;
  told = λ number role failed. absurd failed;
  memory =
      λ is.
      let i = c.turns.invariant in
      quiet_memory c.turns.replaying.sessions c.apply.new.replaying.sessions (held_of c.show.new.self) (held_of c.apply.new.replaying.output) _ _ _ _ c.in-Memory.ensures.goes.quiet
      (λ way. let q = i.8 way in quiet_shown (held_of c.turns.replaying.output) (held_of c.show.new.self) _ _ _ q.0 q.1 c.in-Ok.ensures.ok) refl;
  later = omega (arith, c.turns.invariant.6, c.apply.ensures.disks_later);
  write = λ e. absurd (memory_no_write e);
  words = memory_no_fault _;
  read = λ e. absurd (memory_no_fault _ e);
}

pub turns-preserved : goal.turns-preserved
turns-preserved g c =
    let i = c.turns.invariant in
    let n = c.in-Line.ensures.next in (
      λ told tells.
          let t = i.0 told tells in
          let m = c.in-Applied.ensures.goes.does told tells (g.S.Shelf.told.disk c.args.shelf.now) i.1.0 t.2 t.6 in
          let w = shown (held_of c.turns.replaying.output) (held_of c.show.new.self) _ _ _ _ t.5 c.in-Ok.ensures.ok in
          let a = advance (g.S.Shelf.told.disk c.args.shelf.now) t.3 _ _ t.0 t.1 t.2 (line_with c.next_head.new.body c.in-Line.line) m.0.1.0 m.0.0 t.4 t.7 m.0.1.1 in (
            t.0 ++ (line_with c.next_head.new.body c.in-Line.line) ∷ [],
            t.1 ++ m.0.0,
            m.0.1.0,
            a.openings,
            so_far_more a.openings _ _ _ t.0 t.1 m.0.0 t.2 m.0.1.0 (line_with c.next_head.new.body c.in-Line.line) n.0 a.so_far n.1 n.2 n.3 a.leads,
            printed (held_of c.show.new.self) (held_of c.apply.new.replaying.output) _ _ _ t.1 m.0.0 w m.0.2,
            record { each = m.0.1.2; moment = m.1.0; under_way = m.1.1 },
            a.found,
            omega (arith, length-append t.0 ((line_with c.next_head.new.body c.in-Line.line) ∷ []), t.8, n.4),
          ),
      c.in-Applied.ensures.goes.ready refl (g.S.Shelf.told.disk c.args.shelf.now) i.1.0,
      omega (arith, n.5),
      c.in-Line.ensures.few (λ e. cc) (λ e. cc),
      omega (arith, c.next_head.ensures.later, i.4),
      omega (arith, c.show.ensures.cause, c.apply.ensures.later, i.5),
      omega (arith, c.apply.ensures.disks_later, i.6),
      c.apply.ensures.goes.order,
      quiet_turn c.turns.replaying.sessions c.apply.new.replaying.sessions (held_of c.show.new.self) (held_of c.apply.new.replaying.output) _ _ _ _ c.in-Applied.ensures.goes.quiet
          (λ way. let q = i.8 way in quiet_shown (held_of c.turns.replaying.output) (held_of c.show.new.self) _ _ _ q.0 q.1 c.in-Ok.ensures.ok) refl,
      λ told tells way.
          c.in-Applied.ensures.goes.fresh told tells (g.S.Shelf.told.disk c.args.shelf.now) (i.9 told tells (by_way c.turns.replaying.sessions.is_under_way c.apply.new.replaying.sessions.is_under_way c.in-Applied.ensures.goes.quiet.waits way)) way,
      record {
        lines = i.10.lines ++ (line_with c.next_head.new.body c.in-Line.line) ∷ [];
        spelled = AreLines-more _ _ _ i.10.lines (line_with c.next_head.new.body c.in-Line.line) n.0 i.10.spelled n.1 n.2 n.3;
        made = (c.in-Applied.ensures.goes.told i.10.lines i.10.made).applied refl;
      },
    )

pub returns-in-Bad : goal.returns-in-Bad
returns-in-Bad g c = record {
  ends =
      λ told tells.
      let n = c.in-Bad.ensures.next in
      let i = c.turns.invariant in
      let t = i.0 told tells in
      let w = shown (held_of c.turns.replaying.output) (held_of c.show.new.self) _ _ _ _ t.5 c.in-Ok.ensures.ok in
      refused (lent g.S.Disk.Disk.told (g.S.Shelf.told.disk c.args.shelf.now) (g.S.Shelf.told.disk c.turns.shelf) c.turns.replaying.sessions.begun.items) t.3 _ _ _ _ _ _ _ _ t.0 t.1 t.2 t.4 (omega (arith, t.8, i.3)) (held_of c.show.new.self) w (keeps_so g.S.Disk.Disk.told (g.S.Shelf.told.disk c.args.shelf.now) (g.S.Shelf.told.disk c.turns.shelf) c.turns.replaying.sessions.begun.items t.3 t.2 t.1 i.1.0 t.7 t.6.each) c.refuse-in-Bad.result c.number-in-Bad.result _ _
      (near_bad c.turns.lines c.next_head.new.self _ _ n)
      (faulty_bad c.turns.lines c.next_head.new.self _ _ t.0 t.2 n t.8)
      (bad_number c.turns.lines c.next_head.new.self _ _ t.0 c.number-in-Bad.result n t.8 c.number-in-Bad.ensures)
      c.refuse-in-Bad.ensures;
  hands = hands_of _ g.S.Disk.Disk.told (g.S.Shelf.told.disk c.args.shelf.now) (g.S.Shelf.told.disk c.turns.shelf) c.turns.replaying.sessions.begun.items c.turns.invariant.1.0;
  rise = c.turns.invariant.7.rise;
  device = λ number role failed. absurd (closed_device _ _ _ _ _ _ c.refuse-in-Bad.result number role c.refuse-in-Bad.ensures failed);
  told = λ number role failed. absurd (closed_device _ _ _ _ _ _ c.refuse-in-Bad.result number role c.refuse-in-Bad.ensures failed);
  memory = λ e. absurd (closed_no_memory _ _ _ _ _ _ c.refuse-in-Bad.result c.refuse-in-Bad.ensures e);
  later = c.turns.invariant.6;
  write = closed _ _ _ _ _ _ _ _ (omega (arith, c.turns.invariant.5, c.show.ensures.cause)) (λ e. cc) c.refuse-in-Bad.ensures;
  words = closed_not _ _ _ _ _ _ _ c.refuse-in-Bad.result c.refuse-in-Bad.ensures (λ e. cc);
  read = λ e. absurd (closed_not _ _ _ _ _ _ _ c.refuse-in-Bad.result c.refuse-in-Bad.ensures (λ e. cc) e);
}

pub returns-in-Failed : goal.returns-in-Failed
returns-in-Failed g c = record {
  ends =
      λ told tells.
      let n = c.in-Failed.ensures.next in
      let i = c.turns.invariant in
      let t = i.0 told tells in
      let w = shown (held_of c.turns.replaying.output) (held_of c.show.new.self) _ _ _ _ t.5 c.in-Ok.ensures.ok in
      let s = so_far_kept t.3 _ _ _ t.0 t.1 t.2 t.4 n.0 in
      failed (lent g.S.Disk.Disk.told (g.S.Shelf.told.disk c.args.shelf.now) (g.S.Shelf.told.disk c.turns.shelf) c.turns.replaying.sessions.begun.items) t.3 _ _ _ _ _ _ _ _ t.0 t.1 t.2 s (omega (arith, t.8, i.3)) (held_of c.show.new.self) w (keeps_so g.S.Disk.Disk.told (g.S.Shelf.told.disk c.args.shelf.now) (g.S.Shelf.told.disk c.turns.shelf) c.turns.replaying.sessions.begun.items t.3 t.2 t.1 i.1.0 t.7 t.6.each) c.stop-in-Failed.result _ _
      (within_failed c.turns.lines c.next_head.new.self _ _ n) (omega (arith, c.in-Failed.ensures.failed refl, i.4)) c.stop-in-Failed.ensures;
  hands = hands_of _ g.S.Disk.Disk.told (g.S.Shelf.told.disk c.args.shelf.now) (g.S.Shelf.told.disk c.turns.shelf) c.turns.replaying.sessions.begun.items c.turns.invariant.1.0;
  rise = c.turns.invariant.7.rise;
  device = λ number role failed. absurd (closed_device _ _ _ _ _ _ c.stop-in-Failed.result number role c.stop-in-Failed.ensures failed);
  told = λ number role failed. absurd (closed_device _ _ _ _ _ _ c.stop-in-Failed.result number role c.stop-in-Failed.ensures failed);
  memory = λ e. absurd (closed_no_memory _ _ _ _ _ _ c.stop-in-Failed.result c.stop-in-Failed.ensures e);
  later = c.turns.invariant.6;
  write = closed _ _ _ _ _ _ _ _ (omega (arith, c.turns.invariant.5, c.show.ensures.cause)) (λ e. cc) c.stop-in-Failed.ensures;
  words = closed_not _ _ _ _ _ _ _ c.stop-in-Failed.result c.stop-in-Failed.ensures (λ e. cc);
  read = λ e. omega (arith, c.in-Failed.ensures.failed refl, c.turns.invariant.4);
}

pub returns-in-End : goal.returns-in-End
returns-in-End g c = record {
  ends =
      λ told tells.
      let n = c.in-End.ensures.next in
      let i = c.turns.invariant in
      let t = i.0 told tells in
      let f = c.finish.ensures.ends t.2 t.6 in
      let w = shown (held_of c.turns.replaying.output) (held_of c.show.new.self) _ _ _ _ t.5 c.in-Ok.ensures.ok in
      finished (lent g.S.Disk.Disk.told (g.S.Shelf.told.disk c.args.shelf.now) (g.S.Shelf.told.disk c.turns.shelf) c.turns.replaying.sessions.begun.items) t.3 _ _ _ _ _ _ _ _ t.0 t.1 t.2 t.4 (omega (arith, t.8, i.3)) (held_of c.show.new.self) w c.finish.result _ _ f.0 n.1 f.1 (keeps_so g.S.Disk.Disk.told (g.S.Shelf.told.disk c.args.shelf.now) (g.S.Shelf.told.disk c.turns.shelf) c.turns.replaying.sessions.begun.items t.3 t.2 (t.1 ++ f.0) i.1.0 t.7 t.6.each) f.2;
  hands = hands_of _ g.S.Disk.Disk.told (g.S.Shelf.told.disk c.args.shelf.now) (g.S.Shelf.told.disk c.turns.shelf) c.turns.replaying.sessions.begun.items c.turns.invariant.1.0;
  rise = c.turns.invariant.7.rise;
  device = λ number role failed. absurd (c.finish.ensures.other number role failed);
  told = λ number role failed. absurd (c.finish.ensures.other number role failed);
  memory = λ e. absurd (c.finish.ensures.memory e);
  later = c.turns.invariant.6;
  write = λ e. omega (arith, c.turns.invariant.5, c.show.ensures.cause.later, c.finish.ensures.cause e);
  words = c.finish.ensures.words;
  read = λ e. absurd (c.finish.ensures.read e);
}
