use Rattle.std.proofs.Common.{◌≤◌, [], Err, inl, inr, refl, sym, ap, subst, rules, arith}
use Rattle.std.specs.Io.KnownBytes.{Appends}
use Rattle.std.proofs.KnownBytes.{Appends-nil}
use Rattle.pump_link.specs.Tells.{Draws}
use Rattle.pump_link.proofs.Grown.{Draws-nil}
use Rattle.relay_side.proofs.Unused.{is_unused, still_unused}
use Rattle.script_replay.specs.Shelves.{reading_in}
use Rattle.script_replay.proofs.Shelving.{read_in, is_out}
use Rattle.relay_threads.specs.declared.rounds_end.RoundsEnd.{RoundsEnd}
use Rattle.commands.proofs.LentDisks.{both_others, both_back}
use Rattle.dispatch.proofs.LiveEnded.{untaken_caused}
use Rattle.dispatch.proofs.Served.{no_key, served_caused, either_way, if_ended, pair_stops, pair_rises, pair_came_back, wanting_rose}
use Rattle.dispatch.proofs.serve.serve_row.Goals as goal

pub returns-in-Err-clause-serves : goal.returns-in-Err-clause-serves
returns-in-Err-clause-serves g c =
    inl (refl, no_key _ _ c.in-Err._fault (λ e. c.in-Err.ensures.failed (ap Err e)) (λ e. c.in-Err.ensures.short (ap Err e)), record { low_unused = is_unused _ _ _; high_unused = is_unused _ _ _; unwritten = refl; unchanged = λ told name. refl })

pub returns-in-Err-clause-cause : goal.returns-in-Err-clause-cause
returns-in-Err-clause-cause g c = no_key _ _ c.in-Err._fault (λ e. c.in-Err.ensures.failed (ap Err e)) (λ e. c.in-Err.ensures.short (ap Err e))

pub returns-in-Err-take_pair-clause-serves : goal.returns-in-Err-take_pair-clause-serves
returns-in-Err-take_pair-clause-serves g c =
    let e = c.in-Err-take_pair in
    inr (
      c.in-Ok.key,
      search rules,
      c.in-Ok.ensures.key,
      inl (
        pair_stops e.not_taken.role e.not_taken.fault c.untaken.result e.ensures.role c.untaken.ensures.memory c.untaken.ensures.failed,
        record { low_unused = is_unused _ _ _; high_unused = is_unused _ _ _; unwritten = refl; unchanged = e.ensures.alike },
      ),
    )

pub returns-in-Err-take_pair-clause-cause : goal.returns-in-Err-take_pair-clause-cause
returns-in-Err-take_pair-clause-cause g c =
    let e = c.in-Err-take_pair in
    untaken_caused _ e.not_taken.role e.not_taken.fault c.untaken.result c.untaken.ensures.memory c.untaken.ensures.failed (Appends-nil _) (λ is. (e.ensures.cause is, inl (e.ensures.asked is)))

pub put_pair_back-requires-clause-low : goal.put_pair_back-requires-clause-low
put_pair_back-requires-clause-low g c = is_out _ _ c.in-Ok-take_pair.ensures.low_out

pub put_pair_back-requires-clause-high : goal.put_pair_back-requires-clause-high
put_pair_back-requires-clause-high g c = is_out _ _ c.in-Ok-take_pair.ensures.high_out

pub returns-clause-serves : goal.returns-clause-serves
returns-clause-serves g c =
    let t = c.in-Ok-take_pair.ensures in
    let s = c.serve_session-served in
    let b = c.put_pair_back.ensures in
    inr (
      c.in-Ok.key,
      search rules,
      c.in-Ok.ensures.key,
      inr (
        s.result.end,
        c.end_of_session.ensures,
        record {
          low = c.in-Ok-take_pair.disks.low;
          now_low = s.result.low;
          high = c.in-Ok-take_pair.disks.high;
          now_high = s.result.high;
          low_found = λ told. sym (read_in _ _ (t.low told));
          low_left = λ told. sym (ap reading_in (b.low_back told));
          high_found = λ told. sym (read_in _ _ (t.high told));
          high_left = λ told. sym (ap reading_in (b.high_back told));
          workers = s.ensures.both;
          opens = s.ensures.comes.opens;
          wanting = s.ensures.comes.wanting;
          unstarted = s.ensures.comes.unstarted;
          closed = λ none.
              let same = s.ensures.comes.closed none in
              (still_unused g.P.Ports.did g.P.Ports.faults g.K.Clock.reads c.args.low.now _ same.0, still_unused g.P.Ports.did g.P.Ports.faults g.K.Clock.reads c.args.high.now _ same.1);
          idle = λ none.
              let idle = s.ensures.comes.idle none in (
                ap g.O.Sink.written idle.2,
                subst (λ (k : g.row.K.Denot). Draws (g.K.Clock.reads c.args.low.now.clock) (g.K.Clock.reads k) []) (sym idle.0) (Draws-nil _),
                subst (λ (k : g.row.K.Denot). Draws (g.K.Clock.reads c.args.high.now.clock) (g.K.Clock.reads k) []) (sym idle.1) (Draws-nil _),
              );
          still = s.ensures.comes.still;
        },
      ),
    )

pub returns-clause-others : goal.returns-clause-others
returns-clause-others g c = both_others (g.S.Shelf.told.disk c.args.shelf.now) (g.S.Shelf.told.disk c.take_pair.new.shelf) (g.S.Shelf.told.disk c.put_pair_back.new.shelf) c.args.row.now.id c.take_pair.ensures.others c.put_pair_back.ensures.others

pub returns-clause-back : goal.returns-clause-back
returns-clause-back g c = λ told.
    both_back (g.S.Shelf.told.disk c.args.shelf.now) (g.S.Shelf.told.disk c.take_pair.new.shelf) (g.S.Shelf.told.disk c.put_pair_back.new.shelf) c.args.row.now.id c.take_pair.ensures.others c.put_pair_back.ensures.others _ _
    (c.put_pair_back.ensures.low_back told) (c.put_pair_back.ensures.high_back told)

pub returns-clause-cause : goal.returns-clause-cause
returns-clause-cause g c =
    let t = c.in-Ok-take_pair in
    let s = c.serve_session-served in
    let b = c.put_pair_back.ensures in
    let d = g.S.Disk.Disk.told in
    let id = c.args.row.now.id in
    served_caused d t.disks.low t.disks.high s.result.low s.result.high _
    (λ role rose. (
      pair_rises d (g.S.Shelf.told.disk c.take_pair.new.shelf) id t.disks.low t.disks.high s.result.low s.result.high _ _ _ t.ensures.low_out t.ensures.high_out c.take_pair.ensures.later b.low_rises b.high_rises role rose,
      inr (pair_came_back g.S.Shelf.told d c.take_pair.new.shelf c.put_pair_back.new.shelf id t.disks.low t.disks.high s.result.low s.result.high t.ensures.low_out t.ensures.high_out b.low_back b.high_back role rose),
    ))
    c.args.row.now s.result.end _ c.end_of_session.ensures s.ensures.comes.opens
    (if_ended s.result.end _ _ s.ensures.both (λ (l h : RoundsEnd) both. both.low.device)) (if_ended s.result.end _ _ s.ensures.both (λ (l h : RoundsEnd) both. both.high.device))
    (if_ended s.result.end _ _ s.ensures.both (λ (l h : RoundsEnd) both. both.low.tape.cause))
    (λ none. subst (λ (o : g.row.O.Denot). Appends (g.O.Sink.written c.args.out.now) (g.O.Sink.written o) []) (sym (s.ensures.comes.idle none).2) (Appends-nil _))
    (λ wants. wanting_rose _ _ _ _ (s.ensures.comes.wanting wants))

pub returns-clause-later : goal.returns-clause-later
returns-clause-later g c =
    let s = c.serve_session-served in
    either_way s.result.end _ _ s.ensures.both (λ (l h : RoundsEnd) both. both.low.tape.later)
    (λ none. subst (λ (o : g.row.O.Denot). g.O.Sink.faults c.args.out.now ≤ g.O.Sink.faults o) (sym (s.ensures.comes.idle none).2) (omega arith))
