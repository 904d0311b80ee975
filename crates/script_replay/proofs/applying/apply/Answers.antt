use Rattle.std.proofs.Common.{◌<◌, length, refl, sym, ◌∙◌, arith}
use Rattle.std.specs.Vec.{with_item}
use Rattle.script_reader.specs.Heads.{line_with}
use Rattle.two_worlds.specs.Printing.{lines_in}
use Rattle.script_replay.specs.Outputs.{held_of}
use Rattle.script_replay.proofs.Given.{given_printed, given_unwritten, some_named}
use Rattle.script_replay.proofs.Listed.{at_slice, set_here, within_so, under_way_so}
use Rattle.script_replay.proofs.Told.{skip_made}
use Rattle.script_replay.proofs.Turns.{up_there, hands_of, skips}
use Rattle.script_replay.proofs.applying.apply.Goals as goal

pub returns-in-None-clause-goes : goal.returns-in-None-clause-goes
returns-in-None-clause-goes g c =
    let none = c.session_of.ensures c.args.body.now ∙ c.in-None.is in
    record {
      order = c.requires.order;
      does = λ told tells before lends t stand. skips g.S.Disk.Disk.told before (g.S.Shelf.told.disk c.args.shelf.now) t (line_with c.args.body.now c.args.line.now) c.args.replaying.now.sessions (held_of c.args.replaying.now.output) _ none lends stand;
      fresh = λ told tells before fresh way. fresh;
      hands = λ before lends. hands_of g.S.Shelf.told.tells g.S.Disk.Disk.told before (g.S.Shelf.told.disk c.args.shelf.now) c.args.replaying.now.sessions.begun.items lends;
      ready = λ e before lends. (lends, c.requires.up);
      quiet = record { waits = λ e. e; quiet = λ e off. (refl, refl); memory = λ e. cc };
      stops = tt;
      device = λ number role h. absurd h;
      told = λ lines all. skip_made g.S.Disk.Disk.told c.args.replaying.now.sessions lines (line_with c.args.body.now c.args.line.now) none all;
    }

pub begin_session-requires-clause-comes : goal.begin_session-requires-clause-comes
begin_session-requires-clause-comes g c = record {
  number = c.in-Some.number;
  named = c.session_of.ensures c.args.body.now ∙ c.in-Some.is;
  placed = (c.place_of-place.ensures, sym c.is_at.ensures ∙ c.if-not-is_at.true);
  in_turn = λ t stand. c.is_in_turn.ensures.may c.args.body.now t stand ∙ c.if-not-is_in_turn.false;
  begins = c.is_in_turn.ensures.first c.args.body.now c.if-not-is_in_turn.false;
  first = c.is_in_turn.ensures.way c.args.body.now c.if-not-is_in_turn.false;
}

pub returns-then-not-is_at-clause-goes : goal.returns-then-not-is_at-clause-goes
returns-then-not-is_at-clause-goes g c = c.begin_session.ensures.goes (g.O.Sink.written c.args.out.now)

pub coarsen_at-requires-clause-comes : goal.coarsen_at-requires-clause-comes
coarsen_at-requires-clause-comes g c = record {
  number = c.in-Some.number;
  named = c.session_of.ensures c.args.body.now ∙ c.in-Some.is;
  placed = (c.place_of-place.ensures, sym c.is_at.ensures ∙ c.if-not-is_at.false);
  in_turn = λ t stand. c.is_in_turn.ensures.may c.args.body.now t stand ∙ c.if-not-is_in_turn.false;
  begins = c.is_in_turn.ensures.first c.args.body.now c.if-not-is_in_turn.false;
  first = c.is_in_turn.ensures.way c.args.body.now c.if-not-is_in_turn.false;
}

pub returns-then-stands_first-clause-goes : goal.returns-then-stands_first-clause-goes
returns-then-stands_first-clause-goes g c = c.coarsen_at.ensures.goes c.args.shelf.now (g.O.Sink.written c.args.out.now)

pub index_mut-session-requires : goal.index_mut-session-requires
index_mut-session-requires g c =
    let low = within_so c.in-Some.number c.place_of-place.result c.args.replaying.now.sessions.begun.items (sym c.is_at.ensures ∙ c.if-not-is_at.false) in
    let len = c.args.replaying.now.sessions.begun.ok.0 in
    omega (arith, low, len)

pub apply-stop-requires-clause-some : goal.apply-stop-requires-clause-some
apply-stop-requires-clause-some g c = (some_named (line_with c.args.body.now c.args.line.now) c.in-Some.number (c.session_of.ensures c.args.body.now ∙ c.in-Some.is))

pub apply-stop-requires-clause-up : goal.apply-stop-requires-clause-up
apply-stop-requires-clause-up g c =
    let line = (line_with c.args.body.now c.args.line.now) in
    let first = c.args.replaying.now.sessions in
    let place = c.place_of-place.result in
    let low : place < length first.begun.items = within_so c.in-Some.number place first.begun.items (sym c.is_at.ensures ∙ c.if-not-is_at.false) in
    let at = at_slice first.begun.items place c.index_mut-session.result.now low c.index_mut-session.ensures.value in
    up_there c.in-Some.number place c.index_mut-session.result.now first.begun.items (c.place_of-place.ensures, sym c.is_at.ensures ∙ c.if-not-is_at.false) at c.requires.up

pub returns-in-Err-clause-goes : goal.returns-in-Err-clause-goes
returns-in-Err-clause-goes g c =
    let line = (line_with c.args.body.now c.args.line.now) in
    let first = c.args.replaying.now.sessions in
    let place = c.place_of-place.result in
    let low : place < length first.begun.items = within_so c.in-Some.number place first.begun.items (sym c.is_at.ensures ∙ c.if-not-is_at.false) in
    let at = at_slice first.begun.items place c.index_mut-session.result.now low c.index_mut-session.ensures.value in
    given_unwritten g.S.Shelf.told g.S.Disk.Disk.told c.args.shelf.now line c.in-Some.number place (c.session_of.ensures c.args.body.now ∙ c.in-Some.is) c.index_mut-session.result.now c.apply-stop.new.self c.apply-stop.ensures.with c.args.replaying.now
    (record { alloc = c.args.replaying.now.alloc; sessions = record { begun = with_item first.begun place c.apply-stop.new.self; moment = first.moment; is_under_way = first.is_under_way }; events = c.apply-stop.new.events; output = c.print_all.new.self }) (c.place_of-place.ensures, sym c.is_at.ensures ∙ c.if-not-is_at.false) at c.requires.order refl c.requires.up (some_named (line_with c.args.body.now c.args.line.now) c.in-Some.number (c.session_of.ensures c.args.body.now ∙ c.in-Some.is))
    (c.stands_first.ensures c.args.body.now ∙ c.if-stands_first.false) (λ script stand. c.is_in_turn.ensures.may c.args.body.now script stand ∙ c.if-not-is_in_turn.false)
    (g.O.Sink.written c.args.out.now) (g.O.Sink.written c.print_all.new.out) c.apply-stop.result (lines_in c.apply-stop.new.events.items) c.apply-stop.ensures.applies c.apply-stop.ensures.alone (rw c.as_slice.ensures.value at c.in-Err.ensures.err) (λ e. e)

pub note_applied-requires : goal.note_applied-requires
note_applied-requires g c =
    let low = within_so c.in-Some.number c.place_of-place.result c.args.replaying.now.sessions.begun.items (sym c.is_at.ensures ∙ c.if-not-is_at.false) in
    let len = c.args.replaying.now.sessions.begun.ok.0 in
    omega (arith, low, len)

pub returns-in-Applied-clause-goes : goal.returns-in-Applied-clause-goes
returns-in-Applied-clause-goes g c =
    let line = (line_with c.args.body.now c.args.line.now) in
    let first = c.args.replaying.now.sessions in
    let place = c.place_of-place.result in
    let low : place < length first.begun.items = within_so c.in-Some.number place first.begun.items (sym c.is_at.ensures ∙ c.if-not-is_at.false) in
    let at = at_slice first.begun.items place c.index_mut-session.result.now low c.index_mut-session.ensures.value in
    let moved = c.note_applied.ensures.under_way c.args.body.now in
    given_printed g.S.Shelf.told g.S.Disk.Disk.told c.args.shelf.now line c.in-Some.number place (c.session_of.ensures c.args.body.now ∙ c.in-Some.is) c.index_mut-session.result.now c.apply-stop.new.self c.apply-stop.ensures.with c.args.replaying.now
    (record { alloc = c.args.replaying.now.alloc; sessions = c.note_applied.new.self; events = c.apply-stop.new.events; output = c.print_all.new.self }) (c.place_of-place.ensures, sym c.is_at.ensures ∙ c.if-not-is_at.false) at c.requires.order c.note_applied.ensures.begun c.requires.up (some_named (line_with c.args.body.now c.args.line.now) c.in-Some.number (c.session_of.ensures c.args.body.now ∙ c.in-Some.is))
    (c.stands_first.ensures c.args.body.now ∙ c.if-stands_first.false) (λ script stand. c.is_in_turn.ensures.may c.args.body.now script stand ∙ c.if-not-is_in_turn.false)
    (g.O.Sink.written c.args.out.now) (g.O.Sink.written c.print_all.new.out) c.apply-stop.result (lines_in c.apply-stop.new.events.items) c.apply-stop.ensures.applies c.apply-stop.ensures.alone
    c.id.result _ c.id.ensures (sym c.in-Applied.is ∙ c.outcome_of-outcome.ensures.is) tt (rw c.as_slice.ensures.value at c.in-Ok.ensures.ok) c.apply-stop.ensures.up c.apply-stop.ensures.failed
    (λ e. (λ s stands. c.note_applied.ensures.moment c.apply-stop.new.self s (set_here first.begun.items place c.apply-stop.new.self low) stands, moved))
    (λ e. under_way_so first.is_under_way _ c.note_applied.new.self.is_under_way moved (c.stands_first.ensures c.args.body.now ∙ c.if-stands_first.false))

pub returns-in_default-clause-goes : goal.returns-in_default-clause-goes
returns-in_default-clause-goes g c =
    let line = (line_with c.args.body.now c.args.line.now) in
    let first = c.args.replaying.now.sessions in
    let place = c.place_of-place.result in
    let low : place < length first.begun.items = within_so c.in-Some.number place first.begun.items (sym c.is_at.ensures ∙ c.if-not-is_at.false) in
    let at = at_slice first.begun.items place c.index_mut-session.result.now low c.index_mut-session.ensures.value in
    given_printed g.S.Shelf.told g.S.Disk.Disk.told c.args.shelf.now line c.in-Some.number place (c.session_of.ensures c.args.body.now ∙ c.in-Some.is) c.index_mut-session.result.now c.apply-stop.new.self c.apply-stop.ensures.with c.args.replaying.now
    (record { alloc = c.args.replaying.now.alloc; sessions = record { begun = with_item first.begun place c.apply-stop.new.self; moment = first.moment; is_under_way = first.is_under_way }; events = c.apply-stop.new.events; output = c.print_all.new.self }) (c.place_of-place.ensures, sym c.is_at.ensures ∙ c.if-not-is_at.false) at c.requires.order refl c.requires.up (some_named (line_with c.args.body.now c.args.line.now) c.in-Some.number (c.session_of.ensures c.args.body.now ∙ c.in-Some.is))
    (c.stands_first.ensures c.args.body.now ∙ c.if-stands_first.false) (λ script stand. c.is_in_turn.ensures.may c.args.body.now script stand ∙ c.if-not-is_in_turn.false)
    (g.O.Sink.written c.args.out.now) (g.O.Sink.written c.print_all.new.out) c.apply-stop.result (lines_in c.apply-stop.new.events.items) c.apply-stop.ensures.applies c.apply-stop.ensures.alone
    c.id.result _ c.id.ensures c.outcome_of-outcome.ensures.is c.outcome_of-outcome.ensures.line (rw c.as_slice.ensures.value at c.in-Ok.ensures.ok) c.apply-stop.ensures.up c.apply-stop.ensures.failed
    (λ e. absurd (c.in_default.not-Applied e)) (λ e. e)
