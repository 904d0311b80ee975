use Rattle.std.proofs.Common.{◌≤◌, [], ◌∷◌, length, Some, refl, sym, ap, ◌∙◌, subst, le_refl, le_trans}
use Rattle.pump_frame.specs.Counts.{Rose}
use Rattle.high_process.specs.States.{row_of}
use Rattle.relay_threads.specs.HighServes.{device_in}
use Rattle.relay_threads.proofs.HighEnding.{takes_nothing, rounds_take}
use Rattle.relay_threads.proofs.HighGoing.{goes_none, goes_then, can_again}
use Rattle.relay_threads.proofs.HighServing.{within_of, so_far_none, so_far_more, serves_more, told_none, told_more, each_more, sends_at, sent_all, asks_more, asks_ended, counts_more, counts_few, ended_by, no_stop, fault_since, stopped_no_link, looks_no_link, looks_no_stop}
use Rattle.relay_threads.proofs.Counting.{none_at_most, one_more, same_more, some_left, next_at_most, none_left}
use Rattle.relay_threads.proofs.Reaching.{rose_later}
use Rattle.relay_threads.proofs.high_worker.HighWorker.serve.Goals as goal

pub loop-rounds-init : goal.loop-rounds-init
loop-rounds-init g c = record {
  rounds = [];
  so_far = so_far_none c.args.self.now.process.now _ _ c.new-connection.ensures.reader c.new-connection.ensures.attached;
  told = told_none _ _ _ _ _;
  takes = takes_nothing g.H.HighSide.stands c.args.self.now.ends.now c.args.self.now.process.now;
  begun = c.new-connection.ensures.open.begun;
  removed = refl;
  few = none_at_most 0;
  can = c.requires.can;
  goes_on = goes_none g.K.Clock.floor g.D.Disk.told g.H.HighSide.stands g.H.HighSide.shape g.H.HighSide.place c.args.self.now c.requires.can;
  most = none_at_most c.args.looks;
  link = le_refl _;
  gate = refl;
}

pub round-turn-requires-clause-open : goal.round-turn-requires-clause-open
round-turn-requires-clause-open g c =
    let was = c.loop-rounds.invariant in
    record {
      within = within_of _ _ was.so_far.is_held;
      begun = was.begun;
    }

pub round-turn-requires-clause-can : goal.round-turn-requires-clause-can
round-turn-requires-clause-can g c = c.loop-rounds.invariant.can

pub returns-then-not-pass : goal.returns-then-not-pass
returns-then-not-pass g c =
    let was = c.loop-rounds.invariant in
    let f = was.so_far in
    let e = c.pass.ensures in
    record {
      served = (
        was.rounds,
        f.serves,
        (f.long, (some_left c.loop-rounds.rounds (length was.rounds) c.args.looks f.long c.loop-rounds-test.true, f.go_on)),
        was.told.looks,
        sent_all _ _ _ _ was.told.bytes,
        was.told.moments,
        asks_more _ _ _ was.rounds c.loop-rounds.rounds c.loop-rounds.removed was.told.asks f.long was.removed e.asked,
        was.takes,
      );
      goes_on = was.goes_on;
      up = λ calm. was.can.ready.up;
      caused = record {
        link = λ failed. absurd (stopped_no_link failed);
        device = tt;
        stopped = λ stopped. subst (λ n. Rose n (g.G.Gate.stops c.pass.new.self)) was.gate (e.stopped c.if-not-pass.true);
        went = λ went. absurd (went refl);
      };
    }

pub returns-in-Some : goal.returns-in-Some
returns-in-Some g c =
    let was = c.loop-rounds.invariant in
    let f = was.so_far in
    let e = c.round-turn.ensures in
    let t = e.round in
    let r = t.0 in
    let rs = was.rounds in
    let C = g.C.Link in
    let K = g.K.Clock in
    let G = g.G.Gate in
    let sent = sends_at c.args.self.now.process.now c.loop-rounds.self.process.now (C.sent c.loop-rounds.link) (C.sent c.round-turn.new.link) r.is_sent r.made f.serves.row t.3 in
    let asks = asks_more (G.asked c.args.gate.now) (G.asked c.loop-rounds.gate) (G.asked c.pass.new.self) rs c.loop-rounds.rounds c.loop-rounds.removed was.told.asks f.long was.removed c.pass.ensures.asked in
    let long : length (r ∷ rs) ≤ c.args.looks = next_at_most c.loop-rounds.rounds (length rs) c.args.looks f.long c.loop-rounds-test.true in
    let is = sym t.5 ∙ c.in-Some.is in
    let more = each_more (C.gives c.args.link.now) (C.gives c.loop-rounds.link) (C.gives c.round-turn.new.link) (C.sent c.args.link.now) (C.sent c.loop-rounds.link) (C.sent c.round-turn.new.link)
    (K.reads c.args.self.now.clock.now) (K.reads c.loop-rounds.self.clock.now) (K.reads c.round-turn.new.worker.clock.now) (G.asked c.args.gate.now) (G.asked c.loop-rounds.gate) (row_of c.args.self.now.process.now).id rs was.told r t.2 sent t.4 in
    record {
      served = (
        r ∷ rs,
        serves_more c.args.self.now.process.now c.loop-rounds.self.process.now c.round-turn.new.worker.process.now _ _ _ r rs _ was.can.ready.up f t.1,
        (same_more c.loop-rounds.rounds (length rs) f.long, ended_by c.loop-rounds.connection.is_attached r rs c.args.looks c.in-Some.why f.is_attached long is),
        more.0,
        more.1,
        more.2,
        asks_ended _ _ c.loop-rounds.connection.is_attached r (r ∷ rs) c.in-Some.why is asks,
        rounds_take g.H.HighSide.stands c.args.self.now.ends.now c.loop-rounds.self.ends.now c.round-turn.new.worker.ends.now c.args.self.now.process.now c.loop-rounds.self.process.now c.round-turn.new.worker.process.now r rs f.serves.row (f.serves.past was.can.ready.up) was.takes t.8,
      );
      goes_on = goes_then g.K.Clock.floor g.D.Disk.told g.H.HighSide.stands g.H.HighSide.shape g.H.HighSide.place c.args.self.now c.loop-rounds.self c.round-turn.new.worker was.goes_on c.round-turn.ensures.goes_on;
      up = λ calm. e.up (ap device_in c.in-Some.is ∙ calm);
      caused = record {
        link = λ failed. rose_later _ _ _ was.link (e.failed (c.in-Some.is ∙ ap Some failed));
        device = fault_since c.round-turn.result.why c.in-Some.why _ _ _ c.in-Some.is was.goes_on.counts e.device;
        stopped = λ stopped. absurd (no_stop c.loop-rounds.connection.is_attached r c.in-Some.why is stopped);
        went = λ _. c.pass.ensures.passed c.if-not-pass.false ∙ was.gate;
      };
    }

pub returns : goal.returns
returns g c =
    let was = c.loop-rounds.invariant in
    let f = was.so_far in
    let all = none_left c.loop-rounds.rounds (length was.rounds) c.args.looks f.long was.most c.loop-rounds-test.false in
    record {
      served = (
        was.rounds,
        f.serves,
        (f.long, (all, f.go_on)),
        was.told.looks,
        sent_all _ _ _ _ was.told.bytes,
        was.told.moments,
        was.told.asks,
        was.takes,
      );
      goes_on = was.goes_on;
      up = λ calm. was.can.ready.up;
      caused = record {
        link = λ failed. absurd (looks_no_link failed);
        device = tt;
        stopped = λ stopped. absurd (looks_no_stop stopped);
        went = λ _. was.gate;
      };
    }

pub loop-rounds-preserved : goal.loop-rounds-preserved
loop-rounds-preserved g c =
    let was = c.loop-rounds.invariant in
    let f = was.so_far in
    let t = c.round-turn.ensures.round in
    let r = t.0 in
    let rs = was.rounds in
    let C = g.C.Link in
    let K = g.K.Clock in
    let G = g.G.Gate in
    let sent = sends_at c.args.self.now.process.now c.loop-rounds.self.process.now (C.sent c.loop-rounds.link) (C.sent c.round-turn.new.link) r.is_sent r.made f.serves.row t.3 in
    let asks = asks_more (G.asked c.args.gate.now) (G.asked c.loop-rounds.gate) (G.asked c.pass.new.self) rs c.loop-rounds.rounds c.loop-rounds.removed was.told.asks f.long was.removed c.pass.ensures.asked in
    let calm = sym t.5 ∙ c.in_default.is in
    let told = told_more (C.gives c.args.link.now) (C.gives c.loop-rounds.link) (C.gives c.round-turn.new.link) (C.sent c.args.link.now) (C.sent c.loop-rounds.link) (C.sent c.round-turn.new.link)
    (K.reads c.args.self.now.clock.now) (K.reads c.loop-rounds.self.clock.now) (K.reads c.round-turn.new.worker.clock.now) (G.asked c.args.gate.now) (G.asked c.loop-rounds.gate) (row_of c.args.self.now.process.now).id rs was.told r t.2 sent t.4 (G.asked c.pass.new.self) (t.1.whole calm) asks in
    record {
      rounds = r ∷ rs;
      so_far = so_far_more c.args.self.now.process.now c.loop-rounds.self.process.now c.round-turn.new.worker.process.now c.loop-rounds.connection.reader c.round-turn.new.self.reader c.loop-rounds.connection.is_attached c.round-turn.new.self.is_attached c.loop-rounds.rounds _ r rs was.can.ready.up f t.1 calm t.7 refl;
      told = told;
      takes = rounds_take g.H.HighSide.stands c.args.self.now.ends.now c.loop-rounds.self.ends.now c.round-turn.new.worker.ends.now c.args.self.now.process.now c.loop-rounds.self.process.now c.round-turn.new.worker.process.now r rs f.serves.row (f.serves.past was.can.ready.up) was.takes t.8;
      begun = c.round-turn.ensures.begun;
      removed = counts_more r rs _ _ _ was.removed t.6 c.counted-removed.ensures;
      few = counts_few _ _ _ _ c.counted-removed.ensures was.few;
      can = can_again g.K.Clock.floor g.D.Disk.told g.H.HighSide.stands g.H.HighSide.shape g.H.HighSide.place c.loop-rounds.self c.round-turn.new.worker c.round-turn.ensures.goes_on (c.round-turn.ensures.up (ap device_in c.in_default.is));
      goes_on = goes_then g.K.Clock.floor g.D.Disk.told g.H.HighSide.stands g.H.HighSide.shape g.H.HighSide.place c.args.self.now c.loop-rounds.self c.round-turn.new.worker was.goes_on c.round-turn.ensures.goes_on;
      most = one_more c.loop-rounds.rounds c.args.looks c.loop-rounds-test.true;
      link = le_trans was.link c.round-turn.ensures.later;
      gate = c.pass.ensures.passed c.if-not-pass.false ∙ was.gate;
    }
