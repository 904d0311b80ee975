use Rattle.std.proofs.Common.{◌≤◌, [], ◌∷◌, Some, length, refl, sym, ap, ◌∙◌, subst, le_refl, arith}
use Rattle.std.specs.Io.KnownBytes.{Appends}
use Rattle.pump_frame.specs.Counts.{Rose}
use Rattle.relay_threads.specs.LowRounds.{made_in, reply_bytes}
use Rattle.relay_threads.specs.LowServes.{is_device_in, all_sent, all_kept}
use Rattle.relay_threads.specs.Records.{record_of}
use Rattle.relay_threads.specs.RecordLines.{looks_text}
use Rattle.relay_threads.proofs.Counting.{none_at_most, one_more, same_more, some_left, next_at_most, none_left}
use Rattle.relay_threads.proofs.Levels.{levels_then}
use Rattle.relay_threads.proofs.LowEnds.{does_none, does_rounds, stores_none, stores_rounds}
use Rattle.relay_threads.proofs.LowWorkers.{keeps_none, keeps_then}
use Rattle.relay_threads.proofs.Reaching.{reaches_whole, rose_later}
use Rattle.relay_threads.proofs.LowServing.{acks_few, calm_round, sent_on, kept_on, within_of, serves_more, so_far_none, so_far_more, told_none, sends_more, keeps_more, ended_by, broken_round, asked_by, asks_more, up_after, fault_since, no_stop, not_lost, stopped_no_link, stopped_no_record, looks_no_link, looks_no_record, looks_no_stop}
use Rattle.low_process.specs.Looks.{row_of}
use Rattle.pump_link.specs.Tells.{Grows}
use Rattle.pump_link.proofs.Grown.{Draws-then}
use Rattle.relay_threads.proofs.low_worker.LowWorker.serve.Goals as goal

pub loop-rounds-init : goal.loop-rounds-init
loop-rounds-init g c = let K = g.K.Clock in record {
  rounds = [];
  so_far = so_far_none c.args.self.now.process.now _ c.new-connection.ensures.value;
  told = told_none _ _ _ _ _ _ _;
  levels = λ end. tt;
  does = does_none g.L.LowSide.stands g.L.LowSide.shape c.args.self.now.ends.now c.args.self.now.process.now;
  stores = stores_none g.D.Disk.told c.args.self.now.store.now c.args.self.now.process.now;
  begun = c.new-connection.ensures.begun;
  keeps = keeps_none K.floor g.D.Disk.told g.L.LowSide.stands g.L.LowSide.shape g.L.LowSide.place c.args.self.now c.requires.rests;
  up = c.requires.up;
  most = none_at_most c.args.looks;
  link = le_refl _;
  tape = le_refl _;
  gate = refl;
}

pub round-turn-requires-clause-within : goal.round-turn-requires-clause-within
round-turn-requires-clause-within g c = within_of _ _ c.loop-rounds.invariant.so_far.is_held

pub counted-acks-requires : goal.counted-acks-requires
counted-acks-requires g c =
    let f = c.loop-rounds.invariant.so_far in
    omega (arith, f.long, f.acked, acks_few c.loop-rounds.invariant.rounds, c.loop-rounds-test.true)

pub loop-rounds-preserved : goal.loop-rounds-preserved
loop-rounds-preserved g c =
    let was = c.loop-rounds.invariant in
    let f = was.so_far in
    let told = was.told in
    let t = c.round-turn.ensures.turn in
    let r = t.0 in
    let rs = was.rounds in
    let calm = sym t.8 ∙ c.in_default.is in
    let C = g.C.Link in
    let K = g.K.Clock in
    let W = g.W.Words in
    let G = g.G.Gate in
    let O = g.O.Sink in
    let sends = sends_more r rs (C.sent c.args.link.now) (C.sent c.loop-rounds.link) (C.sent c.round-turn.new.link) (C.faults c.args.link.now) (C.faults c.loop-rounds.link) (C.faults c.round-turn.new.link) was.link told.bytes t.4 in
    let keeps = keeps_more r rs (O.written c.args.self.now.tape.now) (O.written c.loop-rounds.self.tape.now) (O.written c.round-turn.new.self.tape.now) (O.faults c.args.self.now.tape.now) (O.faults c.loop-rounds.self.tape.now) (O.faults c.round-turn.new.self.tape.now)
    (row_of c.args.self.now.process.now) (row_of c.loop-rounds.self.process.now) c.loop-rounds.was_full was.tape f.serves.row f.full told.lines t.7 in
    record {
      rounds = r ∷ rs;
      so_far = so_far_more c.args.self.now.process.now c.loop-rounds.self.process.now c.round-turn.new.self.process.now c.loop-rounds.connection.reader c.round-turn.new.connection.reader c.loop-rounds.was_full c.round-turn.result.is_full c.round-turn.result.is_acked
          c.loop-rounds.acks c.counted-acks.result c.loop-rounds.rounds _ r rs f t.1 t.2 calm t.9 t.10 c.counted-acks.ensures refl;
      told = record {
        looks = Draws-then (C.gives c.args.link.now) (C.gives c.loop-rounds.link) (C.gives c.round-turn.new.link) _ _ told.looks t.3;
        bytes = sends.whole (calm_round r calm).1.0;
        moments = Draws-then (K.reads c.args.self.now.clock.now) (K.reads c.loop-rounds.self.clock.now) (K.reads c.round-turn.new.self.clock.now) _ _ told.moments t.5;
        words = Draws-then (W.gives c.args.self.now.words.now) (W.gives c.loop-rounds.self.words.now) (W.gives c.round-turn.new.self.words.now) _ _ told.words t.6;
        lines = keeps.whole (calm_round r calm).0;
        asks = asks_more (G.asked c.args.gate.now) (G.asked c.loop-rounds.gate) (G.asked c.pass.new.self) rs c.loop-rounds.rounds c.loop-rounds.acks f.long f.acked told.asks c.pass.ensures.asked;
      };
      levels = levels_then g.L.LowSide.stands g.L.LowSide.shape c.args.self.now.ends.now c.loop-rounds.self.ends.now (row_of c.args.self.now.process.now) (row_of c.loop-rounds.self.process.now) r.made (made_in rs) was.keeps.shape_is f.serves.row was.levels t.11;
      does = does_rounds g.L.LowSide.stands g.L.LowSide.shape c.args.self.now.ends.now c.loop-rounds.self.ends.now c.round-turn.new.self.ends.now c.args.self.now.process.now c.loop-rounds.self.process.now c.round-turn.new.self.process.now was.keeps.shape_is r.made rs f.serves was.does t.12;
      stores = stores_rounds g.D.Disk.told c.args.self.now.store.now c.loop-rounds.self.store.now c.round-turn.new.self.store.now c.args.self.now.process.now c.loop-rounds.self.process.now c.round-turn.new.self.process.now was.up r.made rs f.serves was.stores t.13;
      begun = c.round-turn.ensures.begun;
      keeps = keeps_then K.floor g.D.Disk.told g.L.LowSide.stands g.L.LowSide.shape g.L.LowSide.place c.args.self.now c.loop-rounds.self c.round-turn.new.self was.keeps c.round-turn.ensures.keeps;
      up = c.round-turn.ensures.up (ap is_device_in c.in_default.is) (not_lost c.round-turn.result.why c.in_default.is);
      most = one_more c.loop-rounds.rounds c.args.looks c.loop-rounds-test.true;
      link = sends.later;
      tape = keeps.later;
      gate = c.pass.ensures.passed (c.if-not-pass.false) ∙ was.gate;
    }

pub returns-then-not-pass : goal.returns-then-not-pass
returns-then-not-pass g c =
    let was = c.loop-rounds.invariant in
    let f = was.so_far in
    let t = was.told in
    let C = g.C.Link in
    let G = g.G.Gate in
    let O = g.O.Sink in
    record {
      served = record {
        rounds = was.rounds;
        serves = f.serves;
        is = (f.long, (some_left c.loop-rounds.rounds (length was.rounds) c.args.looks f.long c.loop-rounds-test.true, f.go_on));
        gave = t.looks;
        replies = reaches_whole (Grows (C.sent c.args.link.now) (C.sent c.loop-rounds.link)) (C.faults c.args.link.now) (C.faults c.loop-rounds.link) (all_sent was.rounds) (reply_bytes (made_in was.rounds)) (sent_on was.rounds f.go_on) was.link t.bytes;
        moments = t.moments;
        words = t.words;
        lines = reaches_whole (Appends (O.written c.args.self.now.tape.now) (O.written c.loop-rounds.self.tape.now)) (O.faults c.args.self.now.tape.now) (O.faults c.loop-rounds.self.tape.now) (all_kept was.rounds) (looks_text (row_of c.args.self.now.process.now) (record_of (made_in was.rounds))) (kept_on was.rounds f.go_on) was.tape t.lines;
        asks = asks_more (G.asked c.args.gate.now) (G.asked c.loop-rounds.gate) (G.asked c.pass.new.self) was.rounds c.loop-rounds.rounds c.loop-rounds.acks f.long f.acked t.asks c.pass.ensures.asked;
        levels = was.levels;
        does = was.does;
        stores = was.stores;
      };
      keeps = was.keeps;
      up = λ _ _. was.up;
      caused = record {
        link = λ e. absurd (stopped_no_link e);
        tape = λ e. absurd (stopped_no_record e);
        device = tt;
        stopped = λ _. subst (λ n. Rose n (G.stops c.pass.new.self)) was.gate (c.pass.ensures.stopped c.if-not-pass.true);
        went = λ goes_on. absurd (goes_on refl);
      };
    }

pub returns-in-Some : goal.returns-in-Some
returns-in-Some g c =
    let was = c.loop-rounds.invariant in
    let f = was.so_far in
    let told = was.told in
    let t = c.round-turn.ensures.turn in
    let r = t.0 in
    let rs = was.rounds in
    let why = sym t.8 ∙ c.in-Some.is in
    let long : length (r ∷ rs) ≤ c.args.looks = next_at_most c.loop-rounds.rounds (length rs) c.args.looks f.long c.loop-rounds-test.true in
    let C = g.C.Link in
    let K = g.K.Clock in
    let W = g.W.Words in
    let G = g.G.Gate in
    let O = g.O.Sink in
    let keeps = keeps_more r rs (O.written c.args.self.now.tape.now) (O.written c.loop-rounds.self.tape.now) (O.written c.round-turn.new.self.tape.now) (O.faults c.args.self.now.tape.now) (O.faults c.loop-rounds.self.tape.now) (O.faults c.round-turn.new.self.tape.now)
    (row_of c.args.self.now.process.now) (row_of c.loop-rounds.self.process.now) c.loop-rounds.was_full was.tape f.serves.row f.full told.lines t.7 in
    let e = c.round-turn.ensures in
    record {
      served = record {
        rounds = r ∷ rs;
        serves = serves_more c.args.self.now.process.now c.loop-rounds.self.process.now c.round-turn.new.self.process.now _ r rs f.serves f.go_on f.is_held t.1;
        is = (same_more c.loop-rounds.rounds (length rs) f.long, ended_by r rs c.args.looks c.in-Some.why long why);
        gave = Draws-then (C.gives c.args.link.now) (C.gives c.loop-rounds.link) (C.gives c.round-turn.new.link) _ _ told.looks t.3;
        replies = sends_more r rs (C.sent c.args.link.now) (C.sent c.loop-rounds.link) (C.sent c.round-turn.new.link) (C.faults c.args.link.now) (C.faults c.loop-rounds.link) (C.faults c.round-turn.new.link) was.link told.bytes t.4;
        moments = Draws-then (K.reads c.args.self.now.clock.now) (K.reads c.loop-rounds.self.clock.now) (K.reads c.round-turn.new.self.clock.now) _ _ told.moments t.5;
        words = Draws-then (W.gives c.args.self.now.words.now) (W.gives c.loop-rounds.self.words.now) (W.gives c.round-turn.new.self.words.now) _ _ told.words t.6;
        lines = keeps;
        asks = subst (Grows (G.asked c.args.gate.now) (G.asked c.pass.new.self)) (sym (asked_by r rs c.in-Some.why why)) (asks_more (G.asked c.args.gate.now) (G.asked c.loop-rounds.gate) (G.asked c.pass.new.self) rs c.loop-rounds.rounds c.loop-rounds.acks f.long f.acked told.asks c.pass.ensures.asked);
        levels = levels_then g.L.LowSide.stands g.L.LowSide.shape c.args.self.now.ends.now c.loop-rounds.self.ends.now (row_of c.args.self.now.process.now) (row_of c.loop-rounds.self.process.now) r.made (made_in rs) was.keeps.shape_is f.serves.row was.levels t.11;
        does = does_rounds g.L.LowSide.stands g.L.LowSide.shape c.args.self.now.ends.now c.loop-rounds.self.ends.now c.round-turn.new.self.ends.now c.args.self.now.process.now c.loop-rounds.self.process.now c.round-turn.new.self.process.now was.keeps.shape_is r.made rs f.serves was.does t.12;
        stores = stores_rounds g.D.Disk.told c.args.self.now.store.now c.loop-rounds.self.store.now c.round-turn.new.self.store.now c.args.self.now.process.now c.loop-rounds.self.process.now c.round-turn.new.self.process.now was.up r.made rs f.serves was.stores t.13;
      };
      keeps = keeps_then K.floor g.D.Disk.told g.L.LowSide.stands g.L.LowSide.shape g.L.LowSide.place c.args.self.now c.loop-rounds.self c.round-turn.new.self was.keeps e.keeps;
      up = up_after c.round-turn.result.why c.in-Some.why c.in-Some.is e.up;
      caused = record {
        link = λ is. rose_later _ _ _ was.link (e.link (c.in-Some.is ∙ ap (λ w. Some w) is));
        tape = λ is. keeps.cause (broken_round r (sym t.8 ∙ c.in-Some.is ∙ ap (λ w. Some w) is));
        device = fault_since c.round-turn.result.why c.in-Some.why _ _ _ c.in-Some.is was.keeps.counts e.device;
        stopped = λ is. absurd (no_stop r c.in-Some.why why is);
        went = λ _. c.pass.ensures.passed (c.if-not-pass.false) ∙ was.gate;
      };
    }

pub returns : goal.returns
returns g c =
    let was = c.loop-rounds.invariant in
    let f = was.so_far in
    let t = was.told in
    let C = g.C.Link in
    let O = g.O.Sink in
    record {
      served = record {
        rounds = was.rounds;
        serves = f.serves;
        is = (f.long, (none_left c.loop-rounds.rounds (length was.rounds) c.args.looks f.long was.most c.loop-rounds-test.false, f.go_on));
        gave = t.looks;
        replies = reaches_whole (Grows (C.sent c.args.link.now) (C.sent c.loop-rounds.link)) (C.faults c.args.link.now) (C.faults c.loop-rounds.link) (all_sent was.rounds) (reply_bytes (made_in was.rounds)) (sent_on was.rounds f.go_on) was.link t.bytes;
        moments = t.moments;
        words = t.words;
        lines = reaches_whole (Appends (O.written c.args.self.now.tape.now) (O.written c.loop-rounds.self.tape.now)) (O.faults c.args.self.now.tape.now) (O.faults c.loop-rounds.self.tape.now) (all_kept was.rounds) (looks_text (row_of c.args.self.now.process.now) (record_of (made_in was.rounds))) (kept_on was.rounds f.go_on) was.tape t.lines;
        asks = t.asks;
        levels = was.levels;
        does = was.does;
        stores = was.stores;
      };
      keeps = was.keeps;
      up = λ _ _. was.up;
      caused = record {
        link = λ e. absurd (looks_no_link e);
        tape = λ e. absurd (looks_no_record e);
        device = tt;
        stopped = λ e. absurd (looks_no_stop e);
        went = λ _. was.gate;
      };
    }
