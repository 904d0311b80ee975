use Rattle.std.proofs.Common.{rules, ◌≡◌, ◌≤◌, ◌+◌, [], ◌∷◌, refl, sym, ap, ◌∙◌, subst, le_refl, arith, Some, true}
use Rattle.std.specs.Io.KnownBytes.{Appends}
use Rattle.pump_link.proofs.Grown.{Draws-then, Grows-then}
use Rattle.low_process.specs.Looks.{row_of}
use Rattle.relay_threads.specs.Reaching.{Reaches}
use Rattle.pump_link.specs.Tells.{Draws, Grows}
use Rattle.low_process.specs.Ready.{Ready}
use Rattle.relay_threads.specs.Levels.{IsEndOf}
use Rattle.relay_threads.specs.LowEnds.{DoesSo, StoresSo}
use Rattle.relay_threads.specs.LowWorks.{ServesDoor}
use Rattle.relay_threads.specs.declared.rounds_end.RoundsEnd.TheVariants.{Rounds as RoundsMade}
use Rattle.relay_threads.specs.LowStays.{TellsVisit, count, count_at, is_ended, is_kept_by, text_at}
use Rattle.relay_threads.proofs.Counting.{none_at_most}
use Rattle.relay_threads.proofs.Levels.{levels_stays, still_end}
use Rattle.relay_threads.proofs.LowEnds.{does_none, does_stays, stores_none, stores_stays}
use Rattle.relay_threads.proofs.LowWorkers.{keeps_none, keeps_then, moved}
use Rattle.relay_threads.proofs.Reaching.{reaches_all}
use Rattle.relay_threads.proofs.LowStaying.{stays_none, stays_more, stays_told_none, lines_more, worker_ends, recorded_as}
use Rattle.relay_threads.proofs.low_stays.low_rounds.Goals as goal

pub loop-made-init : goal.loop-made-init
loop-made-init g c = record {
  stays = [];
  so = stays_none g.row.P-Link.Denot c.args.process.now;
  told = stays_told_none _ _ _ _ _ _ _ _ _;
  levels = λ end. tt;
  does = does_none g.L.LowSide.stands g.L.LowSide.shape c.args.ends.now c.args.process.now;
  stores = stores_none g.D.Disk.told c.args.store.now c.args.process.now;
  on = refl;
  over = λ lt. tt;
  made = refl;
  port = λ n h. h;
  most = none_at_most _;
  keeps = keeps_none g.K.Clock.floor g.D.Disk.told g.L.LowSide.stands g.L.LowSide.shape g.L.LowSide.place _ (record { ready = c.requires.ready; order = c.requires.order });
  up = c.requires.up;
  tape = le_refl _;
}

pub returns-in-Some-clause-rounds : goal.returns-in-Some-clause-rounds
returns-in-Some-clause-rounds g c =
    let last = c.in-Some.end-1-own.given.0.0.0 in
    let last_is : c.stay-turn.result.end ≡ Some last = search rules in
    let P = g.P.Door in
    let K = g.K.Clock in
    let W = g.W.Words in
    let O = g.O.Sink in
    let L = g.L.LowSide in
    let v = c.args in
    let clock_is : c.stay-turn.new.self.clock.now ≡ c.in-Some.clock-in-Some-1-own.given.0 = search rules in
    let words_is : c.stay-turn.new.self.words.now ≡ c.in-Some.words-in-Some-1-own.given.0 = search rules in
    let process_is : c.stay-turn.new.self.process.now ≡ c.in-Some.process-in-Some-1-own.given.0 = search rules in
    let store_is : c.stay-turn.new.self.store.now ≡ c.in-Some.store-in-Some-1-own.given.0 = search rules in
    let ends_is : c.stay-turn.new.self.ends.now ≡ c.in-Some.ends-in-Some-1-own.given.0 = search rules in
    let tape_is : c.stay-turn.new.self.tape.now ≡ c.in-Some.tape-in-Some-1-own.given.0 = search rules in
    moved
    (λ clock words process store ends tape. ServesDoor v.process.now process v.rounds last
    (Grows (P.did v.door.now) (P.did c.stay-turn.new.door)) (Draws (P.gives v.door.now) (P.gives c.stay-turn.new.door))
    (TellsVisit g.P.Link.Link.gives g.P.Link.Link.sent g.P.Link.Link.faults)
    (Draws (K.reads v.clock.now) (K.reads clock)) (Draws (W.gives v.words.now) (W.gives words))
    (Reaches (Appends (O.written v.tape.now) (O.written tape)) (O.faults v.tape.now) (O.faults tape))
    (IsEndOf L.stands L.shape v.ends.now (row_of v.process.now))
    (DoesSo L.stands L.shape v.ends.now ends v.process.now process)
    (StoresSo g.D.Disk.told v.store.now store v.process.now process)
    (Ready g.D.Disk.told process store (L.stands ends)))
    clock_is words_is process_is store_is ends_is tape_is (
    let was = c.loop-made.invariant in
    let t = was.told in
    let s = c.stay-turn.ensures.stay in
    let x = s.0 in
    let past = was.stays in
    let ends = s.2 in
    let O = g.O.Sink in
    let le : count past + count_at x ≤ c.args.rounds = omega (arith, was.made, ends.bound, c.loop-made-test.true, c.from-most.ensures) in
    let line : Reaches (Appends (O.written c.loop-made.worker.tape.now) (O.written c.stay-turn.new.self.tape.now)) (O.faults c.loop-made.worker.tape.now) (O.faults c.stay-turn.new.self.tape.now) (is_kept_by (Some last)) (text_at (row_of c.loop-made.worker.process.now) x) =
    subst (λ e. Reaches (Appends (O.written c.loop-made.worker.tape.now) (O.written c.stay-turn.new.self.tape.now)) (O.faults c.loop-made.worker.tape.now) (O.faults c.stay-turn.new.self.tape.now) (is_kept_by e) (text_at (row_of c.loop-made.worker.process.now) x)) last_is s.8 in record {
      stays = x ∷ past;
      so = stays_more c.args.process.now c.loop-made.worker.process.now c.stay-turn.new.self.process.now x past (was.over c.loop-made-test.true) was.so s.1;
      ends = worker_ends x past c.args.rounds last (sym ends.end ∙ last_is) le;
      did = Grows-then _ _ _ _ _ t.door s.3;
      gave = Draws-then _ _ _ _ _ t.came s.4;
      links = (s.5, t.links);
      moments = Draws-then _ _ _ _ _ t.moments s.6;
      words = Draws-then _ _ _ _ _ t.words s.7;
      lines = lines_more (O.written c.args.tape.now) (O.written c.loop-made.worker.tape.now) (O.written c.stay-turn.new.self.tape.now) (O.faults c.args.tape.now) (O.faults c.loop-made.worker.tape.now) (O.faults c.stay-turn.new.self.tape.now) (row_of c.args.process.now) (row_of c.loop-made.worker.process.now) x past (is_kept_by (Some last)) was.tape was.so.row t.lines line;
      is_record = recorded_as c.args.process.now c.stay-turn.new.self.process.now (x ∷ past) (stays_more c.args.process.now c.loop-made.worker.process.now c.stay-turn.new.self.process.now x past (was.over c.loop-made-test.true) was.so s.1);
      levels = (λ end. levels_stays (row_of c.args.process.now) (row_of c.loop-made.worker.process.now) x past was.so.row (was.levels end)
          (s.9 (still_end g.L.LowSide.stands g.L.LowSide.shape c.args.ends.now c.loop-made.worker.ends.now (row_of c.args.process.now) (row_of c.loop-made.worker.process.now) was.keeps.shape_is was.so.row end)));
      does = does_stays g.L.LowSide.stands g.L.LowSide.shape c.args.ends.now c.loop-made.worker.ends.now c.stay-turn.new.self.ends.now c.args.process.now c.loop-made.worker.process.now c.stay-turn.new.self.process.now was.keeps.shape_is x past was.so was.does s.10;
      stores = stores_stays g.D.Disk.told c.args.store.now c.loop-made.worker.store.now c.stay-turn.new.self.store.now c.args.process.now c.loop-made.worker.process.now c.stay-turn.new.self.process.now was.up x past was.so was.stores s.11;
      rests = c.stay-turn.ensures.keeps.rests.ready;
    })

pub returns-clause-rounds : goal.returns-clause-rounds
returns-clause-rounds g c =
    let P = g.P.Door in
    let K = g.K.Clock in
    let W = g.W.Words in
    let O = g.O.Sink in
    let L = g.L.LowSide in
    let v = c.args in
    moved
    (λ clock words process store ends tape. ServesDoor v.process.now process v.rounds RoundsMade
    (Grows (P.did v.door.now) (P.did c.loop-made.door)) (Draws (P.gives v.door.now) (P.gives c.loop-made.door))
    (TellsVisit g.P.Link.Link.gives g.P.Link.Link.sent g.P.Link.Link.faults)
    (Draws (K.reads v.clock.now) (K.reads clock)) (Draws (W.gives v.words.now) (W.gives words))
    (Reaches (Appends (O.written v.tape.now) (O.written tape)) (O.faults v.tape.now) (O.faults tape))
    (IsEndOf L.stands L.shape v.ends.now (row_of v.process.now))
    (DoesSo L.stands L.shape v.ends.now ends v.process.now process)
    (StoresSo g.D.Disk.told v.store.now store v.process.now process)
    (Ready g.D.Disk.told process store (L.stands ends)))
    (search rules) (search rules) (search rules) (search rules) (search rules) (search rules) (
    let was = c.loop-made.invariant in
    let t = was.told in record {
      stays = was.stays;
      so = was.so;
      ends = (omega (arith, was.made, was.most, c.loop-made-test.false, c.from-most.ensures), was.on);
      did = t.door;
      gave = t.came;
      links = t.links;
      moments = t.moments;
      words = t.words;
      lines = reaches_all _ _ _ _ was.tape t.lines;
      is_record = recorded_as c.args.process.now c.loop-made.worker.process.now was.stays was.so;
      levels = was.levels;
      does = was.does;
      stores = was.stores;
      rests = was.keeps.rests.ready;
    })

pub loop-made-preserved : goal.loop-made-preserved
loop-made-preserved g c =
    let was = c.loop-made.invariant in
    let t = was.told in
    let s = c.stay-turn.ensures.stay in
    let x = s.0 in
    let past = was.stays in
    let ends = s.2 in
    let O = g.O.Sink in
    let none = sym ends.end ∙ c.in_default.is in
    let line : Reaches (Appends (O.written c.loop-made.worker.tape.now) (O.written c.stay-turn.new.self.tape.now)) (O.faults c.loop-made.worker.tape.now) (O.faults c.stay-turn.new.self.tape.now) true (text_at (row_of c.loop-made.worker.process.now) x) =
    subst (λ e. Reaches (Appends (O.written c.loop-made.worker.tape.now) (O.written c.stay-turn.new.self.tape.now)) (O.faults c.loop-made.worker.tape.now) (O.faults c.stay-turn.new.self.tape.now) (is_kept_by e) (text_at (row_of c.loop-made.worker.process.now) x)) c.in_default.is s.8 in
    let lines = lines_more (O.written c.args.tape.now) (O.written c.loop-made.worker.tape.now) (O.written c.stay-turn.new.self.tape.now) (O.faults c.args.tape.now) (O.faults c.loop-made.worker.tape.now) (O.faults c.stay-turn.new.self.tape.now) (row_of c.args.process.now) (row_of c.loop-made.worker.process.now) x past true was.tape was.so.row t.lines line in
    record {
      stays = x ∷ past;
      so = stays_more c.args.process.now c.loop-made.worker.process.now c.stay-turn.new.self.process.now x past (was.over c.loop-made-test.true) was.so s.1;
      told = record {
        door = Grows-then _ _ _ _ _ t.door s.3;
        came = Draws-then _ _ _ _ _ t.came s.4;
        links = (s.5, t.links);
        moments = Draws-then _ _ _ _ _ t.moments s.6;
        words = Draws-then _ _ _ _ _ t.words s.7;
        lines = lines.whole refl;
      };
      levels = (λ end. levels_stays (row_of c.args.process.now) (row_of c.loop-made.worker.process.now) x past was.so.row (was.levels end)
          (s.9 (still_end g.L.LowSide.stands g.L.LowSide.shape c.args.ends.now c.loop-made.worker.ends.now (row_of c.args.process.now) (row_of c.loop-made.worker.process.now) was.keeps.shape_is was.so.row end)));
      does = does_stays g.L.LowSide.stands g.L.LowSide.shape c.args.ends.now c.loop-made.worker.ends.now c.stay-turn.new.self.ends.now c.args.process.now c.loop-made.worker.process.now c.stay-turn.new.self.process.now was.keeps.shape_is x past was.so was.does s.10;
      stores = stores_stays g.D.Disk.told c.args.store.now c.loop-made.worker.store.now c.stay-turn.new.self.store.now c.args.process.now c.loop-made.worker.process.now c.stay-turn.new.self.process.now was.up x past was.so was.stores s.11;
      on = none;
      over = λ lt. (ends.over (omega (arith, lt, ends.looks)) none, was.over c.loop-made-test.true);
      made = omega (arith, was.made, ends.looks);
      port = λ n h. c.stay-turn.ensures.port n (was.port n h);
      most = omega (arith, ends.looks, ends.bound, c.loop-made-test.true);
      keeps = keeps_then g.K.Clock.floor g.D.Disk.told g.L.LowSide.stands g.L.LowSide.shape g.L.LowSide.place _ c.loop-made.worker c.stay-turn.new.self was.keeps c.stay-turn.ensures.keeps;
      up = c.stay-turn.ensures.up (ap is_ended c.in_default.is);
      tape = lines.later;
    }
