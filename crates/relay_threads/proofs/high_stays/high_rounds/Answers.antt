use Rattle.std.proofs.Common.{rules, ◌≡◌, ◌≤◌, ◌+◌, ◌-◌, List, [], ◌∷◌, refl, ap, subst, arith, None, Some}
use Rattle.std.specs.List.{AllByRecursion}
use Rattle.pump_link.specs.Tells.{Draws, Grows}
use Rattle.pump_link.proofs.Grown.{Draws-nil, Draws-then, Grows-nil, Grows-then}
use Rattle.relay_threads.specs.HighStays.{Stay, StaysSo, EndsStays, EndsStayBy, TellsVisit, count, count_at, is_broken, steps, answers, moments_in}
use Rattle.relay_threads.specs.HighEnds.{StaysTake}
use Rattle.high_process.specs.States.{row_of}
use Rattle.relay_threads.specs.declared.rounds_end.RoundsEnd.TheVariants.{Rounds as RoundsMade}
use Rattle.relay_threads.proofs.HighEnding.{takes_nothing, stays_take}
use Rattle.relay_threads.proofs.HighGoing.{goes_none, goes_then, can_again, moved}
use Rattle.relay_threads.proofs.HighStaying.{stays_none, stays_more, tells_at, worker_ends}
use Rattle.relay_threads.proofs.high_stays.high_rounds.Goals as goal

pub loop-made-init : goal.loop-made-init
loop-made-init g c = record {
  stays = [];
  so = stays_none c.args.process.now;
  takes = takes_nothing g.H.HighSide.stands c.args.ends.now c.args.process.now;
  over = λ lt. tt;
  calm = refl;
  told = record { door = Grows-nil _; came = Draws-nil _; links = tt; moments = Draws-nil _ };
  made = refl;
  port = λ n h. h;
  most = omega arith;
  can = record { ready = c.requires.ready; order = c.requires.order };
  goes_on = goes_none g.K.Clock.floor g.D.Disk.told g.H.HighSide.stands g.H.HighSide.shape g.H.HighSide.place _ (record { ready = c.requires.ready; order = c.requires.order });
}

pub returns-in-Some-clause-rounds : goal.returns-in-Some-clause-rounds
returns-in-Some-clause-rounds g c =
    let last = c.in-Some.end-1-own.given.0.0.0 in
    let last_is : c.stay-turn.result.end ≡ Some last = search rules in
    let P = g.P.Door in
    let K = g.K.Clock in
    let H = g.H.HighSide in
    let v = c.args in
    let clock_is : c.stay-turn.new.self.clock.now ≡ c.in-Some.clock-in-Some-1-own.given.0 = search rules in
    let process_is : c.stay-turn.new.self.process.now ≡ c.in-Some.process-in-Some-1-own.given.0 = search rules in
    let ends_is : c.stay-turn.new.self.ends.now ≡ c.in-Some.ends-in-Some-1-own.given.0 = search rules in
    moved
    (λ clock process ends. (stays : List (Stay g.row.P-Link.Denot)) × StaysSo v.process.now process stays × EndsStays stays v.rounds last
    × Grows (P.did v.door.now) (P.did c.stay-turn.new.door) (steps stays) × Draws (P.gives v.door.now) (P.gives c.stay-turn.new.door) (answers stays)
    × AllByRecursion (TellsVisit g.P.Link.Link.gives g.P.Link.Link.sent g.P.Link.Link.faults (row_of v.process.now).id) stays
    × Draws (K.reads v.clock.now) (K.reads clock) (moments_in stays) × StaysTake H.stands v.ends.now ends v.process.now process stays)
    clock_is process_is ends_is (
    let was = c.loop-made.invariant in
    let t = was.told in
    let s = c.stay-turn.ensures.stay in
    let x = s.0 in
    let past = was.stays in
    let le : count past + count_at x ≤ c.args.rounds = omega (arith, was.made, s.2.bound, c.loop-made-test.true, c.from-most.ensures) in (
      x ∷ past,
      stays_more c.args.process.now c.loop-made.worker.process.now c.stay-turn.new.self.process.now x past was.can.ready.up (was.over c.loop-made-test.true) was.so s.1,
      worker_ends x past c.args.rounds (c.from-most.result - c.loop-made.made) c.stay-turn.result.looks last le (subst (λ e. EndsStayBy x (c.from-most.result - c.loop-made.made) c.stay-turn.result.looks e) last_is s.2.ends),
      Grows-then _ _ _ _ _ t.door s.3,
      Draws-then _ _ _ _ _ t.came s.4,
      (tells_at _ _ _ c.args.process.now c.loop-made.worker.process.now x was.so.row s.5, t.links),
      Draws-then _ _ _ _ _ t.moments s.6,
      stays_take g.H.HighSide.stands c.args.ends.now c.loop-made.worker.ends.now c.stay-turn.new.self.ends.now c.args.process.now c.loop-made.worker.process.now c.stay-turn.new.self.process.now x past was.so.row (was.so.past was.can.ready.up) was.takes s.7,
    ))

pub loop-made-preserved : goal.loop-made-preserved
loop-made-preserved g c =
    let was = c.loop-made.invariant in
    let t = was.told in
    let s = c.stay-turn.ensures.stay in
    let x = s.0 in
    let past = was.stays in
    let ends : EndsStayBy x (c.from-most.result - c.loop-made.made) c.stay-turn.result.looks None = subst (λ e. EndsStayBy x (c.from-most.result - c.loop-made.made) c.stay-turn.result.looks e) c.in_default.is s.2.ends in
    record {
      stays = x ∷ past;
      so = stays_more c.args.process.now c.loop-made.worker.process.now c.stay-turn.new.self.process.now x past was.can.ready.up (was.over c.loop-made-test.true) was.so s.1;
      takes = stays_take g.H.HighSide.stands c.args.ends.now c.loop-made.worker.ends.now c.stay-turn.new.self.ends.now c.args.process.now c.loop-made.worker.process.now c.stay-turn.new.self.process.now x past was.so.row (was.so.past was.can.ready.up) was.takes s.7;
      over = λ lt. (ends.0 (omega (arith, lt, c.loop-made-test.true)), was.over c.loop-made-test.true);
      calm = ends.1;
      told = record {
        door = Grows-then _ _ _ _ _ t.door s.3;
        came = Draws-then _ _ _ _ _ t.came s.4;
        links = (tells_at _ _ _ c.args.process.now c.loop-made.worker.process.now x was.so.row s.5, t.links);
        moments = Draws-then _ _ _ _ _ t.moments s.6;
      };
      made = omega (arith, was.made, s.2.looks);
      port = λ n h. c.stay-turn.ensures.port n (was.port n h);
      most = omega (arith, s.2.looks, s.2.bound, c.loop-made-test.true);
      can = can_again g.K.Clock.floor g.D.Disk.told g.H.HighSide.stands g.H.HighSide.shape g.H.HighSide.place c.loop-made.worker c.stay-turn.new.self c.stay-turn.ensures.goes_on (c.stay-turn.ensures.up (ap is_broken c.in_default.is));
      goes_on = goes_then g.K.Clock.floor g.D.Disk.told g.H.HighSide.stands g.H.HighSide.shape g.H.HighSide.place _ c.loop-made.worker c.stay-turn.new.self was.goes_on c.stay-turn.ensures.goes_on;
    }

pub returns-clause-rounds : goal.returns-clause-rounds
returns-clause-rounds g c =
    let P = g.P.Door in
    let K = g.K.Clock in
    let H = g.H.HighSide in
    let v = c.args in
    moved
    (λ clock process ends. (stays : List (Stay g.row.P-Link.Denot)) × StaysSo v.process.now process stays × EndsStays stays v.rounds RoundsMade
    × Grows (P.did v.door.now) (P.did c.loop-made.door) (steps stays) × Draws (P.gives v.door.now) (P.gives c.loop-made.door) (answers stays)
    × AllByRecursion (TellsVisit g.P.Link.Link.gives g.P.Link.Link.sent g.P.Link.Link.faults (row_of v.process.now).id) stays
    × Draws (K.reads v.clock.now) (K.reads clock) (moments_in stays) × StaysTake H.stands v.ends.now ends v.process.now process stays)
    (search rules) (search rules) (search rules) (
    let was = c.loop-made.invariant in
    let t = was.told in
    (was.stays, was.so, (omega (arith, was.made, was.most, c.loop-made-test.false, c.from-most.ensures), was.calm), t.door, t.came, t.links, t.moments, was.takes))
