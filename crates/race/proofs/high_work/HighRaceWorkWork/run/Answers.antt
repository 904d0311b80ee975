use Rattle.std.proofs.Common.{ℕ, ◌∙◌, Bool, true, false, refl, ap, subst, [], ◌∷◌}
use Rattle.pump_frame.specs.Counts.{raised, Rose}
use Rattle.pump_link.proofs.Grown.{Grows-nil}
use Rattle.high_process.specs.States.{removed_of}
use Rattle.race.specs.HighRacers.{HighAt}
use Rattle.race.proofs.HighAsks.{all_removed, none_taken, more_taken, given_back, asks_more, asks_of_all, asks_of_stopped}
use Rattle.race.proofs.KeptRacers.{stays_on}
use Rattle.race.proofs.Stops.{none_counted}
use Rattle.race.proofs.high_work.HighRaceWorkWork.run.Goals as goal

pub loop-init : goal.loop-init
loop-init g c = (
  [],
  record {
    keeps = record { racer = refl; gate = refl; stays = record { place_is = refl; shape_is = refl; count = refl; times = refl } };
    at = c.requires.0.at;
    going = c.requires.1;
    taken = none_taken g.H.HighSide.stands _ c.requires.0.at c.requires.0.none_removed;
    asks = Grows-nil _;
    stops_stay = refl;
  },
  refl,
)

pub loop-preserved-then-has_taken : goal.loop-preserved-then-has_taken
loop-preserved-then-has_taken g c =
    let i = c.loop.invariant in
    let s = i.1 in
    let stands = g.H.HighSide.stands in
    let was = c.loop.self.racer.now in
    let e = c.give_back.ensures in
    let at : HighAt stands true was = subst (λ (b : Bool). HighAt stands b was) c.if-has_taken.true s.at in (
      false ∷ i.0,
      record {
        keeps = record {
          racer = s.keeps.racer;
          gate = s.keeps.gate;
          stays = stays_on g.H.HighSide.place g.H.HighSide.shape _ was _ s.keeps.stays e.stays;
        };
        at = e.at;
        going = s.going;
        taken = given_back stands was c.give_back.new.self i.0 at e.at e.removed s.taken;
        asks = asks_more _ _ _ false i.0 c.loop.looks c.taken-taken.result i.2 (c.taken-taken.ensures ∙ s.taken) s.asks c.pass.ensures.asked;
        stops_stay = c.pass.ensures.passed c.if-not-pass.false ∙ s.stops_stay;
      },
      c.saturating_add-looks.ensures ∙ ap raised i.2,
    )

pub loop-preserved-then-not-has_taken : goal.loop-preserved-then-not-has_taken
loop-preserved-then-not-has_taken g c =
    let i = c.loop.invariant in
    let s = i.1 in
    let stands = g.H.HighSide.stands in
    let was = c.loop.self.racer.now in
    let e = c.look.ensures in
    let f = c.receive-has_taken.ensures in
    let took = c.receive-has_taken.result in
    let now = c.receive-has_taken.new.self in
    let at : HighAt stands false was = subst (λ (b : Bool). HighAt stands b was) c.if-has_taken.false s.at in (
      took ∷ i.0,
      record {
        keeps = record {
          racer = s.keeps.racer;
          gate = s.keeps.gate;
          stays = stays_on g.H.HighSide.place g.H.HighSide.shape _ was _ s.keeps.stays
              (record { place_is = ap g.H.HighSide.place f.ends ∙ e.stays.place_is; shape_is = ap g.H.HighSide.shape f.ends ∙ e.stays.shape_is; count = f.count ∙ e.stays.count; times = f.times ∙ e.stays.times });
        };
        at = f.at;
        going = s.going;
        taken = more_taken stands was now took i.0 at f.at (ap removed_of f.process ∙ e.removed) s.taken;
        asks = asks_more _ _ _ took i.0 c.loop.looks c.taken-taken.result i.2 (c.taken-taken.ensures ∙ s.taken) s.asks c.pass.ensures.asked;
        stops_stay = c.pass.ensures.passed c.if-not-pass.false ∙ s.stops_stay;
      },
      c.saturating_add-looks.ensures ∙ ap raised i.2,
    )

pub loop-preserved : goal.loop-preserved
loop-preserved g c =
    let i = c.loop.invariant in
    let s = i.1 in
    let stands = g.H.HighSide.stands in
    let was = c.loop.self.racer.now in
    let e = c.look.ensures in
    let f = c.receive-has_taken.ensures in
    let took = c.receive-has_taken.result in
    let now = c.receive-has_taken.new.self in
    let at : HighAt stands false was = subst (λ (b : Bool). HighAt stands b was) c.if-has_taken.false s.at in (
      took ∷ i.0,
      record {
        keeps = record {
          racer = s.keeps.racer;
          gate = s.keeps.gate;
          stays = stays_on g.H.HighSide.place g.H.HighSide.shape _ was _ s.keeps.stays
              (record { place_is = ap g.H.HighSide.place f.ends ∙ e.stays.place_is; shape_is = ap g.H.HighSide.shape f.ends ∙ e.stays.shape_is; count = f.count ∙ e.stays.count; times = f.times ∙ e.stays.times });
        };
        at = f.at;
        going = s.going;
        taken = more_taken stands was now took i.0 at f.at (ap removed_of f.process ∙ e.removed) s.taken;
        asks = asks_more _ _ _ took i.0 c.loop.looks c.taken-taken.result i.2 (c.taken-taken.ensures ∙ s.taken) s.asks c.pass.ensures.asked;
        stops_stay = c.pass.ensures.passed c.if-not-pass.false ∙ s.stops_stay;
      },
      c.saturating_add-looks.ensures ∙ ap raised i.2,
    )

pub returns-then-is_done : goal.returns-then-is_done
returns-then-is_done g c =
    let i = c.loop.invariant in
    let s = i.1 in
    let stands = g.H.HighSide.stands in
    let w = c.loop.self.racer.now in
    let all = c.is_done.ensures.yes c.if-is_done.true in
    record {
      keeps = s.keeps;
      ends = record {
        any = (s.at.high, s.at.fitting.0);
        done = λ e. (all_removed stands c.loop.has_taken w s.at all, all);
        stops = none_counted c.loop.self.is_stopped (g.G.Gate.stops c.args.self.now.gate.now) (g.G.Gate.stops c.loop.self.gate.now) s.going s.stops_stay;
      };
      asks = asks_of_all stands c.loop.has_taken c.loop.self.is_stopped w i.0 _ _ s.at s.taken s.asks s.going all;
    }

pub returns-then-not-pass : goal.returns-then-not-pass
returns-then-not-pass g c =
    let i = c.loop.invariant in
    let s = i.1 in
    let stands = g.H.HighSide.stands in
    let w = c.loop.self.racer.now in
    record {
      keeps = record {
        racer = s.keeps.racer;
        gate = s.keeps.gate;
        stays = s.keeps.stays;
      };
      ends = record {
        any = (s.at.high, s.at.fitting.0);
        done = λ e. absurd (cc);
        stops = subst (λ (n : ℕ). Rose n (g.G.Gate.stops c.pass.new.self)) s.stops_stay (c.pass.ensures.stopped c.if-not-pass.true);
      };
      asks = asks_of_stopped stands c.loop.has_taken w i.0 _ _ s.at s.taken (asks_more _ _ _ false i.0 c.loop.looks c.taken-taken.result i.2 (c.taken-taken.ensures ∙ s.taken) s.asks c.pass.ensures.asked);
    }
