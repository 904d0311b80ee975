use Rattle.std.proofs.Common.{ℕ, false, List, [], ◌∷◌, ◌++◌, refl, sym, ap, ◌∙◌, subst, arith}
use Rattle.pump_frame.specs.Counts.{raised}
use Rattle.pump_link.specs.Tells.{Draws}
use Rattle.pump_link.proofs.Grown.{Grows-nil}
use Rattle.relay_threads.specs.Records.{record_of}
use Rattle.relay_threads.specs.RecordLines.{looks_text, made_by, HasLawfulFrame}
use Rattle.script_reader.specs.Generated.{generated_row}
use Rattle.race.specs.LowRacers.{offered}
use Rattle.race.specs.MadeLooks.{moments_of, is_ack, acks_of}
use Rattle.race.specs.LowWorks.{LowSoFar}
use Rattle.race.specs.Messages.{messages_in}
use Rattle.race.specs.Race.{look_lines}
use Rattle.race.specs.Tape.{Prints}
use Rattle.race.specs.Turns.{asks_in_run}
use Rattle.race.proofs.Frames.{has_lawful}
use Rattle.race.proofs.HighAsks.{asks_more}
use Rattle.race.proofs.LowAsks.{acks_are}
use Rattle.race.proofs.LowRuns.{draws_none, draws_then, looks_more}
use Rattle.race.proofs.Replayable.{readable_more}
use Rattle.race.proofs.Stops.{none_counted, goes_on, stops_here}
use Rattle.race.proofs.Tapes.{prints_none, prints_then}
use Rattle.race.proofs.low_work.LowRaceWorkWork.run.Goals as goal

pub loop-init : goal.loop-init
loop-init g c = (
  [],
  record {
    keeps = record { racer = refl; clock = refl; out = refl; tape = refl; gate = refl; stays = record { place_is = refl; shape_is = refl; seed = refl; count = refl } };
    at = c.requires.at;
    order = c.requires.order;
    row = c.requires.row;
    draws = draws_none _;
    prints = prints_none _ _ _;
    readable = tt;
    asks_are = Grows-nil _;
    stops_so = none_counted c.args.self.now.is_stopped (g.G.Gate.stops c.args.self.now.gate.now) (g.G.Gate.stops c.args.self.now.gate.now) c.requires.going refl;
  },
  refl,
  c.requires.going,
  refl,
)

pub look_with-made-requires-clause-at : goal.look_with-made-requires-clause-at
look_with-made-requires-clause-at g c =
    let i = c.loop.invariant in
    (i.0, c.next_frame-comes.ensures.offer i.0 i.1.at)

pub look-requires-clause-lawful : goal.look-requires-clause-lawful
look-requires-clause-lawful g c = subst HasLawfulFrame (sym c.look_with-made.ensures.arrival) (has_lawful (offered c.next_frame-comes.result c.next_frame-comes.new.into) c.next_frame-comes.ensures.lawful)

pub look-requires-clause-plain : goal.look-requires-clause-plain
look-requires-clause-plain g c =
    let i = c.loop.invariant in
    let (left, at, offer) = c.next_frame-comes.ensures.offer i.0 i.1.at in
    (c.look_with-made.ensures.at i.0 left at offer).plain.0

pub loop-preserved : goal.loop-preserved
loop-preserved g c =
    let i = c.loop.invariant in
    let made = i.0 in
    let s = i.1 in
    let x = c.look_with-made.result in
    let m = made_by generated_row x in
    let K = g.K.Clock in
    let O = g.O.Sink in
    let looked = c.look_with-made.ensures.stays in
    let done = acks_are g.L.LowSide.stands g.L.LowSide.shape c.loop.self.racer.now (messages_in c.loop.self.racer.now.script) made s.at c.acknowledged-acknowledged.result c.acknowledged-acknowledged.ensures.idle c.acknowledged-acknowledged.ensures.busy in
    let (left, at, offer) = c.next_frame-comes.ensures.offer made s.at in (
      m ∷ made,
      record {
        keeps = record {
          racer = s.keeps.racer;
          clock = s.keeps.clock;
          out = s.keeps.out;
          tape = s.keeps.tape;
          gate = s.keeps.gate;
          stays = record {
            place_is = looked.place_is ∙ ap (λ e. g.L.LowSide.place e) c.next_frame-comes.ensures.ends ∙ s.keeps.stays.place_is;
            shape_is = looked.shape_is ∙ ap (λ e. g.L.LowSide.shape e) c.next_frame-comes.ensures.ends ∙ s.keeps.stays.shape_is;
            seed = looked.seed ∙ c.next_frame-comes.ensures.seed ∙ s.keeps.stays.seed;
            count = looked.count ∙ c.next_frame-comes.ensures.count ∙ s.keeps.stays.count;
          };
        };
        at = c.look_with-made.ensures.at made left at offer;
        order = omega (arith, c.look_with-made.ensures.last, c.moment-moment.ensures.to);
        row = c.look.ensures.row ∙ s.row;
        draws = subst (λ (z : ℕ). Draws (K.reads c.args.self.now.clock.now) (K.reads c.moment-moment.new.self) (moments_of made ++ z ∷ [])) (sym c.look_with-made.ensures.moment)
            (draws_then _ _ _ (moments_of made) (c.moment-moment.result ∷ []) s.draws c.moment-moment.ensures.reads);
        prints = subst (λ (z : List ℕ). Prints c.args.self.now.tape.now c.look.new.self (O.written c.args.self.now.out.now) (O.written c.look.new.out) (O.faults c.args.self.now.out.now) (O.faults c.look.new.out) z)
            (looks_more m made)
            (prints_then c.args.self.now.tape.now c.loop.self.tape.now c.look.new.self (O.written c.args.self.now.out.now) (O.written c.loop.self.out.now) (O.written c.look.new.out)
            (O.faults c.args.self.now.out.now) (O.faults c.loop.self.out.now) (O.faults c.look.new.out)
            (looks_text generated_row (record_of made)) (look_lines made m) s.prints (c.look.ensures.prints made i.2));
        readable = readable_more made m (c.look.ensures.reads made i.2) s.readable;
        asks_are = asks_more _ _ _ (is_ack m.reply) (acks_of made) c.loop.looks c.acknowledged-acknowledged.result i.4 done s.asks_are c.pass.ensures.asked;
        stops_so = goes_on c.loop.self.is_stopped (g.G.Gate.stops c.args.self.now.gate.now) (g.G.Gate.stops c.loop.self.gate.now) (g.G.Gate.stops c.pass.new.self) i.3 (c.pass.ensures.passed c.if-not-pass.false) s.stops_so;
      },
      c.found_full-was_full.ensures,
      i.3,
      c.saturating_add-looks.ensures ∙ ap raised i.4,
    )

pub returns-then-not-pass : goal.returns-then-not-pass
returns-then-not-pass g c =
    let i = c.loop.invariant in
    let made = i.0 in
    let s = i.1 in
    let racer = c.loop.self.racer.now in
    let taken = c.acknowledged-acknowledged in
    let done = acks_are g.L.LowSide.stands g.L.LowSide.shape racer (messages_in racer.script) made s.at taken.result taken.ensures.idle taken.ensures.busy in
    record {
      made = made;
      so_far = record {
        keeps = record { racer = s.keeps.racer; clock = s.keeps.clock; out = s.keeps.out; tape = s.keeps.tape; gate = s.keeps.gate; stays = s.keeps.stays };
        at = s.at;
        order = s.order;
        row = s.row;
        draws = s.draws;
        prints = s.prints;
        readable = s.readable;
        asks_are = asks_more _ _ _ false (acks_of made) c.loop.looks taken.result i.4 done s.asks_are c.pass.ensures.asked;
        stops_so = stops_here c.loop.self.is_stopped (g.G.Gate.stops c.args.self.now.gate.now) (g.G.Gate.stops c.loop.self.gate.now) (g.G.Gate.stops c.pass.new.self) i.3 s.stops_so (c.pass.ensures.stopped c.if-not-pass.true);
      };
      ended = λ e. absurd (cc);
    }

pub returns-then-is_done : goal.returns-then-is_done
returns-then-is_done g c =
    let i = c.loop.invariant in
    record {
      made = i.0;
      so_far = subst (λ b. LowSoFar g.K.Clock.reads g.K.Clock.floor g.O.Sink.written g.O.Sink.faults g.L.LowSide.stands g.L.LowSide.place g.L.LowSide.shape g.G.Gate.asked g.G.Gate.stops c.args.self.now c.loop.self i.0 (asks_in_run b (acks_of i.0))) (sym i.3) i.1;
      ended = λ _. c.is_done.ensures c.if-is_done.true;
    }
