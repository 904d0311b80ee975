use Rattle.std.proofs.Common.{◌+◌, ◌-◌, ◌∙◌, [], refl, sym, ap, subst, arith, le_refl, le_trans}
use Rattle.pump_link.specs.Doors.{answered}
use Rattle.pump_link.specs.Tells.{Draws}
use Rattle.pump_link.proofs.Grown.{Draws-nil, Draws-then, Draws-kept, Grows-then}
use Rattle.pump_link.proofs.Known.{Appends-none}
use Rattle.stable_buffer.specs.Low.{low_disk}
use Rattle.low_process.specs.Looks.{row_of}
use Rattle.relay_threads.specs.LowRounds.{made_in, words_of}
use Rattle.relay_threads.specs.LowServes.{CountsFault}
use Rattle.relay_threads.specs.LowStays.{Alone, With, Visit}
use Rattle.relay_threads.proofs.HighStaying.{nobody}
use Rattle.relay_threads.proofs.Levels.{levels_then}
use Rattle.relay_threads.proofs.LowStaying.{alone_so, alone_ends, with_so, ends_stay}
use Rattle.relay_threads.proofs.LowVisiting.{goes, caused_by, bound_of, left_of, ends_as, kept_left, left_calm, calm_end, end_counts}
use Rattle.relay_threads.proofs.LowEnds.{does_none, does_rounds, stores_none, stores_rounds}
use Rattle.relay_threads.proofs.Reaching.{reaches_all}
use Rattle.relay_threads.proofs.low_worker.LowWorker.stay.Goals as goal

pub leave-end-requires-clause-up : goal.leave-end-requires-clause-up
leave-end-requires-clause-up g c = λ left. let calm = left_calm c.serve-served.result.why left in c.serve-served.ensures.up calm.0 calm.1

pub returns-in-Came : goal.returns-in-Came
returns-in-Came g c =
    let v = c.args.self.now in
    let w = c.serve-served.new.self in
    let z = c.leave-end.new.self in
    let s = c.serve-served.ensures.served in
    let l = c.leave-end.ensures.leaves in
    let why = c.serve-served.result.why in
    let most = c.args.most - 1 in
    let rounds = s.rounds in
    let e = s.is.1 in
    let gone = l.0 in
    let x : Visit g.row.P-Link.Denot = record { came = c.in-Came.link; back = c.serve-served.new.link; rounds = rounds; gone = gone; is_kept = l.1 } in
    let m = c.moment.result in
    let is_end = l.4 ∙ ends_as rounds most why l.1 e in
    let O = g.O.Sink in
    let k = c.serve-served.ensures.keeps in
    let j = c.leave-end.ensures.keeps in
    record {
      stay = (
        With m x,
        with_so v.process.now z.process.now m x (goes v.process.now w.process.now z.process.now rounds most why gone e l.2 s.serves l.5),
        ends_stay m x c.args.most most (record { end = c.leave-end.result; looks = 1 + c.serve-served.result.looks }) is_end (ap (λ n. 1 + n) s.is.0) (omega (arith, c.requires.some))
            (bound_of rounds most why e) (left_of rounds most why (λ is. absurd (omega (arith, c.serve-served.ensures.caused.stopped is))) e),
        Grows-then _ _ _ _ _ c.in-Came.ensures.did c.back.ensures.did,
        Draws-kept _ _ _ _ c.in-Came.ensures.gives c.back.ensures.gives,
        (s.gave, s.replies, λ is. c.serve-served.ensures.caused.link (caused_by rounds most why _ e is)),
        Draws-then _ _ _ _ _ c.moment.ensures.reads (Draws-then _ _ _ _ _ s.moments l.6),
        subst (λ b. Draws (g.W.Words.gives v.words.now) (g.W.Words.gives b) (words_of rounds)) (sym c.leave-end.ensures.words) s.words,
        kept_left (O.written v.tape.now) (O.written w.tape.now) (O.written z.tape.now) (O.faults v.tape.now) (O.faults w.tape.now) (O.faults z.tape.now) (row_of v.process.now) rounds most why e s.lines
            (row_of w.process.now) gone l.1 c.leave-end.result l.2 l.3 l.4 s.serves.row l.7,
        levels_then g.L.LowSide.stands g.L.LowSide.shape v.ends.now w.ends.now (row_of v.process.now) (row_of w.process.now) gone (made_in rounds) k.shape_is s.serves.row s.levels l.8,
        does_rounds g.L.LowSide.stands g.L.LowSide.shape v.ends.now w.ends.now z.ends.now v.process.now w.process.now z.process.now k.shape_is gone rounds s.serves s.does l.9,
        (λ tells up. stores_rounds g.D.Disk.told v.store.now w.store.now z.store.now v.process.now w.process.now z.process.now (sym c.leave-end.ensures.up ∙ up) gone rounds s.serves s.stores l.10 tells up),
      );
      port = λ n h. c.back.ensures.port n (c.in-Came.ensures.port n h);
      keeps = record {
        clock = j.clock ∙ k.clock;
        words = j.words ∙ k.words;
        process = j.process ∙ k.process;
        store = j.store ∙ k.store;
        ends = j.ends ∙ k.ends;
        tape = j.tape ∙ k.tape;
        shape_is = j.shape_is ∙ k.shape_is;
        place_is = j.place_is ∙ k.place_is;
        counts = le_trans k.counts j.counts;
        rests = j.rests;
      };
      up = λ calm. let ended = calm_end why l.1 c.leave-end.result l.4 calm in c.leave-end.ensures.up ∙ c.serve-served.ensures.up ended.0 ended.1;
      device = end_counts why l.1 c.leave-end.result _ _ l.4 (subst (λ b. CountsFault why (g.D.Disk.told.count (low_disk v.store.now)) (g.D.Disk.told.count (low_disk b))) (sym c.leave-end.ensures.store) c.serve-served.ensures.caused.device);
    }

pub returns-in-NotYet : goal.returns-in-NotYet
returns-in-NotYet g c =
    let v = c.args.self.now in
    let m = c.moment.result in
    let answer = answered c.accept.result in
    record {
      stay = (
        Alone m answer,
        alone_so v.process.now m answer (nobody c.accept.result c.in-NotYet.is),
        alone_ends m c.args.most answer c.requires.some,
        c.accept.ensures.did,
        c.accept.ensures.gives,
        tt,
        c.moment.ensures.reads,
        Draws-nil _,
        reaches_all _ _ _ [] (le_refl _) (Appends-none _),
        (λ end. tt),
        does_none g.L.LowSide.stands g.L.LowSide.shape v.ends.now v.process.now,
        stores_none g.D.Disk.told v.store.now v.process.now,
      );
      port = c.accept.ensures.port;
      keeps = record {
        clock = refl;
        words = refl;
        process = refl;
        store = refl;
        ends = refl;
        tape = refl;
        shape_is = refl;
        place_is = refl;
        counts = le_refl _;
        rests = record { ready = c.requires.can.rests.ready; order = le_trans c.requires.can.rests.order (le_trans c.moment.ensures.from c.moment.ensures.to) };
      };
      up = λ _. c.requires.can.up;
      device = tt;
    }
