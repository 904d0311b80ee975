use Rattle.std.proofs.Common.{ℕ, List, ◌++◌, codes, refl, ◌∙◌, subst, append_assoc}
use Rattle.race.specs.Race.{number_line, time_lines, end_line}
use Rattle.race.specs.Tape.{Keeps}
use Rattle.race.specs.Turns.{turns}
use Rattle.race.proofs.Tapes.{keeps_more}
use Rattle.race.proofs.tape.Tape.end.Goals as goal

pub returns : goal.returns
returns g c =
    let O = g.O.Sink in
    let e = c.args.ending.now in
    let tape = c.make_room.new.self in
    let later = record tape { held = c.put_end.new.into } in
    let times = time_lines (turns e.times.now e.count) in
    let took = number_line (codes "took") e.received in
    let last = end_line e.accepted e.removed in
    record {
      prints = λ start first earlier k.
          let timed = c.times.ensures.prints start first earlier k in
          let numbered = c.number.ensures.prints start first (earlier ++ times) timed in
          let roomy = c.make_room.ensures.stays start first ((earlier ++ times) ++ took) numbered in
          let ended = keeps_more tape later start (O.written c.make_room.new.out) first (O.faults c.make_room.new.out) ((earlier ++ times) ++ took) last c.put_end.ensures refl roomy in
          subst (λ (z : List ℕ). Keeps later start (O.written c.make_room.new.out) first (O.faults c.make_room.new.out) z)
          (append_assoc (earlier ++ times) took last ∙ append_assoc earlier times (took ++ last)) ended;
    }
