use Rattle.std.proofs.Common.{[], ◌++◌, sym, subst, append-nil}
use Rattle.race.specs.Race.{end_lines}
use Rattle.race.specs.Tape.{Keeps}
use Rattle.race.specs.Turns.{turns}
use Rattle.race.proofs.tape.Tape.close.Goals as goal

pub returns-then-is_stopped-clause-stopped : goal.returns-then-is_stopped-clause-stopped
returns-then-is_stopped-clause-stopped g c = λ on start first earlier k.
    c.shut.ensures.written start first (earlier ++ []) (subst (Keeps c.args.self.now start (g.O.Sink.written c.args.out.now) first (g.O.Sink.faults c.args.out.now)) (sym (append-nil earlier)) k)

pub returns-clause-ended : goal.returns-clause-ended
returns-clause-ended g c = λ on start first earlier k.
    let e = c.args.ending.now in
    c.shut-2.ensures.written start first (earlier ++ end_lines (turns e.times.now e.count) e.received e.accepted e.removed) (c.end.ensures.prints start first earlier k)
