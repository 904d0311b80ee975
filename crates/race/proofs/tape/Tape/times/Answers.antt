use Rattle.std.proofs.Common.{◌≡◌, ℕ, List, codes, subst, arith}
use Rattle.race.specs.Race.{number_line, time_lines}
use Rattle.race.specs.Tape.{Prints}
use Rattle.race.specs.Turns.{turns}
use Rattle.race.proofs.RecordTexts.{turn_more}
use Rattle.race.proofs.Tapes.{prints_then}
use Rattle.race.proofs.tape.Tape.times.Goals as goal

pub times-preserved : goal.times-preserved
times-preserved g c =
    let O = g.O.Sink in
    let times = c.args.times.now in
    let n = c.times.number in
    subst (λ (z : List ℕ). Prints c.args.self.now c.number.new.self (O.written c.args.out.now) (O.written c.number.new.out) (O.faults c.args.out.now) (O.faults c.number.new.out) z)
    (turn_more times n c.from.result c.from.ensures)
    (prints_then c.args.self.now c.times.self c.number.new.self (O.written c.args.out.now) (O.written c.times.out) (O.written c.number.new.out) (O.faults c.args.out.now) (O.faults c.times.out) (O.faults c.number.new.out)
    (time_lines (turns times n)) (number_line (codes "time") c.from.result) c.times.invariant c.number.ensures.prints)

pub returns : goal.returns
returns g c =
    let O = g.O.Sink in
    let all : c.times.number ≡ c.args.count = omega (arith, c.times-test.false, c.times.auto.number-end) in
    record {
      prints = subst (λ (n : ℕ). Prints c.args.self.now c.times.self (O.written c.args.out.now) (O.written c.times.out) (O.faults c.args.out.now) (O.faults c.times.out) (time_lines (turns c.args.times.now n))) all c.times.invariant;
    }
