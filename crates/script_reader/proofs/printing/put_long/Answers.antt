use Rattle.std.proofs.Common.{ℕ, ◌-◌, ◌++◌, List, length, drop, ap, ◌∙◌, arith}
use Rattle.std.proofs.lemmas.Fmt.{length-decimal-le}
use Rattle.std.proofs.lemmas.List.{take_all}
use Rattle.script_reader.proofs.MarkedDigits.{marked}
use Rattle.script_reader.proofs.printing.put_long.Goals as goal

pub write_digits-first-requires : goal.write_digits-first-requires
write_digits-first-requires g c = (omega (arith, length-decimal-le 20 c.args.number (omega arith) (omega arith) (omega arith)), omega arith)

pub overflow_sub-first : goal.overflow_sub-first
overflow_sub-first g c =
    omega (arith, c.write_digits-first.ensures.start, length-decimal-le 20 c.args.number (omega arith) (omega arith) (omega arith))

pub returns-clause-items : goal.returns-clause-items
returns-clause-items g c =
    let e = c.write_digits-first.ensures in
    let first = c.write_digits-first.result in
    let short = length-decimal-le 20 c.args.number (omega arith) (omega arith) (omega arith) in
    let text = marked c.args.mark c.args.number first (first - 1) c.write_digits-first.new.buf (omega arith) (omega (arith, e.start, short)) (omega (arith, e.start)) e.written e.before in
    let whole = take_all (21 - (first - 1)) (drop (first - 1) c.write_digits-first.new.buf) (omega (arith, ap length text, e.start, short)) in
    c.put.ensures.items ∙ ap (λ (xs : List ℕ). c.args.into.now.items ++ xs) (whole ∙ text)
