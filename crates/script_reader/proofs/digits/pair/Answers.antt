use Rattle.std.proofs.Common.{◌<◌, ◌≤◌, ℕ, subst}
use Rattle.script_reader.proofs.DigitLaws.{no_first, no_second}
use Rattle.script_reader.proofs.digits.pair.Goals as goal

pub returns-then-first-gt15 : goal.returns-then-first-gt15
returns-then-first-gt15 c = λ i. no_first c.args.high c.args.low i (subst (λ (n : ℕ). 15 < n) c.digit-first.ensures c.if-first-gt15.true)

pub returns-then-second-gt15 : goal.returns-then-second-gt15
returns-then-second-gt15 c = λ i. no_second c.args.high c.args.low i (subst (λ (n : ℕ). n ≤ 15) c.digit-first.ensures c.if-first-gt15.false) (subst (λ (n : ℕ). 15 < n) c.digit-second.ensures c.if-second-gt15.true)
