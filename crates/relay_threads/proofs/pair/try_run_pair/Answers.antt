use mathlib.Core.Path.{◌≡◌, subst}
use borrow.Author.Rules.{rules}
use Rattle.relay_threads.proofs.pair.try_run_pair.Goals as goal

-- what comes back under the name of what was lent is what it ends as
pub returns-then-has_run-clause-low : goal.returns-then-has_run-clause-low
returns-then-has_run-clause-low g c =
    subst (g.A.Work.ran c.args.low.now) (search rules) (c.run_both-low.ensures.ran c.if-has_run.true).0.1

pub returns-then-has_run-clause-high : goal.returns-then-has_run-clause-high
returns-then-has_run-clause-high g c =
    subst (g.B.Work.ran c.args.high.now) (search rules) (c.run_both-low.ensures.ran c.if-has_run.true).1.1

pub returns-else-has_run-clause-kept : goal.returns-else-has_run-clause-kept
returns-else-has_run-clause-kept g c =
    let kept = c.run_both-low.ensures.kept c.if-has_run.false in
    (subst (λ now. now ≡ c.args.low.now) (search rules) kept.0.1, subst (λ now. now ≡ c.args.high.now) (search rules) kept.1.1)
