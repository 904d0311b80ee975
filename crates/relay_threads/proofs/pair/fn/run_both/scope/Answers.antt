use Rattle.std.proofs.Common.{true≢false, sym, ap, ◌∙◌, subst, rules}
use Rattle.relay_threads.specs.declared.pair.DoneFrom.{DoneFrom}
use Rattle.relay_threads.proofs.pair.fn.run_both.scope.Goals as goal

pub returns-in-Ran : goal.returns-in-Ran
returns-in-Ran g c =
    let promised = ap (λ (p : DoneFrom g.row.S.Denot). p.0.value) c.in-Ok.ensures.ok ∙ c.of.ensures in
    record { ran = λ _. (subst (λ s. g.S.Task.gives s c.in-Ran.one) promised c.in-Ran.ensures, c.run-other.ensures); kept = λ e. absurd (true≢false e) }

pub returns-in-Kept : goal.returns-in-Kept
returns-in-Kept g c =
    let promised = ap (λ (p : DoneFrom g.row.S.Denot). p.0.value) c.in-Ok.ensures.ok ∙ c.of.ensures in
    record { ran = λ _. (subst (λ s. g.S.Task.gives s c.run.result) (c.in-Kept.ensures ∙ promised) c.run.ensures, c.run-other.ensures); kept = λ e. absurd (true≢false e) }

pub returns-in-Ran-2 : goal.returns-in-Ran-2
returns-in-Ran-2 g c = record { ran = λ _. (search rules, c.run-in-Ran-2.ensures); kept = λ e. absurd (true≢false e) }

pub returns-in-Kept-2 : goal.returns-in-Kept-2
returns-in-Kept-2 g c = record { ran = λ e. absurd (true≢false (sym e)); kept = λ _. (search rules, c.give_back-in-Kept-2.ensures) }
