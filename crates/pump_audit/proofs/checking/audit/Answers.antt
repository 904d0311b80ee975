use Rattle.std.proofs.Common.{sym, subst}
use Rattle.pump_audit.specs.declared.verdict.Verdict.{Verdict}
use Rattle.pump_audit.specs.Verdicts.{IsVerdict}
use Rattle.pump_audit.proofs.StreamLaws.{known_ahead, where_told, first_none, first_misplaced, first_reads}
use Rattle.pump_audit.proofs.checking.audit.Goals as goal

pub returns-in-Cut-clause-verdict : goal.returns-in-Cut-clause-verdict
returns-in-Cut-clause-verdict g c = where_told _ (λ bytes. IsVerdict bytes c.misplaced.result) (λ bytes known.
    subst (λ (v : Verdict). IsVerdict bytes v) (sym c.misplaced.ensures)
    (first_none bytes _ _ c.next.new.text.items c.next.result (known_ahead c.new-texts.result _ bytes c.new-texts.ensures known) c.in-Cut.is c.next.ensures.next))

pub returns-in-Ok-Some-clause-verdict : goal.returns-in-Ok-Some-clause-verdict
returns-in-Ok-Some-clause-verdict g c = where_told _ _ (λ bytes known.
    let next = c.in-Text.ensures.next in
    let opened = rw (c.in-Ok-Some.field-0-is, c.as_slice.ensures.value) at c.in-Ok-Some.ensures in
    c.follow.ensures.verdict bytes (first_reads bytes _ (known_ahead c.new-texts.result _ bytes c.new-texts.ensures known) _ c.next.new.text.items _ next.0 next.1 opened))

pub returns-in-Ok-None-clause-verdict : goal.returns-in-Ok-None-clause-verdict
returns-in-Ok-None-clause-verdict g c = where_told _ (λ bytes. IsVerdict bytes c.misplaced-in-Ok-None.result) (λ bytes known.
    let next = c.in-Text.ensures.next in
    let opened = rw (c.in-Ok-None.field-0-is, c.as_slice.ensures.value) at c.in-Ok-None.ensures in
    subst (λ (v : Verdict). IsVerdict bytes v) (sym c.misplaced-in-Ok-None.ensures)
    (first_misplaced bytes _ (known_ahead c.new-texts.result _ bytes c.new-texts.ensures known) _ c.next.new.text.items next.0 next.1 opened))
