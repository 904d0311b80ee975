use Rattle.std.proofs.Common.{inl, inr}
use Rattle.std.proofs.lemmas.Result.{on_ok_weaker}
use Rattle.pump_audit.proofs.claims.Claims.hear.Goals as goal

pub returns-in-Passed-clause-keeps : goal.returns-in-Passed-clause-keeps
returns-in-Passed-clause-keeps c =
    let takes = on_ok_weaker c.add.result (λ took claims k. (c.args.self.now.pairs.items, k, took)) c.add.ensures.keeps in
    elim c.in-Passed.is [ inl p ↦ rw p takes | inr p ↦ rw p takes ]

pub returns-in-Passed-clause-fell : goal.returns-in-Passed-clause-fell
returns-in-Passed-clause-fell c = elim c.in-Passed.is [ inl p ↦ rw p c.add.ensures.fell | inr p ↦ rw p c.add.ensures.fell ]
