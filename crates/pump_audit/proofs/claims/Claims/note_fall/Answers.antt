use Rattle.std.proofs.Common.{◌∙◌, sym}
use Rattle.pump_audit.proofs.ClaimLaws.{fell_kept, fell_now}
use Rattle.pump_audit.proofs.claims.Claims.note_fall.Goals as goal

pub returns-then-is_some-clause-fell : goal.returns-then-is_some-clause-fell
returns-then-is_some-clause-fell c = λ claims f. fell_kept claims c.args.claim.now c.args.self.now.greatest c.args.self.now.fall (sym c.is_some.ensures ∙ c.if-is_some.true) f

pub returns-then-claim-self-clause-fell : goal.returns-then-claim-self-clause-fell
returns-then-claim-self-clause-fell c = λ claims f. fell_now claims c.args.claim.now c.args.self.now.greatest c.args.self.now.fall (sym c.is_some.ensures ∙ c.if-is_some.false) c.if-claim-self.true f
