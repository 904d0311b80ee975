use Rattle.std.proofs.Common.{sym, subst}
use Rattle.std.specs.Prelude.{is_ok}
use Rattle.pump_audit.specs.Pairs.{AreFew}
use Rattle.pump_audit.proofs.ClaimLaws.{few_if, few_push}
use Rattle.pump_audit.proofs.claims.Claims.add.Goals as goal

pub invariant_of-self-clause-few : goal.invariant_of-self-clause-few
invariant_of-self-clause-few c =
    let before = c.note_fall.new.self.pairs.items in
    let now = few_push before c.args.claim c.note_fall.new.self.few (c.ends_like.ensures.no c.if-ends_like.false) (c.is_settled.ensures.no c.if-is_settled.false) in
    subst AreFew (sym c.push.ensures.items) (few_if (is_ok c.push.result) before c.args.claim c.note_fall.new.self.few now)
