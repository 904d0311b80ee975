use Rattle.std.proofs.Common.{◌∙◌, sym, ◌-◌, [], length, take}
use Rattle.std.specs.Prelude.{slice_index_or}
use Rattle.std.proofs.lemmas.Bool.{leb-true}
use Rattle.pump_audit.specs.declared.claims.Claim.{Claim}
use Rattle.pump_audit.proofs.ClaimLaws.{last_two}
use Rattle.pump_audit.proofs.claims.Claims.is_settled.Goals as goal

pub returns-in-len2-up-clause-yes : goal.returns-in-len2-up-clause-yes
returns-in-len2-up-clause-yes c = λ low.
    let none : Claim = record { count = 0; average = 0; line = 0 } in
    let xs = c.as_slice.result.now in
    let one = slice_index_or xs (length xs - 2) none in
    let other = slice_index_or xs (length xs - 1) none in
    let is = sym c.as_slice.ensures.value ∙ last_two xs none c.in-len2-up.len_at_least in
    (take (length xs - 2) xs, one, other, is, leb-true other.count one.count low, (c.args.self.now.few (take (length xs - 2) xs) one other [] is).0)
