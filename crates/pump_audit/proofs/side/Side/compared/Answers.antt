use Rattle.std.proofs.Common.{◌∙◌, refl, sym}
use Rattle.pump_audit.proofs.SideLaws.{apart, differs, agrees}
use Rattle.pump_audit.proofs.side.Side.compared.Goals as goal

pub returns-then-not-is_same : goal.returns-then-not-is_same
returns-then-not-is_same c a b opens stands =
    apart c.args.first.now c.args.self.now.opened a b opens stands.opens (sym c.is_same.ensures ∙ c.if-not-is_same.true)

pub returns-in_default-Some : goal.returns-in_default-Some
returns-in_default-Some c a b opens stands =
    let differ = rw c.in_default-Some.is-1 at (c.ended.ensures.is a.items b.items stands.looks) in
    differs c.args.first.now c.args.self.now.opened a b opens stands.opens (sym c.is_same.ensures ∙ c.if-not-is_same.false) c.ended.result.0 _ c.in_default-Some.what refl differ

pub returns-in_default-None : goal.returns-in_default-None
returns-in_default-None c a b opens stands =
    let alike = rw c.in_default-None.is-1 at (c.ended.ensures.is a.items b.items stands.looks) in
    agrees c.args.first.now c.args.self.now.opened a b opens stands.opens (sym c.is_same.ensures ∙ c.if-not-is_same.false) c.ended.result.0 _ refl alike.0 alike.1
