use Rattle.std.proofs.Common.{rules, subst}
use Rattle.pump_frame.specs.Names.{IsName}
use Rattle.pump_core.proofs.Greetings.{permits_by_name}
use Rattle.pump_audit.proofs.life.is_permitted.Goals as goal

pub returns-then-is_low : goal.returns-then-is_low
returns-then-is_low c =
    let low = subst IsName c.as_slice-own_low.ensures.value c.as_slice-own_low.ensures.name in
    let high = subst IsName c.as_slice-own_high.ensures.value c.as_slice-own_high.ensures.name in
    let law = permits_by_name c.args.row.now c.args.frame.now c.in-Some.names.0 c.in-Some.names.1 low high c.in-Some.ensures.are.0 c.in-Some.ensures.are.1 c.in-Some.ensures.value in
    rw law (search rules)

pub returns-else-is_low : goal.returns-else-is_low
returns-else-is_low c =
    let low = subst IsName c.as_slice-own_low.ensures.value c.as_slice-own_low.ensures.name in
    let high = subst IsName c.as_slice-own_high.ensures.value c.as_slice-own_high.ensures.name in
    let law = permits_by_name c.args.row.now c.args.frame.now c.in-Some.names.0 c.in-Some.names.1 low high c.in-Some.ensures.are.0 c.in-Some.ensures.are.1 c.in-Some.ensures.value in
    rw law (search rules)
