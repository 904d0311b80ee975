use Rattle.std.proofs.Common.{arith, sym}
use Rattle.moving_avg.proofs.Doubling.{level_above, level_found, bounded}
use Rattle.moving_avg.proofs.levels.level.Goals as goal

pub returns-then-average-clause-value : goal.returns-then-average-clause-value
returns-then-average-clause-value c = sym (level_above c.args.average (omega (arith, c.if-average.true)))

pub returns-clause-value : goal.returns-clause-value
returns-clause-value c =
    let p = c.next_power_of_two in
    sym (level_found p.ensures.power.0 c.args.average p.result p.ensures.power.1 (omega (arith, c.if-average.false)) p.ensures.lower_bound p.ensures.upper_bound)

pub returns-clause-bound : goal.returns-clause-bound
returns-clause-bound c =
    let p = c.next_power_of_two in
    let most = bounded p.ensures.power.0 c.args.average p.result p.ensures.power.1 (omega (arith, c.if-average.false)) p.ensures.upper_bound in
    omega (arith, most)
