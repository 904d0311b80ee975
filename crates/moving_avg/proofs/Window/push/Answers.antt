use Rattle.std.proofs.Common.{◌≤◌, ◌^◌, ◌*◌, sum, length, arith}
use Rattle.moving_avg.proofs.Sums.{sum_bounded, evicts, stays_bounded}
use Rattle.moving_avg.proofs.Window.push.Goals as goal

pub overflow_add-self : goal.overflow_add-self
overflow_add-self c = let h : sum c.args.self.now.ring.items ≤ length c.args.self.now.ring.items * 10 ^ 9 = sum_bounded (10 ^ 9) c.args.self.now.ring.items c.args.self.now.bounded in omega (arith, c.args.self.now.total, c.args.self.now.filled, c.args.self.now.room, c.requires.micros)

pub invariant_of-self-clause-total : goal.invariant_of-self-clause-total
invariant_of-self-clause-total c =
    rw (c.push_back.ensures.items, c.unwrap_or-fallen_out.ensures, c.push_back.ensures.value, c.args.self.now.total)
    (let h = evicts c.args.self.now.ring.capacity c.args.micros c.args.self.now.ring.items c.args.self.now.room.0 (omega (arith, c.args.self.now.filled)) in omega (arith, h))

pub invariant_of-self-clause-bounded : goal.invariant_of-self-clause-bounded
invariant_of-self-clause-bounded c = rw c.push_back.ensures.items (stays_bounded (10 ^ 9) _ c.args.micros c.args.self.now.ring.items c.args.self.now.bounded c.requires.micros)
