use Rattle.std.proofs.Common.{◌≤◌, ◌^◌, ◌/◌, arith}
use Rattle.moving_avg.proofs.Sums.{mean_bounded}
use Rattle.moving_avg.proofs.Window.mean.Goals as goal

pub overflow_cast-result : goal.overflow_cast-result
overflow_cast-result c = let h : c.args.self.now.sum / c.len-length.result ≤ 10 ^ 9 = rw c.len-length.ensures.len (mean_bounded (10 ^ 9) c.args.self.now.sum c.args.self.now.ring.items c.args.self.now.total c.args.self.now.bounded) in omega arith

pub returns-clause-bound : goal.returns-clause-bound
returns-clause-bound c = rw c.len-length.ensures.len (mean_bounded (10 ^ 9) c.args.self.now.sum c.args.self.now.ring.items c.args.self.now.total c.args.self.now.bounded)
