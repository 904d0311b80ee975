use Rattle.std.proofs.Common.{◌/◌, ◌^◌, arith}
use Rattle.delay_table.proofs.Quantiles.{entry}
use Rattle.delay_table.proofs.delays.quantile_at.Goals as goal

pub returns : goal.returns
returns c = entry (c.args.word / 2 ^ 24) (omega arith)
