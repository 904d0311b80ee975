use Rattle.std.proofs.Common.{arith}
use Rattle.delay_table.proofs.Quantiles.{entry}
use Rattle.delay_table.proofs.table.entry_is_quantile.Goals as goal

pub returns : goal.returns
returns c = entry c.args.place (omega arith)
