use Rattle.delay_table.proofs.Quantiles.{rises}
use Rattle.delay_table.proofs.table.table_rises.Goals as goal

pub returns : goal.returns
returns c = rises
