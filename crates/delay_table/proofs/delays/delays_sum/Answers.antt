use Rattle.delay_table.proofs.Quantiles.{delays_most, delays_least}
use Rattle.delay_table.proofs.delays.delays_sum.Goals as goal

pub returns-clause-most : goal.returns-clause-most
returns-clause-most c = λ words longest each high. delays_most c.args.average longest words each high

pub returns-clause-least : goal.returns-clause-least
returns-clause-least c = λ words longest each high. delays_least c.args.average longest words each high
