use Rattle.passage.proofs.HighSteps.{starts}
use Rattle.passage.proofs.high_steps.telling_row.Goals as goal

pub returns : goal.returns
returns g c = starts _ _ g.K.RowTold.places g.K.RowTold.averaging c.args.word c.requires.fresh c.requires.count c.requires.average c.requires.taken
