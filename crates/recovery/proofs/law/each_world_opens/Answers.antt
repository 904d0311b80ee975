use Rattle.recovery.proofs.Triples.{each_world}
use Rattle.recovery.proofs.law.each_world_opens.Goals as goal

pub returns : goal.returns
returns c = each_world
