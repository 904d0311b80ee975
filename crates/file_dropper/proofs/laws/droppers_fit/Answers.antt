use Rattle.file_dropper.proofs.Whole.{standing_fits}
use Rattle.file_dropper.proofs.laws.droppers_fit.Goals as goal

pub returns : goal.returns
returns g c = standing_fits g.O.Outbox.told g.O.File.Source.left
