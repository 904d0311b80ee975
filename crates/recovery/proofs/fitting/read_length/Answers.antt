use Rattle.std.proofs.Common.{◌∙◌}
use Rattle.recovery.proofs.Unfit.{length_taken}
use Rattle.recovery.proofs.fitting.read_length.Goals as goal

pub returns-clause-length : goal.returns-clause-length
returns-clause-length g c = λ told. c.read_length.ensures.value ∙ length_taken c.args.at c.read.new.into (g.D.Disk.told.reading c.args.disk.now) (c.in_default.ensures.bytes told)
