use Rattle.std.proofs.Common.{◌∙◌, arith}
use Rattle.std.proofs.lemmas.List.{take_all}
use Rattle.file_collector.proofs.making.read_whole.Goals as goal

pub returns-clause-whole : goal.returns-clause-whole
returns-clause-whole g c = λ told size.
    c.in_ok-read.ensures.bytes told ∙ take_all 220 (g.D.Disk.told.reading c.args.disk.now) (omega (arith, size))
