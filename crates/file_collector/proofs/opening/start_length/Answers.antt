use Rattle.std.proofs.Common.{arith}
use Rattle.stable_buffer.specs.Register.{register_disk}
use Rattle.file_collector.proofs.Starting.{no_start_long}
use Rattle.file_collector.proofs.opening.start_length.Goals as goal

pub returns-in-Ok-2-clause-cause : goal.returns-in-Ok-2-clause-cause
returns-in-Ok-2-clause-cause g c = λ told.
    no_start_long (g.D.Disk.told.reading (register_disk c.args.register.now)) c.in-Ok.length (c.in-Ok.ensures.length told) (omega (arith, c.if-length-le-LONGEST_START.false))
