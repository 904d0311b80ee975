use Rattle.std.proofs.Common.{length}
use Rattle.stable_buffer.specs.Register.{register_disk}
use Rattle.file_collector.proofs.Starting.{start_found, no_start_other}
use Rattle.file_collector.proofs.Sound.{begun_by}
use Rattle.file_collector.proofs.opening.begin_from.Goals as goal

pub returns-in-Some-clause-found : goal.returns-in-Some-clause-found
returns-in-Some-clause-found g c = λ told name size bytes lawful stands long.
    let disk = g.D.Disk.told.reading c.args.register.now.disk in
    start_found name size bytes disk c.read_bytes.new.start _ c.in-Some.assembly lawful.0 lawful.1 stands long (c.in_ok-read_bytes.ensures.bytes told) c.in-Some.ensures.value

pub returns-in-None-clause-cause : goal.returns-in-None-clause-cause
returns-in-None-clause-cause g c = λ same told.
    no_start_other (g.D.Disk.told.reading (register_disk c.args.register.now)) c.read_bytes.new.start (length c.args.start.now) (same told) (c.in_ok-read_bytes.ensures.bytes told)
    (λ started. cc (c.in-None.ensures.some.1 started))

pub returns-in-Some-clause-by : goal.returns-in-Some-clause-by
returns-in-Some-clause-by g c = λ told spells.
    begun_by (g.D.Disk.told.reading (register_disk c.args.register.now)) c.read_bytes.new.start (length c.args.start.now) c.in-Some.assembly
    c.in_ok-read_bytes.ensures.size spells (c.in_ok-read_bytes.ensures.bytes told) c.in-Some.ensures.begun
