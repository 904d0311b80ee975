use Rattle.std.proofs.Common.{◌≡◌, [], get_or}
use Rattle.script_reader.specs.Past.{Past}
use Rattle.two_worlds.proofs.Reading.{state_message, low_reads, low_fails}
use Rattle.two_worlds.proofs.pump.state.PumpState.live.Goals as goal

pub returns-in-Ok-clause-message : goal.returns-in-Ok-clause-message
returns-in-Ok-clause-message g c = λ told.
    state_message g.D.Disk.told c.args.self.now c.in-Open.parts c.live-read.new.self c.in-Open.is
    (λ (p : Past). c.live-read.new.into ≡ get_or p.world.accepted c.args.n []) (c.in-Ok.ensures.message told)

pub returns-in-Ok-clause-reads : goal.returns-in-Ok-clause-reads
returns-in-Ok-clause-reads g c =
    let e = c.in-Ok.ensures in
    (low_reads g.D.Disk.told c.args.self.now c.in-Open.parts c.live-read.new.self c.in-Open.is e.rest e.same c.requires.able e.ready e.count e.row e.serves).0

pub returns-in-Ok-clause-able : goal.returns-in-Ok-clause-able
returns-in-Ok-clause-able g c =
    let e = c.in-Ok.ensures in
    (low_reads g.D.Disk.told c.args.self.now c.in-Open.parts c.live-read.new.self c.in-Open.is e.rest e.same c.requires.able e.ready e.count e.row e.serves).1

pub returns-in-Err-clause-fails : goal.returns-in-Err-clause-fails
returns-in-Err-clause-fails g c =
    let e = c.in-Err.ensures in
    low_fails g.D.Disk.told c.args.self.now c.in-Open.parts c.live-read.new.self c.in-Open.is e.rest e.same c.replace_with.new.dest c.replace_with.ensures e.fails
