use Rattle.std.proofs.Common.{◌≡◌, ◌+◌, [], get_or}
use Rattle.high_receiver.specs.Receiving.{record_at}
use Rattle.script_reader.specs.Past.{Past}
use Rattle.two_worlds.proofs.Reading.{state_message, recv_reads, recv_fails}
use Rattle.two_worlds.proofs.pump.state.PumpState.received.Goals as goal

pub returns-in-Ok-clause-message : goal.returns-in-Ok-clause-message
returns-in-Ok-clause-message g c = λ told.
    state_message g.D.Disk.told c.args.self.now c.in-Open.parts c.received-read.new.self c.in-Open.is
    (λ (p : Past). c.received-read.new.into ≡ get_or p.world.received c.args.n []) (c.in-Ok.ensures.message told)

pub returns-in-Ok-clause-next : goal.returns-in-Ok-clause-next
returns-in-Ok-clause-next g c = λ told.
    state_message g.D.Disk.told c.args.self.now c.in-Open.parts c.received-read.new.self c.in-Open.is
    (λ (p : Past). c.in-Ok.next ≡ record_at p.world.received (c.args.n + 1)) (c.in-Ok.ensures.next told)

pub returns-in-Ok-clause-reads : goal.returns-in-Ok-clause-reads
returns-in-Ok-clause-reads g c =
    let e = c.in-Ok.ensures in
    (recv_reads g.D.Disk.told c.args.self.now c.in-Open.parts c.received-read.new.self c.in-Open.is e.rest e.keeps.moves c.requires.able e.ready e.keeps.count e.keeps.end e.keeps.row e.keeps.size e.serves).0

pub returns-in-Ok-clause-able : goal.returns-in-Ok-clause-able
returns-in-Ok-clause-able g c =
    let e = c.in-Ok.ensures in
    (recv_reads g.D.Disk.told c.args.self.now c.in-Open.parts c.received-read.new.self c.in-Open.is e.rest e.keeps.moves c.requires.able e.ready e.keeps.count e.keeps.end e.keeps.row e.keeps.size e.serves).1

pub returns-in-Err-clause-fails : goal.returns-in-Err-clause-fails
returns-in-Err-clause-fails g c =
    let e = c.in-Err.ensures in
    recv_fails g.D.Disk.told c.args.self.now c.in-Open.parts c.received-read.new.self c.in-Open.is e.rest e.keeps.moves e.closed e.fails
