use Rattle.std.proofs.Common.{Some, length, refl, subst}
use Rattle.file_collector.specs.Parts.{PartHas}
use Rattle.file_collector.proofs.Gathers.{grown, grown_not}
use Rattle.file_collector.proofs.gathering.Gatherer.add.Goals as goal

pub returns-in-Ok-clause-places : goal.returns-in-Ok-clause-places
returns-in-Ok-clause-places g c = λ state message number has is from.
    let e = c.in-Ok.ensures in
    let md = g.I.Disk.Disk.told in
    grown g.I.Inbox.told md number c.args.progress.now.bytes (length c.args.bytes.now) message c.args.bytes.now state c.args.self.now
    (record { inbox = c.args.self.now.inbox; part = Some c.grow.new.part; assembly = c.args.self.now.assembly }) c.in-Some.part c.grow.new.part has is from refl
    c.in-Some.is refl refl (subst (λ p. PartHas md p c.args.progress.now.bytes) c.in-Some.is c.requires.place) e.moves e.settled e.grown

pub returns-in-Err-clause-places : goal.returns-in-Err-clause-places
returns-in-Err-clause-places g c = λ state message number has is from.
    let e = c.in-Err.ensures in
    let md = g.I.Disk.Disk.told in
    grown_not g.I.Inbox.told md number c.args.progress.now.bytes (length c.args.bytes.now) message state c.args.self.now
    (record { inbox = c.args.self.now.inbox; part = Some c.grow.new.part; assembly = c.args.self.now.assembly }) c.in-Some.part c.grow.new.part c.in-Err.device.faults has is
    c.in-Some.is refl refl (subst (λ p. PartHas md p c.args.progress.now.bytes) c.in-Some.is c.requires.place) e.moves e.cause
