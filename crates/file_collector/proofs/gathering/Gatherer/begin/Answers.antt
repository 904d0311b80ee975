use Rattle.std.proofs.Common.{Some, refl}
use Rattle.file_collector.proofs.Gathers.{begun, begun_not}
use Rattle.file_collector.proofs.gathering.Gatherer.begin.Goals as goal

pub returns-in-Ok-clause-places : goal.returns-in-Ok-clause-places
returns-in-Ok-clause-places g c = λ state message number has is.
    let e = c.in-Ok.ensures in
    begun g.I.Inbox.told g.I.Disk.Disk.told number message state c.args.self.now (record { inbox = c.begin.new.self; part = Some c.in-Ok.part; assembly = c.args.self.now.assembly }) c.in-Ok.part has is
    refl e.settled e.empty e.given e.shown e.turns e.durable e.counted.later

pub returns-in-Err-clause-places : goal.returns-in-Err-clause-places
returns-in-Err-clause-places g c = λ state message number has is.
    let e = c.in-Err.ensures in
    begun_not g.I.Inbox.told g.I.Disk.Disk.told number message state c.args.self.now (record { inbox = c.begin.new.self; part = c.args.self.now.part; assembly = c.args.self.now.assembly }) c.faults.result has is
    e.turns e.counted.later (c.faults.ensures, e.counted.rose refl)
