use Rattle.std.proofs.Common.{◌+◌, arith}
use Rattle.two_worlds.proofs.Opening.Ready.{recv_is_ready}
use Rattle.two_worlds.proofs.Reading.{placed, told_message, told_next}
use Rattle.two_worlds.proofs.pump.parts.Parts.received.Goals as goal

pub at-requires-clause-ready : goal.at-requires-clause-ready
at-requires-clause-ready g c = recv_is_ready g.D.Disk.told c.args.self.now c.requires.able

pub at-requires-clause-place : goal.at-requires-clause-place
at-requires-clause-place g c = placed g.D.Disk.told c.args.self.now c.args.n c.args.at c.min-place.result c.requires.able (omega (arith, c.min-place.ensures, c.end.ensures)) c.requires.place

pub returns-in-Ok-clause-message : goal.returns-in-Ok-clause-message
returns-in-Ok-clause-message g c = told_message g.D.Disk.told c.args.self.now c.args.n c.at.new.into c.in-Ok.ensures.message

pub returns-in-Ok-clause-next : goal.returns-in-Ok-clause-next
returns-in-Ok-clause-next g c = told_next g.D.Disk.told c.args.self.now c.at.new.self (c.args.n + 1) c.in-Ok.next c.at.ensures.keeps.row c.at.ensures.keeps.moves c.in-Ok.ensures.next
