use Rattle.std.proofs.Common.{refl, []}
use Rattle.std.proofs.KnownBytes.{Appends-nil}
use Rattle.peers.proofs.Outgoing.{whole_printed}
use Rattle.file_peers.proofs.drop.settle.Goals as goal

pub returns-in-Err-clause-settles : goal.returns-in-Err-clause-settles
returns-in-Err-clause-settles g c =
    let e = c.in-Err.ensures in
    ([], (e.cause, refl, λ tells start counts ready fits. (e.behind tells start counts ready fits).0), Appends-nil _)

pub returns-then-print_settled-clause-settles : goal.returns-then-print_settled-clause-settles
returns-then-print_settled-clause-settles g c =
    let e = c.in-Ok.ensures in
    (_, (c.in-Ok.settled, e.answer, λ tells start counts ready fits. e.behind tells start counts ready fits, e.ask, refl), whole_printed _ _ _ _ c.if-print_settled.true c.print_settled.ensures.printed)

pub returns-else-print_settled-clause-settles : goal.returns-else-print_settled-clause-settles
returns-else-print_settled-clause-settles g c =
    let e = c.in-Ok.ensures in
    let p = c.print_settled.ensures.printed in
    (p.0, (c.in-Ok.settled, e.answer, λ tells start counts ready fits. e.behind tells start counts ready fits, e.ask, (p.1, c.print_settled.ensures.failed c.if-print_settled.false)), p.3)
