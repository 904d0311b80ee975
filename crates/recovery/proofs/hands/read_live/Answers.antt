use Rattle.std.proofs.Common.{◌∙◌, ap, arith}
use Rattle.pump_frame.specs.declared.row.SessionRow.{SessionRow}
use Rattle.stable_buffer.specs.Numbers.{length_at}
use Rattle.stable_buffer.specs.Stands.{slot_of}
use Rattle.recovery.proofs.Dealing.{bad_here, bad_later}
use Rattle.recovery.proofs.hands.read_live.Goals as goal

pub returns-then-length-row-clause-exact : goal.returns-then-length-row-clause-exact
returns-then-length-row-clause-exact g c = λ _ told k some.
    let d = g.D.Disk.told.reading c.args.low.now.register.disk in
    let is = c.in-Ok.ensures.read.is told ∙ ap (λ (w : SessionRow). length_at d (slot_of w c.args.n)) c.requires.row in
    bad_here c.args.row.now d c.args.n k c.in-Ok.length some is c.if-length-row.true

pub returns-else-length-row-clause-fine : goal.returns-else-length-row-clause-fine
returns-else-length-row-clause-fine g c = λ told k some.
    let d = g.D.Disk.told.reading c.args.low.now.register.disk in
    let is = c.in-Ok.ensures.read.is told ∙ ap (λ (w : SessionRow). length_at d (slot_of w c.args.n)) c.requires.row in
    bad_later c.args.row.now d c.args.n k c.in-Ok.length some is (omega (arith, c.if-length-row.false))
