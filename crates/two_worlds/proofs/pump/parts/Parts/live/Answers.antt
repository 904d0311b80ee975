use Rattle.std.proofs.Common.{Err, ap, arith}
use Rattle.pump_frame.specs.declared.row.SessionRow.{SessionRow}
use Rattle.stable_buffer.specs.Low.{low_row}
use Rattle.recovery.proofs.Rows.{row_message}
use Rattle.two_worlds.proofs.Opening.Ready.{low_is_ready, low_has_store}
use Rattle.two_worlds.proofs.Reading.{reads_serve, message_is, still_kept, low_fits, store_row, low_length}
use Rattle.two_worlds.proofs.pump.parts.Parts.live.Goals as goal

pub returns-then-next-n-clause-ready : goal.returns-then-next-n-clause-ready
returns-then-next-n-clause-ready g c = low_is_ready g.D.Disk.told c.args.self.now c.requires.able

pub returns-then-next-n-clause-message : goal.returns-then-next-n-clause-message
returns-then-next-n-clause-message g c = λ told p s.
    let kept = still_kept g.D.Disk.told c.args.self.now p c.args.n told s (let e = s.world.removed in let l = c.requires.live in omega (arith, e, l.0)) in
    let far = c.if-next-n.true in
    absurd (omega (arith, kept, far, c.next.ensures, c.from.ensures))

pub slot-requires-clause-ready : goal.slot-requires-clause-ready
slot-requires-clause-ready g c = low_is_ready g.D.Disk.told c.args.self.now c.requires.able

pub slot-requires-clause-stored : goal.slot-requires-clause-stored
slot-requires-clause-stored g c =
    let count = (low_has_store g.D.Disk.told c.args.self.now c.requires.able).count in
    let l = c.requires.live in
    omega (arith, count, l.1)

pub slot-requires-clause-kept : goal.slot-requires-clause-kept
slot-requires-clause-kept g c =
    let count = (low_has_store g.D.Disk.told c.args.self.now c.requires.able).count in
    let row = ap (λ (r : SessionRow). r.capacity) (store_row g.D.Disk.told c.args.self.now c.requires.able) in
    let near = c.if-next-n.false in
    omega (arith, count, row, near, c.next.ensures, c.from.ensures)

pub returns-in-Err-clause-fails : goal.returns-in-Err-clause-fails
returns-in-Err-clause-fails g c =
    (reads_serve g.D.Disk.told _ _ _ (Err c.in-Err.device) (low_length g.D.Disk.told c.args.self.now c.requires.able) c.in-Err.ensures.answers).1

pub returns-in-Ok-clause-message : goal.returns-in-Ok-clause-message
returns-in-Ok-clause-message g c = λ told p s.
    let m = g.D.Disk.told in
    let d = c.args.self.now in
    let row = store_row m d c.requires.able in
    let e = c.in-Ok.ensures in
    let l = c.requires.live in
    message_is (low_row d.low_store) p.world _ c.slot.new.into c.args.n c.in-Ok.field-0 (let b = row_message d.row s.row in let f = ap (λ (r : SessionRow). r.message) row in omega (arith, b, f))
    (let r = s.world.removed in omega (arith, r, l.0)) (let a = s.world.accepted in omega (arith, a, l.1))
    (low_fits m d p told s row) (e.read.is told) (λ fits. e.read.stands fits told)
