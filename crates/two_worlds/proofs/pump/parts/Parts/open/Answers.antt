use Rattle.std.proofs.Common.{◌≡◌, ℕ, List, false, sym, ap, ◌∙◌, subst}
use Rattle.std.specs.List.{All}
use Rattle.std.proofs.lemmas.List.Elements.{All-nil}
use Rattle.std.proofs.lemmas.Result.{err_from_is_err_and}
use Rattle.disk_model.specs.declared.name.Role.TheVariants as roles
use Rattle.pump_frame.specs.declared.row.SessionRow.{SessionRow}
use Rattle.pump_core.specs.History.{first_life}
use Rattle.stable_buffer.specs.Low.{low_disk}
use Rattle.stable_buffer.specs.High.{high_disk}
use Rattle.high_receiver.specs.Receiving.{recv_disk}
use Rattle.two_worlds.specs.Openings.{StandForFound, LeavesDisk, ComeBack, readied, failed_at}
use Rattle.script_reader.specs.Openings.{first_past}
use Rattle.two_worlds.specs.Standing.{Stands, disk_at}
use Rattle.two_worlds.specs.Working.{IsPacket}
use Rattle.two_worlds.proofs.Opening.Lives.{begins}
use Rattle.two_worlds.proofs.Opening.Opened.{works}
use Rattle.two_worlds.proofs.Opening.Comparing.{goes_on, pump_over, receiver_over, found_by, refused_over, some_why}
use Rattle.two_worlds.proofs.pump.parts.Parts.open.Goals as goal

pub returns-in_err-pump-clause-back : goal.returns-in_err-pump-clause-back
returns-in_err-pump-clause-back g c =
    let m = g.D.Disk.told in
    let row = c.args.row.now in
    let d = c.in_ok-disks.disks in
    let r = c.in_ok-disks.ensures in
    let o = c.in_err-pump.ensures in
    let e = c.in_err-pump.field-0.0 in
    let fact : ComeBack m row c.args.low c.args.high c.args.recv e = record {
      low_disk = goes_on m row roles.Low c.args.low d.low e.low (failed_at roles.Low e) r.low o.low o.moves_low;
      high_disk = goes_on m row roles.High c.args.high d.high e.high (failed_at roles.High e) r.high o.high o.moves_high;
      recv_disk = goes_on m row roles.Recv c.args.recv d.recv e.recv (failed_at roles.Recv e) r.recv o.recv o.moves_recv;
      counted = o.device;
      refused = refused_over m.tells row (m.reading d.low) (m.reading d.high) (m.reading d.recv) _ _ _ e.role e.why r.reads o.refused;
      memory = λ none. absurd (some_why e.why o.some none);
    } in
    let t = err_from_is_err_and c.from_residual-in_err-pump.result c.from_residual-in_err-pump.ensures.1 in
    rw (t.1, t.2) fact

pub assemble-requires-clause-pump : goal.assemble-requires-clause-pump
assemble-requires-clause-pump g c =
    let m = g.D.Disk.told in
    let d = c.in_ok-disks.disks in
    let o = c.in_ok-pump.ensures in
    let p = c.in_ok-pump.pump in
    pump_over m c.args.row.now (m.reading d.low) (m.reading d.high) (m.reading (low_disk p.low)) (m.reading (high_disk p.high)) p c.open_all.new.ends
    (λ told. sym (o.moves_low.reads told)) (λ told. sym (o.moves_high.reads told)) o.pump

pub assemble-requires-clause-receiver : goal.assemble-requires-clause-receiver
assemble-requires-clause-receiver g c =
    let m = g.D.Disk.told in
    let d = c.in_ok-disks.disks in
    let o = c.in_ok-pump.ensures in
    let p = c.in_ok-pump.pump in
    receiver_over m c.args.row.now (m.reading d.low) (m.reading d.recv) (m.reading (low_disk p.low)) (m.reading (recv_disk c.in_ok-pump.receiver)) p.removed p.next c.in_ok-pump.receiver
    (λ told. sym (o.moves_low.reads told)) (λ told. sym (o.moves_recv.reads told)) o.receiver

pub returns-clause-opens : goal.returns-clause-opens
returns-clause-opens g c = λ told.
    let m = g.D.Disk.told in
    let row = c.args.row.now in
    let d = c.in_ok-disks.disks in
    let o = c.in_ok-pump.ensures in
    let same = c.in_ok-disks.ensures.reads told in
    let found = found_by m told row c.requires.lawful (m.reading d.low) (m.reading d.high) (m.reading d.recv) c.in_ok-pump.pump _ c.in_ok-pump.receiver o.pump o.receiver (o.moves_recv.reads told) in
    (found.0, subst (λ (v : List ℕ × List ℕ × List ℕ). StandForFound row found.0 v.0 v.1 v.2) (λ i. (same.0 i, same.1 i, same.2 i)) found.1)

pub returns-clause-stands : goal.returns-clause-stands
returns-clause-stands g c = λ told f s.
    let m = g.D.Disk.told in
    let row = c.args.row.now in
    let o = c.in_ok-pump.ensures in
    let same = c.in_ok-disks.ensures.reads told in
    let low = o.moves_low.reads told ∙ same.0 in
    let high = o.moves_high.reads told ∙ same.1 in
    let recv = o.moves_recv.reads told ∙ same.2 in
    let a = c.assemble.ensures in
    let at : (m.reading (disk_at roles.Low c.assemble.result), m.reading (disk_at roles.High c.assemble.result), m.reading (disk_at roles.Recv c.assemble.result))
    ≡ (readied row roles.Low (m.reading c.args.low), readied row roles.High (m.reading c.args.high), readied row roles.Recv (m.reading c.args.recv)) = λ i.
    ((ap m.reading a.low ∙ low) i, (ap m.reading a.high ∙ high) i, (ap m.reading a.recv ∙ recv) i) in
    subst (λ (r : SessionRow). Stands m c.assemble.result (first_past r f)) a.row
    (begins m told c.assemble.result f a.opened a.start a.sent a.returned
    (subst (λ (r : SessionRow). StandForFound r f (m.reading (disk_at roles.Low c.assemble.result)) (m.reading (disk_at roles.High c.assemble.result)) (m.reading (disk_at roles.Recv c.assemble.result))) (sym a.row)
    (subst (λ (v : List ℕ × List ℕ × List ℕ). StandForFound row f v.0 v.1 v.2) (sym at) s)))

pub returns-clause-works : goal.returns-clause-works
returns-clause-works g c =
    let a = c.assemble.ensures in
    works g.D.Disk.told c.assemble.result first_life a.opened (subst (All (IsPacket c.assemble.result.row)) (sym a.sent) (All-nil (IsPacket c.assemble.result.row)))

pub returns-clause-low : goal.returns-clause-low
returns-clause-low g c =
    let m = g.D.Disk.told in
    let o = c.in_ok-pump.ensures in
    let d = c.in_ok-disks.disks in
    subst (λ k. LeavesDisk m c.args.row.now roles.Low c.args.low k false) (sym c.assemble.ensures.low) (goes_on m c.args.row.now roles.Low c.args.low d.low (low_disk c.in_ok-pump.pump.low) false c.in_ok-disks.ensures.low o.low o.moves_low)

pub returns-clause-high : goal.returns-clause-high
returns-clause-high g c =
    let m = g.D.Disk.told in
    let o = c.in_ok-pump.ensures in
    let d = c.in_ok-disks.disks in
    subst (λ k. LeavesDisk m c.args.row.now roles.High c.args.high k false) (sym c.assemble.ensures.high) (goes_on m c.args.row.now roles.High c.args.high d.high (high_disk c.in_ok-pump.pump.high) false c.in_ok-disks.ensures.high o.high o.moves_high)

pub returns-clause-recv : goal.returns-clause-recv
returns-clause-recv g c =
    let m = g.D.Disk.told in
    let o = c.in_ok-pump.ensures in
    let d = c.in_ok-disks.disks in
    subst (λ k. LeavesDisk m c.args.row.now roles.Recv c.args.recv k false) (sym c.assemble.ensures.recv) (goes_on m c.args.row.now roles.Recv c.args.recv d.recv (recv_disk c.in_ok-pump.receiver) false c.in_ok-disks.ensures.recv o.recv o.moves_recv)
