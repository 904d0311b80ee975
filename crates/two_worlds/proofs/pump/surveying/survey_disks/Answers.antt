use Rattle.std.proofs.Common.{◌<◌, ℕ, List, sym, ◌∙◌, subst, arith, false, true}
use Rattle.std.specs.Prelude.{◌&&◌}
use Rattle.pump_frame.specs.Counts.{Rose}
use Rattle.recovery.specs.Deals.{InSlots}
use Rattle.disk_model.specs.declared.name.Role.TheVariants as roles
use Rattle.high_receiver.specs.Receiving.{recv_disk}
use Rattle.stable_buffer.specs.High.{high_disk}
use Rattle.stable_buffer.specs.Low.{low_disk}
use Rattle.stable_buffer.specs.Numbers.{length_at}
use Rattle.stable_buffer.specs.Stands.{slot_of}
use Rattle.two_worlds.specs.Openings.{is_for_device, failed_at}
use Rattle.two_worlds.specs.Surveys.{IsRead}
use Rattle.two_worlds.proofs.Opening.Blames.{none_failed}
use Rattle.two_worlds.proofs.Opening.Comparing.{found_by}
use Rattle.two_worlds.proofs.Opening.Surveying.{if_some, never_long, same_messages, same_next, same_removed, same_taken, read_by, read_then, blamed}
use Rattle.two_worlds.proofs.pump.surveying.survey_disks.Goals as goal

pub returns-in-Ok-read_live-clause-found : goal.returns-in-Ok-read_live-clause-found
returns-in-Ok-read_live-clause-found g c = λ told.
    let m = g.D.Disk.told in
    let row = c.args.row.now in
    let lawful = c.requires.lawful in
    let a = m.reading c.args.low in
    let b = m.reading c.args.high in
    let e = c.in-Ok-open_all.ensures in
    let o = c.in-Ok-open_all.opened.0 in
    let r = c.in-Ok-open_all.opened.1 in
    let same = e.moves_recv.reads told in
    let found = found_by m told row lawful a b (m.reading c.args.recv) o _ r e.pump e.receiver same in
    let removed = same_removed m told row a b (m.reading c.args.recv) o _ r e.pump found.0 found.1 in
    let next = same_next m told row a b (m.reading c.args.recv) o _ r e.pump found.0 found.1 in
    let stand = subst (λ (z : List ℕ). InSlots row o.removed c.read_live.new.live.items z) (e.moves_low.reads told) (c.in-Ok-read_live.ensures.stand told) in (
      found.0,
      found.1,
      record {
        accepted_is = next;
        removed_is = removed;
        received_is = c.count.ensures ∙ same_taken m told row a b (m.reading c.args.recv) o _ r e.pump found.0 found.1 e.receiver same;
        live_is = same_messages row lawful _ _ _ a found.1.low_is o.removed c.read_live.new.live.items removed (c.in-Ok-read_live.ensures.count ∙ e.pump.counts.0 ∙ next) stand;
      },
    )

pub returns-in-Ok-read_live-clause-few : goal.returns-in-Ok-read_live-clause-few
returns-in-Ok-read_live-clause-few g c =
    let p = c.in-Ok-open_all.ensures.pump in
    let few = p.ready_low.count in
    let next = p.counts.0 in
    (c.in-Ok-read_live.ensures.count ∙ next, omega (arith, few, next))

pub returns-in-Ok-read_live-clause-low : goal.returns-in-Ok-read_live-clause-low
returns-in-Ok-read_live-clause-low g c =
    let m = g.D.Disk.told in
    let e = c.in-Ok-open_all.ensures in
    let o = c.in-Ok-open_all.opened.0 in
    subst (λ d. IsRead m c.args.low d false) (sym c.into_disk.ensures)
    (read_then m c.args.low (low_disk o.low) (low_disk c.read_live.new.low) false (read_by m c.args.low (low_disk o.low) false e.low e.moves_low) c.read_live.ensures.moves c.read_live.ensures.counts (λ no. cc))

pub returns-clause-refused : goal.returns-clause-refused
returns-clause-refused g c =
    let m = g.D.Disk.told in
    let row = c.args.row.now in
    let e = c.in-Ok-open_all.ensures in
    let o = c.in-Ok-open_all.opened.0 in
    if_some _ _ c.in-Err-read_live.why c.in-Err-read_live.ensures.long (λ why long other told.
    let l = long other told in
    let far : row.message < length_at (m.reading c.args.low) (slot_of row l.0) = subst (λ (z : List ℕ). row.message < length_at z (slot_of row l.0)) (e.moves_low.reads told) l.3 in
    let last = l.2 in
    let next = e.pump.counts.0 in
    absurd (never_long row c.requires.lawful o.next o.removed e.pump.messages (m.reading c.args.low) (e.pump.stands told) l.0 l.1 (omega (arith, last, next)) far))

pub returns-clause-low_back : goal.returns-clause-low_back
returns-clause-low_back g c =
    let m = g.D.Disk.told in
    let e = c.in-Ok-open_all.ensures in
    let o = c.in-Ok-open_all.opened.0 in
    subst (λ d. IsRead m c.args.low d (is_for_device c.in-Err-read_live.why && true)) (sym c.into_disk-in-Err-read_live.ensures)
    (read_then m c.args.low (low_disk o.low) (low_disk c.read_live.new.low) (is_for_device c.in-Err-read_live.why && true) (read_by m c.args.low (low_disk o.low) false e.low e.moves_low) c.read_live.ensures.moves c.read_live.ensures.counts
    (λ is. blamed (Rose (m.count (low_disk o.low)) (m.count (low_disk c.read_live.new.low))) c.in-Err-read_live.why is c.in-Err-read_live.ensures.device))

pub returns-in-Err-clause-refused : goal.returns-in-Err-clause-refused
returns-in-Err-clause-refused g c = c.in-Err.ensures.refused

pub returns-in-Err-clause-low_back : goal.returns-in-Err-clause-low_back
returns-in-Err-clause-low_back g c =
    let e = c.in-Err.refused in
    read_by g.D.Disk.told c.args.low e.low (failed_at roles.Low e) c.in-Err.ensures.low c.in-Err.ensures.moves_low

pub returns-in-Err-clause-high_back : goal.returns-in-Err-clause-high_back
returns-in-Err-clause-high_back g c =
    let e = c.in-Err.refused in
    read_by g.D.Disk.told c.args.high e.high (failed_at roles.High e) c.in-Err.ensures.high c.in-Err.ensures.moves_high

pub returns-in-Err-clause-recv_back : goal.returns-in-Err-clause-recv_back
returns-in-Err-clause-recv_back g c =
    let e = c.in-Err.refused in
    read_by g.D.Disk.told c.args.recv e.recv (failed_at roles.Recv e) c.in-Err.ensures.recv c.in-Err.ensures.moves_recv

pub returns-in-Ok-read_live-clause-high : goal.returns-in-Ok-read_live-clause-high
returns-in-Ok-read_live-clause-high g c =
    let m = g.D.Disk.told in
    let e = c.in-Ok-open_all.ensures in
    let o = c.in-Ok-open_all.opened.0 in
    subst (λ d. IsRead m c.args.high d false) (sym c.into_disk-in-Ok-read_live.ensures) (read_by m c.args.high (high_disk o.high) false e.high e.moves_high)

pub returns-in-Ok-read_live-clause-recv : goal.returns-in-Ok-read_live-clause-recv
returns-in-Ok-read_live-clause-recv g c =
    let m = g.D.Disk.told in
    let e = c.in-Ok-open_all.ensures in
    subst (λ d. IsRead m c.args.recv d false) (sym c.into_disk-in-Ok-read_live-2.ensures) (read_by m c.args.recv (recv_disk c.in-Ok-open_all.opened.1) false e.recv e.moves_recv)

pub returns-clause-high_back : goal.returns-clause-high_back
returns-clause-high_back g c =
    let m = g.D.Disk.told in
    let e = c.in-Ok-open_all.ensures in
    let o = c.in-Ok-open_all.opened.0 in
    subst (λ d. IsRead m c.args.high d (is_for_device c.in-Err-read_live.why && false)) (sym c.into_disk-in-Err-read_live-2.ensures)
    (subst (λ b. IsRead m c.args.high (high_disk o.high) b) (sym (none_failed (is_for_device c.in-Err-read_live.why))) (read_by m c.args.high (high_disk o.high) false e.high e.moves_high))

pub returns-clause-recv_back : goal.returns-clause-recv_back
returns-clause-recv_back g c =
    let m = g.D.Disk.told in
    let e = c.in-Ok-open_all.ensures in
    subst (λ d. IsRead m c.args.recv d (is_for_device c.in-Err-read_live.why && false)) (sym c.into_disk-in-Err-read_live-3.ensures)
    (subst (λ b. IsRead m c.args.recv (recv_disk c.in-Ok-open_all.opened.1) b) (sym (none_failed (is_for_device c.in-Err-read_live.why))) (read_by m c.args.recv (recv_disk c.in-Ok-open_all.opened.1) false e.recv e.moves_recv))
