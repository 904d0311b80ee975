use Rattle.std.proofs.Common.{◌≡◌, inr, sym, ◌∙◌, subst}
use Rattle.commands.specs.Showing.{ShowStops}
use Rattle.command_ends.specs.declared.command_end.CommandEnd.{CommandEnd}
use Rattle.command_ends.specs.declared.command_end.CommandEnd.TheVariants as ends
use Rattle.commands.proofs.Formatted.{if_err, rises_so}
use Rattle.script_replay.proofs.Shelving.{rose_more}
use Rattle.commands.proofs.Failing.{came_back, untaken_names}
use Rattle.commands.proofs.Shown.{if_ok, alike, shown_so, shown_same, stops_so, rose_at, not_failed}
use Rattle.recovery.specs.declared.trio.Trio.{Trio}
use Rattle.commands.proofs.show.show_disks.Goals as goal

pub returns-in-Ok-survey_disks-clause-shown : goal.returns-in-Ok-survey_disks-clause-shown
returns-in-Ok-survey_disks-clause-shown g c =
    let t = c.in-Ok.ensures in
    let s = c.in-Ok-survey_disks.ensures in
    let n = c.in-Ok-survey_disks.found in
    if_ok c.text_of-text.result _ _ c.text_of-text.ensures.text (λ text is told tells.
    let f = s.found tells in
    let v = f.2 in
    shown_so g.S.Disk.Disk.told tells (g.S.Shelf.told.disk c.args.shelf.now) (g.S.Shelf.told.disk c.take_disks.new.shelf) (g.S.Shelf.told.disk c.put_disks_back.new.shelf) c.args.row.now
    c.in-Ok.disks (record { low = n.low; high = n.high; recv = n.recv }) c.take_disks.ensures.others c.put_disks_back.ensures.others (t.low told) (t.high told) (t.recv told) (c.put_disks_back.ensures.back told)
    (s.low.same.reads tells) (s.high.same.reads tells) (s.recv.same.reads tells) f.0 text.items f.1
    (is ∙ shown_same c.args.row.now.id f.0 n.accepted n.removed n.received c.as_slice.result.now v.accepted_is v.removed_is v.received_is (c.as_slice.ensures.value ∙ v.live_is)))

pub returns-in-Ok-survey_disks-clause-stops : goal.returns-in-Ok-survey_disks-clause-stops
returns-in-Ok-survey_disks-clause-stops g c =
    let t = c.in-Ok.ensures in
    let s = c.in-Ok-survey_disks.ensures in
    let n = c.in-Ok-survey_disks.found in
    if_err c.text_of-text.result _ _ c.text_of-text.ensures.memory (λ end is told tells.
    subst (λ (e : CommandEnd). ShowStops (g.S.Shelf.told.disk c.args.shelf.now) (g.S.Shelf.told.disk c.put_disks_back.new.shelf) c.args.row.now e) (sym is)
    (alike g.S.Disk.Disk.told tells (g.S.Shelf.told.disk c.args.shelf.now) (g.S.Shelf.told.disk c.take_disks.new.shelf) (g.S.Shelf.told.disk c.put_disks_back.new.shelf) c.args.row.now
    c.in-Ok.disks (record { low = n.low; high = n.high; recv = n.recv }) c.take_disks.ensures.others c.put_disks_back.ensures.others (t.low told) (t.high told) (t.recv told) (c.put_disks_back.ensures.back told)
    (s.low.same.reads tells) (s.high.same.reads tells) (s.recv.same.reads tells)))

pub returns-in-Err-survey_disks-clause-stops : goal.returns-in-Err-survey_disks-clause-stops
returns-in-Err-survey_disks-clause-stops g c = λ told tells.
    let t = c.in-Ok.ensures in
    let s = c.in-Err-survey_disks.ensures in
    let n = c.in-Err-survey_disks.refused in
    let b = c.put_disks_back-in-Err-survey_disks in
    subst (λ (e : CommandEnd). ShowStops (g.S.Shelf.told.disk c.args.shelf.now) (g.S.Shelf.told.disk b.new.shelf) c.args.row.now e) (sym c.end_at-end.ensures)
    (stops_so g.S.Disk.Disk.told tells (g.S.Shelf.told.disk c.args.shelf.now) (g.S.Shelf.told.disk c.take_disks.new.shelf) (g.S.Shelf.told.disk b.new.shelf) c.args.row.now
    c.in-Ok.disks (record { low = n.low; high = n.high; recv = n.recv }) c.take_disks.ensures.others b.ensures.others (t.low told) (t.high told) (t.recv told) (b.ensures.back told)
    (s.low_back.same.reads tells) (s.high_back.same.reads tells) (s.recv_back.same.reads tells) n.role n.why s.refused)

pub returns-in-Err-survey_disks-clause-device : goal.returns-in-Err-survey_disks-clause-device
returns-in-Err-survey_disks-clause-device g c = λ role is.
    let t = c.in-Ok.ensures in
    let s = c.in-Err-survey_disks.ensures in
    let n = c.in-Err-survey_disks.refused in
    let b = c.put_disks_back-in-Err-survey_disks in
    let failed : c.end_at-end.result ≡ ends.Failed role = cc in
    let now : Trio g.row.S-Disk.Denot = record { low = n.low; high = n.high; recv = n.recv } in
    let rose = rose_at g.S.Disk.Disk.told c.in-Ok.disks n s.low_back s.high_back s.recv_back role (sym c.end_at-end.ensures ∙ failed) in (
      rose_more (g.S.Shelf.told.disk_faults c.args.shelf.now) (g.S.Shelf.told.disk_faults c.take_disks.new.shelf) (g.S.Shelf.told.disk_faults b.new.shelf) c.take_disks.ensures.later
          (rises_so g.S.Disk.Disk.told (g.S.Shelf.told.disk c.take_disks.new.shelf) c.args.row.now.id c.in-Ok.disks now _ _ t.low_out t.high_out t.recv_out b.ensures.low_rises b.ensures.high_rises b.ensures.recv_rises role rose),
      inr (came_back g.S.Shelf.told g.S.Disk.Disk.told c.take_disks.new.shelf b.new.shelf c.args.row.now.id c.in-Ok.disks now (t.low_out, t.high_out, t.recv_out) b.ensures.back role rose),
    )

pub returns-in-Ok-survey_disks-clause-device : goal.returns-in-Ok-survey_disks-clause-device
returns-in-Ok-survey_disks-clause-device g c = λ role is. absurd (not_failed c.text_of-text.result role c.text_of-text.ensures.memory is)

pub returns-in-Err-clause-device : goal.returns-in-Err-clause-device
returns-in-Err-clause-device g c = λ role is.
    let e = c.in-Err.ensures in
    let end : c.untaken.result ≡ ends.Failed role = cc in
    untaken_names g.S.Shelf.told g.S.Disk.Disk.told c.args.shelf.now c.take_disks.new.shelf c.args.row.now.id c.in-Err.not_taken.role c.in-Err.not_taken.fault c.untaken.result c.untaken.ensures.memory c.untaken.ensures.failed e.cause e.asked role end
