use Rattle.std.proofs.Common.{inr, refl, subst}
use Rattle.disk_model.specs.declared.name.Role.{Role}
use Rattle.script_replay.specs.Failing.{CameBackFailed}
use Rattle.script_replay.proofs.Shelving.{rose_more}
use Rattle.commands.specs.Migrating.{session_at}
use Rattle.commands.proofs.Failing.{one_came_back}
use Rattle.commands.proofs.Migrated.{pair_back, moved_so, stops_so, halted_ok, halted_err, rises_at, fails_by, role_by}
use Rattle.commands.proofs.migrate.migrate_disks.Goals as goal

pub returns-clause-moved : goal.returns-clause-moved
returns-clause-moved g c =
    let t = c.in_ok-both.ensures in
    let m = c.move_disks-moved.ensures in
    let now = c.move_disks-moved.result in
    let b = c.put_both_back.ensures in
    halted_ok c.args.row.now.id c.args.new_row.now.id _ _ now.end c.halted.result c.halted.ensures m.moved (λ counts h told tells.
    moved_so g.S.Disk.Disk.told tells (g.S.Shelf.told.disk c.args.shelf.now) (g.S.Shelf.told.disk c.take_both.new.shelf) (g.S.Shelf.told.disk c.put_both_back.new.shelf) c.args.row.now c.args.new_row.now
    c.in_ok-both.both.old c.in_ok-both.both.new now.old now.new t.others b.others (b.old_back told) (b.new_back told) (t.old told) (t.new told) m.read m.spared counts (h tells))

pub returns-clause-stops : goal.returns-clause-stops
returns-clause-stops g c =
    let t = c.in_ok-both.ensures in
    let m = c.move_disks-moved.ensures in
    let now = c.move_disks-moved.result in
    let b = c.put_both_back.ensures in
    halted_err c.args.row.now.id c.args.new_row.now.id _ _ now.end c.halted.result c.halted.ensures m.stops (λ fault h told tells. (
      fault.new,
      refl,
      stops_so g.S.Disk.Disk.told tells (g.S.Shelf.told.disk c.args.shelf.now) (g.S.Shelf.told.disk c.take_both.new.shelf) (g.S.Shelf.told.disk c.put_both_back.new.shelf) c.args.row.now c.args.new_row.now
          c.in_ok-both.both.old c.in_ok-both.both.new now.old now.new t.others b.others (b.old_back told) (b.new_back told) (t.old told) (t.new told) m.read m.spared fault h,
    ))

pub returns-clause-back : goal.returns-clause-back
returns-clause-back g c = λ told.
    let now = c.move_disks-moved.result in
    let b = c.put_both_back.ensures in
    pair_back g.S.Disk.Disk.told (g.S.Shelf.told.disk c.args.shelf.now) (g.S.Shelf.told.disk c.take_both.new.shelf) (g.S.Shelf.told.disk c.put_both_back.new.shelf) c.args.row.now.id c.args.new_row.now.id
    c.in_ok-both.both.old c.in_ok-both.both.new now.old now.new c.in_ok-both.ensures.others b.others (b.old_back told) (b.new_back told)

pub returns-clause-device : goal.returns-clause-device
returns-clause-device g c =
    let t = c.in_ok-both.ensures in
    let both = c.in_ok-both.both in
    let m = c.move_disks-moved.ensures in
    let now = c.move_disks-moved.result in
    let b = c.put_both_back.ensures in
    halted_err c.args.row.now.id c.args.new_row.now.id _ _ now.end c.halted.result c.halted.ensures m.stops (λ fault h role is.
    let rose = h.failed (fails_by fault.role role fault.why is) in (
      rose_more (g.S.Shelf.told.disk_faults c.args.shelf.now) (g.S.Shelf.told.disk_faults c.take_both.new.shelf) (g.S.Shelf.told.disk_faults c.put_both_back.new.shelf) t.later
          (rises_at g.S.Disk.Disk.told (g.S.Shelf.told.disk c.take_both.new.shelf) (g.S.Shelf.told.disk_faults c.take_both.new.shelf) (g.S.Shelf.told.disk_faults c.put_both_back.new.shelf) c.args.row.now.id c.args.new_row.now.id
          both.old both.new now.old now.new t.old_out t.new_out b.old_rise b.new_rise fault.new fault.role rose),
      inr (subst (λ (r : Role). CameBackFailed g.S.Shelf.told g.S.Disk.Disk.told (g.S.Shelf.told.disk c.put_both_back.new.shelf) (session_at c.args.row.now.id c.args.new_row.now.id fault.new) r) (role_by fault.role role fault.why is)
          (one_came_back g.S.Shelf.told g.S.Disk.Disk.told c.take_both.new.shelf c.put_both_back.new.shelf c.args.row.now.id c.args.new_row.now.id both.old now.old both.new now.new t.old_out t.new_out b.old_back b.new_back fault.new fault.role rose)),
    ))
