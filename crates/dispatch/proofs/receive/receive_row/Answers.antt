use Rattle.std.proofs.Common.{inl, refl, ap, ◌∙◌}
use Rattle.std.proofs.KnownBytes.{Appends-nil}
use Rattle.disk_model.specs.declared.name.Role.TheVariants as roles
use Rattle.pump_link.proofs.Grown.{Grows-nil}
use Rattle.script_replay.specs.Shelves.{Places, reading_at}
use Rattle.script_replay.proofs.Shelving.{is_out}
use Rattle.command_ends.specs.declared.command_end.CommandEnd.TheVariants.{Failed}
use Rattle.commands.proofs.Failing.{recv_came_back}
use Rattle.commands.proofs.LentDisks.{others_so, all_back, untaken_stops}
use Rattle.dispatch.proofs.LiveEnded.{caused, untaken_caused}
use Rattle.dispatch.proofs.Received.{receives_at}
use Rattle.dispatch.proofs.receive.receive_row.Goals as goal

pub returns-in-Err-clause-receives : goal.returns-in-Err-clause-receives
returns-in-Err-clause-receives g c = λ told tells.
    inl (untaken_stops _ c.args.row.now c.in-Err.not_taken.fault c.untaken.result c.untaken.ensures.memory (λ e. c.untaken.ensures.failed e ∙ ap Failed c.in-Err.ensures.role), ap (λ (places : Places). reading_at places c.args.row.now.id roles.Recv) c.in-Err.ensures.none, Grows-nil _, refl)

pub returns-in-Err-clause-cause : goal.returns-in-Err-clause-cause
returns-in-Err-clause-cause g c =
    let e = c.in-Err.ensures in
    untaken_caused _ c.in-Err.not_taken.role c.in-Err.not_taken.fault c.untaken.result c.untaken.ensures.memory c.untaken.ensures.failed (Appends-nil _)
    (λ is. (e.role, e.cause is, inl (record { asked = c.args.shelf.now; answered = c.take_disk.new.shelf; there = refl; still = e.none; rose = e.cause is })))

pub put_disk_back-requires : goal.put_disk_back-requires
put_disk_back-requires g c = is_out _ _ c.in-Ok.ensures.out

pub returns-clause-receives : goal.returns-clause-receives
returns-clause-receives g c = λ told tells.
    receives_at _ _ _ _ _ _ (g.S.Shelf.told.disk c.args.shelf.now) (g.S.Shelf.told.disk c.put_disk_back.new.shelf) c.args.row.now _ _ c.receive_on-received.result.end _ _
    (c.in-Ok.ensures.read told) (c.put_disk_back.ensures.back told) (c.receive_on-received.ensures.receives tells)

pub returns-clause-others : goal.returns-clause-others
returns-clause-others g c = others_so (g.S.Shelf.told.disk c.args.shelf.now) (g.S.Shelf.told.disk c.take_disk.new.shelf) (g.S.Shelf.told.disk c.put_disk_back.new.shelf) c.args.row.now.id roles.Recv c.take_disk.ensures.others c.put_disk_back.ensures.others

pub returns-clause-back : goal.returns-clause-back
returns-clause-back g c = λ told.
    all_back (g.S.Shelf.told.disk c.args.shelf.now) (g.S.Shelf.told.disk c.take_disk.new.shelf) (g.S.Shelf.told.disk c.put_disk_back.new.shelf) c.args.row.now.id roles.Recv c.take_disk.ensures.others c.put_disk_back.ensures.others _ (c.put_disk_back.ensures.back told)

pub returns-clause-cause : goal.returns-clause-cause
returns-clause-cause g c =
    let r = c.receive_on-received in
    caused _ _ r.result.end (λ none. absurd none) (λ none. none) (λ rose. rose)
    (λ role failed. recv_came_back g.S.Shelf.told g.S.Disk.Disk.told c.args.shelf.now c.take_disk.new.shelf c.put_disk_back.new.shelf c.args.row.now.id c.in-Ok.disk r.result.disk c.in-Ok.ensures.out failed.1
    c.take_disk.ensures.later c.put_disk_back.ensures.rises c.put_disk_back.ensures.back role failed.0) (λ rose. rose) r.ensures.cause
