use Rattle.std.proofs.lemmas.Result.{err_from_is_err_and}
use Rattle.script_replay.proofs.Taken.{low_not_given, high_not_given}
use Rattle.commands.proofs.disk_pair.take_pair.Goals as goal

pub returns-in_err-low-clause-asked : goal.returns-in_err-low-clause-asked
returns-in_err-low-clause-asked g c =
    let p = err_from_is_err_and c.from_residual.result c.from_residual.ensures.1 in
    let low = c.in_err-low.ensures in
    rw (p.1, p.2) (λ failed. low_not_given g.S.Shelf.told c.args.session c.args.shelf.now c.take_disk.new.shelf low.none (low.cause failed) _ low.role)

pub returns-in-Err-clause-asked : goal.returns-in-Err-clause-asked
returns-in-Err-clause-asked g c = λ failed.
    let low = c.in_ok-low.ensures in
    let high = c.in-Err.ensures in
    high_not_given g.S.Shelf.told c.args.session c.take_disk.new.shelf c.take_disk-2.new.shelf high.none (high.cause failed) (g.S.Shelf.told.disk c.args.shelf.now) _ _ high.role low.out low.others
