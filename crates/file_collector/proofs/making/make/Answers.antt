use Rattle.std.proofs.Common.{sym, subst}
use Rattle.file_collector.specs.Making.{IsUnmade}
use Rattle.file_collector.proofs.Makes.{made_after_same}
use Rattle.file_collector.proofs.making.make.Goals as goal

pub returns-in-Ok-clause-moves : goal.returns-in-Ok-clause-moves
returns-in-Ok-clause-moves g c =
    let m = g.D.Disk.told in
    let e = c.in_ok-is_made.ensures in
    made_after_same m c.args.disk.now c.is_made.new.disk c.write_new.new.disk c.is_made.ensures.moves
    (c.write_new.ensures.moves e.settled (λ told. subst IsUnmade (sym (c.is_made.ensures.moves.reads told)) (e.unmade c.if-branch.false told)))

pub returns-in-Err-clause-moves : goal.returns-in-Err-clause-moves
returns-in-Err-clause-moves g c =
    let m = g.D.Disk.told in
    let e = c.in_ok-is_made.ensures in
    made_after_same m c.args.disk.now c.is_made.new.disk c.write_new.new.disk c.is_made.ensures.moves
    (c.write_new.ensures.moves e.settled (λ told. subst IsUnmade (sym (c.is_made.ensures.moves.reads told)) (e.unmade c.if-branch.false told)))
