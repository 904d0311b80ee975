use Rattle.std.proofs.Common.{subst}
use Rattle.chain_replay.specs.Private.{AllRiseAt, AreBackAt}
use Rattle.two_worlds.specs.Pumps.{row_of}
use Rattle.chain_replay.proofs.Returning.{left_so}
use Rattle.chain_replay.proofs.replaying.leave.Goals as goal

pub returns-clause-left : goal.returns-clause-left
returns-clause-left g c = λ told tells s stands.
    let l = c.close.ensures.left s stands in
    let after = g.S.Shelf.told.disk c.put_six_back.new.shelf in (
      left_so g.S.Disk.Disk.told after c.args.one c.close.result.first (row_of c.args.chain.first) s.first (c.put_six_back.ensures.first told) stands.first_row (l.0.readings tells),
      left_so g.S.Disk.Disk.told after c.args.two c.close.result.second (row_of c.args.chain.second) s.second (c.put_six_back.ensures.second told) stands.second_row (l.1.readings tells),
    )

pub returns-clause-first_rises : goal.returns-clause-first_rises
returns-clause-first_rises g c =
    subst (λ t. AllRiseAt g.S.Disk.Disk.told (g.S.Shelf.told.disk c.args.shelf.now) c.args.one t (g.S.Shelf.told.disk_faults c.args.shelf.now) (g.S.Shelf.told.disk_faults c.put_six_back.new.shelf)) c.close.ensures.first c.put_six_back.ensures.first_rises

pub returns-clause-second_rises : goal.returns-clause-second_rises
returns-clause-second_rises g c =
    subst (λ t. AllRiseAt g.S.Disk.Disk.told (g.S.Shelf.told.disk c.args.shelf.now) c.args.two t (g.S.Shelf.told.disk_faults c.args.shelf.now) (g.S.Shelf.told.disk_faults c.put_six_back.new.shelf)) c.close.ensures.second c.put_six_back.ensures.second_rises

pub returns-clause-first_back : goal.returns-clause-first_back
returns-clause-first_back g c = λ told. subst (λ t. AreBackAt g.S.Disk.Disk.told (g.S.Shelf.told.disk c.put_six_back.new.shelf) c.args.one t) c.close.ensures.first (c.put_six_back.ensures.first told)

pub returns-clause-second_back : goal.returns-clause-second_back
returns-clause-second_back g c = λ told. subst (λ t. AreBackAt g.S.Disk.Disk.told (g.S.Shelf.told.disk c.put_six_back.new.shelf) c.args.two t) c.close.ensures.second (c.put_six_back.ensures.second told)
