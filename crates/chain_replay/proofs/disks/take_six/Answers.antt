use Rattle.chain_replay.proofs.Taking.{out_there, are_out, not_given_there, untaken_first, untaken_second, alike_back, home_back}
use Rattle.script_replay.specs.Failing.{IsNotGiven}
use Rattle.chain_replay.proofs.disks.take_six.Goals as goal

pub put_trio_back-requires : goal.put_trio_back-requires
put_trio_back-requires g c =
    are_out g.S.Disk.Disk.told (g.S.Shelf.told.disk c.take_trio-2.new.shelf) c.args.one c.in-Ok.first
    (out_there g.S.Disk.Disk.told (g.S.Shelf.told.disk c.take_trio.new.shelf) (g.S.Shelf.told.disk c.take_trio-2.new.shelf) c.args.one c.args.two c.requires c.in-Ok.first c.take_trio-2.ensures.others c.in-Ok.ensures.out)

pub returns-in-Ok-take_trio-clause-first_out : goal.returns-in-Ok-take_trio-clause-first_out
returns-in-Ok-take_trio-clause-first_out g c =
    out_there g.S.Disk.Disk.told (g.S.Shelf.told.disk c.take_trio.new.shelf) (g.S.Shelf.told.disk c.take_trio-2.new.shelf) c.args.one c.args.two c.requires c.in-Ok.first c.take_trio-2.ensures.others c.in-Ok.ensures.out

pub returns-in-Err-clause-of : goal.returns-in-Err-clause-of
returns-in-Err-clause-of g c = untaken_first (IsNotGiven g.S.Shelf.told (g.S.Shelf.told.disk c.args.shelf.now)) c.args.one c.args.two c.in-Err.fault c.in-Err.ensures.of

pub returns-in-Err-take_trio-clause-of : goal.returns-in-Err-take_trio-clause-of
returns-in-Err-take_trio-clause-of g c =
    let h = g.S.Shelf.told in
    let before = h.disk c.args.shelf.now in
    let mid = h.disk c.take_trio.new.shelf in
    untaken_second (IsNotGiven h mid) (IsNotGiven h before) c.args.one c.args.two c.in-Err-take_trio.fault
    (λ role n. not_given_there h before mid c.args.one c.args.two c.requires role c.in-Ok.ensures.others n) c.in-Err-take_trio.ensures.of

pub returns-in-Err-take_trio-clause-alike : goal.returns-in-Err-take_trio-clause-alike
returns-in-Err-take_trio-clause-alike g c = λ told.
    let h = g.S.Shelf.told in
    let before = h.disk c.args.shelf.now in
    let mid = h.disk c.take_trio.new.shelf in
    let later = h.disk c.take_trio-2.new.shelf in
    let after = h.disk c.put_trio_back.new.shelf in (
      alike_back g.S.Disk.Disk.told before mid later after c.args.one c.in-Ok.first (c.in-Ok.ensures.read told) c.in-Ok.ensures.others (c.in-Err-take_trio.ensures.alike told).0 (c.put_trio_back.ensures.back told) c.put_trio_back.ensures.others,
      home_back g.S.Disk.Disk.told before mid later after c.args.one c.in-Ok.first c.in-Ok.ensures.others (c.in-Err-take_trio.ensures.alike told).1 (c.put_trio_back.ensures.back told) c.put_trio_back.ensures.others,
    )
