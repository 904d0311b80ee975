use Rattle.std.proofs.Common.{ap}
use Rattle.disk_model.specs.declared.name.Role.TheVariants as roles
use Rattle.script_replay.proofs.Left.{out_of, others_of, left_of, failed_of}
use Rattle.script_replay.proofs.replaying.leave.Goals as goal

pub put_disks_back-requires-clause-low : goal.put_disks_back-requires-clause-low
put_disks_back-requires-clause-low g c =
    out_of g.S.Disk.Disk.told g.S.Shelf.told.tells (g.S.Shelf.told.disk c.args.shelf.now) (g.S.Shelf.told.disk c.args.shelf.now) c.args.session c.in-Whole.id c.in-Whole.pump c.in-Whole.is c.requires roles.Low

pub put_disks_back-requires-clause-high : goal.put_disks_back-requires-clause-high
put_disks_back-requires-clause-high g c =
    out_of g.S.Disk.Disk.told g.S.Shelf.told.tells (g.S.Shelf.told.disk c.args.shelf.now) (g.S.Shelf.told.disk c.args.shelf.now) c.args.session c.in-Whole.id c.in-Whole.pump c.in-Whole.is c.requires roles.High

pub put_disks_back-requires-clause-recv : goal.put_disks_back-requires-clause-recv
put_disks_back-requires-clause-recv g c =
    out_of g.S.Disk.Disk.told g.S.Shelf.told.tells (g.S.Shelf.told.disk c.args.shelf.now) (g.S.Shelf.told.disk c.args.shelf.now) c.args.session c.in-Whole.id c.in-Whole.pump c.in-Whole.is c.requires roles.Recv

pub returns-in-Whole-clause-others : goal.returns-in-Whole-clause-others
returns-in-Whole-clause-others g c =
    others_of g.S.Disk.Disk.told g.S.Shelf.told.tells (g.S.Shelf.told.disk c.args.shelf.now) (g.S.Shelf.told.disk c.put_disks_back.new.shelf) c.args.session c.in-Whole.id c.in-Whole.pump c.in-Whole.is c.put_disks_back.ensures.others

pub returns-in-Whole-clause-left : goal.returns-in-Whole-clause-left
returns-in-Whole-clause-left g c =
    left_of g.S.Disk.Disk.told g.S.Shelf.told.tells (g.S.Shelf.told.disk c.args.shelf.now) (g.S.Shelf.told.disk c.put_disks_back.new.shelf) c.args.session c.in-Whole.id c.in-Whole.pump c.in-Whole.is _ _ _
    (ap (λ r. r.0) c.close-low.ensures.disks) (ap (λ r. r.1) c.close-low.ensures.disks) (ap (λ r. r.2) c.close-low.ensures.disks) c.put_disks_back.ensures.back (λ tells q stands. (c.close-low.ensures.left q stands).readings tells)

pub returns-in-Whole-clause-failed : goal.returns-in-Whole-clause-failed
returns-in-Whole-clause-failed g c =
    let p = c.put_disks_back.ensures in
    let same = c.close-low.ensures.disks in
    failed_of g.S.Disk.Disk.told g.S.Shelf.told.tells (g.S.Shelf.told.disk c.args.shelf.now) (g.S.Shelf.told.disk c.put_disks_back.new.shelf) c.args.session c.in-Whole.id c.in-Whole.pump c.in-Whole.is _ _ _ _ _
    (ap (λ r. g.S.Disk.Disk.told.count r.0) same) (ap (λ r. g.S.Disk.Disk.told.count r.1) same) (ap (λ r. g.S.Disk.Disk.told.count r.2) same) p.low_rises p.high_rises p.recv_rises
