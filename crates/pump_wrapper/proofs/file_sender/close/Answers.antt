use Rattle.std.proofs.Common.{inl, ap}
use Rattle.pump_wrapper.proofs.Emptied.{each_disk}
use Rattle.pump_wrapper.proofs.Holding.{closed_all}
use Rattle.pump_wrapper.proofs.file_sender.close.Goals as goal

pub returns-clause-all : goal.returns-clause-all
returns-clause-all g c = λ told messages q stands passed. closed_all g.D.Disk.told c.args.pump q messages _ _ _ stands passed told (c.close-low.ensures.left q (inl stands))

pub returns-clause-disks : goal.returns-clause-disks
returns-clause-disks g c =
    let same = c.close-low.ensures.disks in
    each_disk c.args.pump _ _ _ (ap (λ x. x.0) same) (ap (λ x. x.1) same) (ap (λ x. x.2) same)
