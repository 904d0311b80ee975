use Rattle.std.proofs.Common.{◌-◌, ◌≡◌, ◌≤◌, length}
use Rattle.disk_model.specs.Disk.{Moves, Same}
use Rattle.file_collector.proofs.Feeding.{Feeds}
use Rattle.file_collector.proofs.opening.feed.Given as goal

abbrev pub invariant-loop-at : goal.invariant-loop-at
invariant-loop-at g l = (l.at ≤ l.count) × (length l.block ≡ 1024) × Moves g.D.Disk.told Same l.fn.part l.part × (g.D.Disk.told.count l.fn.part ≤ g.D.Disk.told.count l.part)
    × Feeds g.D.Disk.told l.fn.part l.count l.at l.fn.assembly l.assembly

abbrev pub decreases-loop-at : goal.decreases-loop-at
decreases-loop-at g l = l.count - l.at
