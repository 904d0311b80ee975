use Rattle.std.proofs.Common.{◌-◌, ◌≡◌, ◌≤◌, length, take}
use Rattle.folders.proofs.mem_inbox.copy.Given as goal

abbrev pub invariant-loop-at : goal.invariant-loop-at
invariant-loop-at g l = (l.at ≤ l.count) × (length l.block ≡ 512) × (g.D.Disk.told.tells → (g.D.Disk.told.reading l.from ≡ g.D.Disk.told.reading l.fn.from) × (g.D.Disk.told.reading l.to ≡ take l.at (g.D.Disk.told.reading l.fn.from)))

abbrev pub decreases-loop-at : goal.decreases-loop-at
decreases-loop-at g l = l.count - l.at
