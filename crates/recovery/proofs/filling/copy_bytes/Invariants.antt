use Rattle.std.proofs.Common.{◌+◌, ◌-◌, ◌≡◌, ◌≤◌, false, length, take, drop}
use Rattle.disk_model.specs.Disk.{Moves, IsWritten}
use Rattle.stable_buffer.specs.Making.{KeepsFirst}
use Rattle.recovery.specs.Moves.{IsKept}
use Rattle.recovery.proofs.filling.copy_bytes.Given as goal

abbrev pub invariant-loop-done : goal.invariant-loop-done
invariant-loop-done g l =
    let m = g.D.Disk.told in
    record {
      below : l.done ≤ l.count;
      written : m.tells → IsWritten (m.reading l.fn.target) l.to (take l.done (drop l.at (m.reading l.fn.source))) (m.reading l.target);
      size : m.tells → l.to + l.done ≤ length (m.reading l.target);
      kept : IsKept m l.fn.source l.source false;
      moves : Moves m (KeepsFirst l.to) l.fn.target l.target;
      room : length l.room ≡ 4096;
      counts : m.count l.fn.target ≤ m.count l.target;
    }

abbrev pub decreases-loop-done : goal.decreases-loop-done
decreases-loop-done g l = l.count - l.done
