use Rattle.std.proofs.Common.{◌≡◌, ◌+◌, ◌≤◌, length}
use Rattle.disk_model.specs.Disk.{Moves, Same}
use Rattle.recovery.specs.Deals.{InSlots}
use Rattle.stable_buffer.specs.Low.{IsLowReady, low_count, low_disk, low_row}
use Rattle.two_worlds.proofs.pump.surveying.read_live.Given as goal

abbrev pub invariant-loop-n : goal.invariant-loop-n
invariant-loop-n g l =
    let m = g.D.Disk.told in
    let old = l.fn.low in
    record {
      from : l.from ≤ l.n;
      read : l.from + length l.live.items ≡ l.n;
      slots : m.tells → InSlots l.row l.from l.live.items (m.reading (low_disk old));
      ready : IsLowReady m l.low;
      stored : low_count l.low ≡ low_count old;
      row' : low_row l.low ≡ low_row old;
      moves : Moves m Same (low_disk old) (low_disk l.low);
      count : m.count (low_disk old) ≤ m.count (low_disk l.low);
    }
