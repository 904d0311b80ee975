use Rattle.std.proofs.Common.{◌≡◌, ◌+◌, ◌-◌, ◌≤◌, ℕ, List, length}
use Rattle.disk_model.specs.Disk.{Moves, Same}
use Rattle.stable_buffer.specs.Low.{IsLowReady, low_count, low_disk, low_row}
use Rattle.recovery.specs.Refusals.{bad_slot}
use Rattle.recovery.specs.Deals.{InSlots}
use Rattle.recovery.proofs.survey.check_live.Given as goal

abbrev pub invariant-loop-n : goal.invariant-loop-n
invariant-loop-n g l =
    let m = g.D.Disk.told in
    let old = l.fn.low in
    let row = l.row in
    let disk = m.reading (low_disk old) in
    record {
      from : l.removed ≤ l.n;
      to : l.n ≤ l.to;
      messages : List (List ℕ);
      length' : l.removed + length messages ≡ l.n;
      slots : m.tells → InSlots row l.removed messages disk;
      rest : m.tells → (k : ℕ) → l.n ≤ l.removed + k → bad_slot row disk l.removed k ≡ bad_slot row disk l.n (l.removed + k - l.n);
      ready : IsLowReady m l.low;
      stored : low_count l.low ≡ low_count old;
      row' : low_row l.low ≡ low_row old;
      moves : Moves m Same (low_disk old) (low_disk l.low);
      count : m.count (low_disk old) ≤ m.count (low_disk l.low);
    }
