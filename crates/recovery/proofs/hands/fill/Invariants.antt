use Rattle.std.proofs.Common.{◌≡◌, ◌+◌, ◌-◌, ◌≤◌, ℕ, List, length, false}
use Rattle.std.specs.List.{All}
use Rattle.disk_model.specs.Disk.{Moves, Same}
use Rattle.stable_buffer.specs.Low.{IsLowReady, low_count, low_disk, low_row}
use Rattle.recovery.specs.Refusals.{bad_slot}
use Rattle.recovery.specs.Deals.{numbered, Fills, InSlots}
use Rattle.recovery.proofs.hands.fill.Given as goal

abbrev pub invariant-loop-n : goal.invariant-loop-n
invariant-loop-n g l =
    let m = g.D.Disk.told in
    let old = l.fn.low in
    let row = l.row in
    let disk = m.reading (low_disk old) in
    record {
      from : l.from ≤ l.n;
      to : l.n ≤ l.to;
      messages : List (List ℕ);
      length' : l.from + length messages ≡ l.n;
      short : All (λ message. length message ≤ row.message) messages;
      slots : m.tells → InSlots row l.from messages disk;
      fills : Fills (g.L.LowSide.stands l.fn.ends) (g.L.LowSide.stands l.ends) (numbered l.from messages);
      same : (g.L.LowSide.shape l.ends ≡ g.L.LowSide.shape l.fn.ends) × (g.L.LowSide.place l.ends ≡ g.L.LowSide.place l.fn.ends);
      rest : m.tells → (k : ℕ) → l.n ≤ l.from + k → bad_slot row disk l.from k ≡ bad_slot row disk l.n (l.from + k - l.n);
      ready : IsLowReady m l.low;
      stored : low_count l.low ≡ low_count old;
      row' : low_row l.low ≡ low_row old;
      moves : Moves m Same (low_disk old) (low_disk l.low);
      count : m.count (low_disk old) ≤ m.count (low_disk l.low);
      room : m.tells_plan → m.room (low_disk l.low) ≡ m.room (low_disk old);
      calm : m.tells_plan → m.armed (low_disk l.low) ≡ false;
    }
