use Rattle.std.proofs.Common.{◌≡◌, ◌-◌, ◌≤◌, List, ℕ, false, length, drop}
use Rattle.stable_buffer.specs.Log.{Records, log_of}
use Rattle.recovery.specs.Moves.{IsKept, too_long}
use Rattle.recovery.proofs.fitting.check_records.Given as goal

abbrev pub invariant-loop-number : goal.invariant-loop-number
invariant-loop-number g l =
    let m = g.D.Disk.told in
    let end = l.counts.end in
    let disk = m.reading l.fn.recv in
    record {
      above : 80 ≤ l.at;
      below : l.at ≤ end;
      kept : IsKept m l.fn.recv l.recv false;
      rest : m.tells → (most : ℕ) (received : List (List ℕ)) → length received ≡ l.counts.received → end ≤ length disk → Records most received (log_of end disk)
          → Records most (drop l.number received) (drop (l.at - 80) (log_of end disk)) × (too_long l.to 0 received ≡ too_long l.to l.number (drop l.number received));
    }
