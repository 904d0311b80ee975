use Rattle.std.proofs.Common.{◌≡◌, ◌-◌, ◌≤◌, List, ℕ, false, drop}
use Rattle.stable_buffer.specs.Stands.{LowStands}
use Rattle.recovery.specs.Moves.{IsKept, too_long}
use Rattle.recovery.proofs.fitting.check_slots.Given as goal

abbrev pub invariant-loop-number : goal.invariant-loop-number
invariant-loop-number g l =
    let m = g.D.Disk.told in
    let E = l.counts.accepted in
    let B = l.counts.removed in
    record {
      above : l.counts.received ≤ l.number;
      kept : IsKept m l.fn.low l.low false;
      rest : m.tells → (live : List (List ℕ)) → LowStands l.from E B live (m.reading l.fn.low)
          → too_long l.to l.counts.received (drop (l.counts.received - B) live) ≡ too_long l.to l.number (drop (l.number - B) live);
    }
