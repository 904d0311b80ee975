use Rattle.std.proofs.Common.{◌≡◌, ◌+◌, ◌-◌, ◌<◌, ◌≤◌, List, [], ℕ, false, length, get_or, take}
use Rattle.std.specs.List.{All}
use Rattle.disk_model.specs.Disk.{Moves}
use Rattle.stable_buffer.specs.Making.{KeepsFirst}
use Rattle.stable_buffer.specs.Stands.{InSlot, LowStands, low_size}
use Rattle.recovery.specs.Moves.{IsKept, with_messages}
use Rattle.recovery.proofs.filling.copy_messages.Given as goal

abbrev pub invariant-loop-n : goal.invariant-loop-n
invariant-loop-n g l =
    let m = g.D.Disk.told in
    let B = l.counts.removed in
    record {
      above : B ≤ l.n;
      copied : m.tells → (live : List (List ℕ)) → LowStands l.from l.counts.accepted B live (m.reading l.fn.source) → All (λ message. length message ≤ l.to.message) live
          → (i : ℕ) → i < l.n - B → InSlot l.to (B + i) (get_or live i []) (m.reading l.target);
      put : m.tells → (live : List (List ℕ)) → LowStands l.from l.counts.accepted B live (m.reading l.fn.source) → All (λ message. length message ≤ l.to.message) live
          → m.reading l.target ≡ with_messages l.to B (take (l.n - B) live) (m.reading l.fn.target);
      size : m.tells → length (m.reading l.target) ≡ low_size l.to;
      kept : IsKept m l.fn.source l.source false;
      moves : Moves m (KeepsFirst 80) l.fn.target l.target;
      counts : m.count l.fn.target ≤ m.count l.target;
    }
