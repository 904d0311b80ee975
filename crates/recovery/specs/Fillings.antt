-- The writing of new disks. Only clauses of private functions name these.
use Rattle.std.specs.Prelude.{◌≡◌, ◌⊎◌, ℕ, ◌<◌, ◌≤◌, true, false, List, length}
use Rattle.disk_model.specs.Disk.{Meaning}
use Rattle.disk_model.specs.declared.name.Role.{Role}
use Rattle.stable_buffer.specs.Making.{IsNone, IsNoneOr, LeavesFrom}
use Rattle.recovery.specs.declared.trio.MoveFault.{MoveFault}
use Rattle.recovery.specs.declared.why.Why.TheVariants.{Device}

-- a call failed of the old disk of this role, or of the new one
abbrev pub IsBlamedOne : {D : Type 0} → Meaning D → Role → D → D → MoveFault → Type 0
IsBlamedOne m role old new fault = (fault ≡ record { new = false; role = role; why = Device (m.count old) })
    ⊎ (fault ≡ record { new = true; role = role; why = Device (m.count new) })

-- Where a crash before left fewer than 80 bytes, and none since a moment a buffer, a crash since that moment leaves
-- no buffer or what stands.
abbrev pub IsMadeFrom : {D : Type 0} → Meaning D → (List ℕ → Type 0) → D → D → Type 0
IsMadeFrom m Stands old new = ((c : List ℕ) → m.images old c → length c < 80) → (moment : ℕ) → moment ≤ m.moment old
    → LeavesFrom m moment IsNone old → LeavesFrom m moment (IsNoneOr Stands) new
