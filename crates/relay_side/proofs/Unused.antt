-- Ports and a side that are as they were.
use Rattle.std.proofs.Common.{◌≡◌, ℕ, List, refl, sym, subst}
use Rattle.pump_link.specs.Ports.{PortsStep}
use Rattle.pump_link.proofs.Grown.{Draws-nil, Grows-nil}
use Rattle.relay_side.specs.Sides.{AreUnused, IsUnused, PortsTell, SideTells, side}
use Rattle.relay_side.specs.declared.side.RelaySide.{RelaySide}

pub are_unused : {D L : Type 0} (did : List (PortsStep L D) → Type 0) (faults : ℕ) → (let p : PortsTell D L = record { did = did; now_did = did; faults = faults; now_faults = faults } in AreUnused p)
are_unused did faults = record { undone = Grows-nil did; sound = refl }

pub is_unused : {D L : Type 0} (did : List (PortsStep L D) → Type 0) (faults : ℕ) (reads : List ℕ → Type 0)
    → (let s : SideTells D L = record { ports = record { did = did; now_did = did; faults = faults; now_faults = faults }; reads = reads; now_reads = reads } in IsUnused s)
is_unused did faults reads = record { ports = are_unused did faults; unread = Draws-nil reads }

pub still_unused : {P K D L : Type 0} (did : P → List (PortsStep L D) → Type 0) (faults : P → ℕ) (reads : K → List ℕ → Type 0) (old new : RelaySide P K) → new ≡ old → IsUnused (side did faults reads old new)
still_unused {P} {K} did faults reads old new same = subst (λ (x : RelaySide P K). IsUnused (side did faults reads old x)) (sym same) (is_unused (did old.ports) (faults old.ports) (reads old.clock))
