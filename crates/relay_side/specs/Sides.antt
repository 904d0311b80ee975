-- What one side of a relay tells of a call.
use Rattle.std.specs.Prelude.{◌≡◌, ℕ, List, []}
use Rattle.pump_link.specs.Ports.{PortsStep}
use Rattle.pump_link.specs.Tells.{Draws, Grows}
use Rattle.relay_side.specs.declared.side.RelaySide.{RelaySide}

-- what its ports did so far, and how often they failed: before the call, and now
pub record PortsTell (D L : Type 0) : Type 1 where
  pub did : List (PortsStep L D) → Type 0
  pub now_did : List (PortsStep L D) → Type 0
  pub faults : ℕ
  pub now_faults : ℕ

-- .. and what its clock reads next
pub record SideTells (D L : Type 0) : Type 1 where
  pub ports : PortsTell D L
  pub reads : List ℕ → Type 0
  pub now_reads : List ℕ → Type 0

abbrev pub ports : {P D L : Type 0} → (P → List (PortsStep L D) → Type 0) → (P → ℕ) → P → P → PortsTell D L
ports did faults old new = record { did = did old; now_did = did new; faults = faults old; now_faults = faults new }

abbrev pub side : {P K D L : Type 0} → (P → List (PortsStep L D) → Type 0) → (P → ℕ) → (K → List ℕ → Type 0)
    → RelaySide P K → RelaySide P K → SideTells D L
side did faults reads old new = record {
  ports = ports did faults old.ports new.ports;
  reads = reads old.clock;
  now_reads = reads new.clock;
}

-- Nothing was done at these ports, and they did not fail.
pub record AreUnused {D L : Type 0} (ports : PortsTell D L) : Type 0 where
  pub undone : Grows ports.did ports.now_did []
  pub sound : ports.now_faults ≡ ports.faults

-- .. and the clock was not read.
pub record IsUnused {D L : Type 0} (side : SideTells D L) : Type 0 where
  pub ports : AreUnused side.ports
  pub unread : Draws side.reads side.now_reads []
