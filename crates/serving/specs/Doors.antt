-- What doors and links tell, and the door of one port in a call.
use Rattle.std.specs.Prelude.{ℕ, ◌⊎◌, List, [], ◌∷◌}
use Rattle.pump_frame.specs.Counts.{Rose}
use Rattle.pump_link.specs.Doors.{DoorStep}
use Rattle.pump_link.specs.Ports.{Listened, NoDoor, ShutDoor}
use Rattle.pump_link.specs.Tells.{Draws, Grows}
use Rattle.pump_link.specs.declared.link.Looked.{Looked}
use Rattle.relay_side.specs.Sides.{AreUnused, PortsTell}

-- what a link gives next, what was sent over it, and how often it failed
pub record LinksTell (L : Type 0) : Type 1 where
  pub gives : L → List Looked → Type 0
  pub sent : L → List ℕ → Type 0
  pub faults : L → ℕ

-- the port of a door, what the door did so far, what it answers next; and what its links tell
pub record DoorsTell (D L : Type 0) : Type 1 where
  pub port : D → ℕ → Type 0
  pub did : D → List (DoorStep L) → Type 0
  pub gives : D → List (DoorStep L) → Type 0
  pub links : LinksTell L

abbrev pub links : {L : Type 0} → (L → List Looked → Type 0) → (L → List ℕ → Type 0) → (L → ℕ) → LinksTell L
links gives sent faults = record { gives = gives; sent = sent; faults = faults }

abbrev pub doors : {D L : Type 0} → (D → ℕ → Type 0) → (D → List (DoorStep L) → Type 0)
    → (D → List (DoorStep L) → Type 0) → LinksTell L → DoorsTell D L
doors port did gives tell = record { port = port; did = did; gives = gives; links = tell }

-- The ports of a side did this alone: they opened a door of this port, and shut it again.
abbrev pub IsOpenedAndShut : {D L : Type 0} → PortsTell D L → ℕ → D → D → Type 0
IsOpenedAndShut ports port opened shut = Grows ports.did ports.now_did (Listened port opened ∷ ShutDoor shut ∷ [])

-- .. with some door, and these are all its steps, and these its answers.
pub record AtDoor {D L : Type 0} (t : DoorsTell D L) (ports : PortsTell D L) (port : ℕ)
    (steps answers : List (DoorStep L)) : Type 0 where
  pub opened : D
  pub shut : D
  pub in_call : IsOpenedAndShut ports port opened shut
  pub is_port : t.port shut port
  pub did : t.did shut steps
  pub gave : Draws (t.gives opened) (t.gives shut) answers

-- .. with some door that nobody used.
abbrev pub OpensAndShuts : {D L : Type 0} → PortsTell D L → ℕ → Type 0
OpensAndShuts {D} ports port = (door : D) × IsOpenedAndShut ports port door door

-- The ports of a side gave no door for this port, and they failed then.
abbrev pub GiveNoDoor : {D L : Type 0} → PortsTell D L → ℕ → Type 0
GiveNoDoor ports port = Grows ports.did ports.now_did (NoDoor port ∷ []) × Rose ports.faults ports.now_faults

-- A door was wanting: that of the low port, and the high side's ports were not used; or that of the high port, and
-- the low door was opened and shut.
abbrev pub WantDoor : {D L : Type 0} → PortsTell D L → PortsTell D L → ℕ → ℕ → Type 0
WantDoor low high low_port high_port =
    (GiveNoDoor low low_port × AreUnused high)
    ⊎ (OpensAndShuts low low_port × GiveNoDoor high high_port)
