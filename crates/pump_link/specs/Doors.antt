-- What a door did.
use Rattle.std.specs.Prelude.{◌≡◌, ℕ, List, [], ◌∷◌, Option, None, Some}
use Rattle.pump_link.specs.declared.door.Accepted.{Accepted}
use Rattle.pump_link.specs.declared.door.Accepted.TheVariants.{Came, NotYet, Failed}

-- a link came, none was there, the call failed, or a link was given back
pub data DoorStep (L : Type 0) : Type 0 where
  CameLink : (link : L) → DoorStep L
  NoLink : DoorStep L
  FailedAccept : DoorStep L
  BackLink : (link : L) → DoorStep L

abbrev pub answered : {L : Type 0} → Accepted L → DoorStep L
answered (Came link) = CameLink link
answered NotYet = NoLink
answered Failed = FailedAccept

-- what a contract sees of a door in memory: its port, the link that waits, the last link that was given back
pub record MemoryDoor (L : Type 0) : Type 0 where
  pub port : ℕ
  pub waiting : Option L
  pub back : Option L

-- the answers are these: the link that waits, then nobody
abbrev pub ComesFrom : {L : Type 0} → Option L → List (DoorStep L) → Type 0
ComesFrom waiting [] = Unit {0}
ComesFrom (Some link) (step ∷ rest) = (step ≡ CameLink link) × ComesFrom None rest
ComesFrom None (step ∷ rest) = (step ≡ NoLink) × ComesFrom None rest

-- the answers, without the links given back
abbrev pub answers_of : {L : Type 0} → List (DoorStep L) → List (DoorStep L)
answers_of [] = []
answers_of (CameLink link ∷ rest) = CameLink link ∷ answers_of rest
answers_of (NoLink ∷ rest) = NoLink ∷ answers_of rest
answers_of (FailedAccept ∷ rest) = FailedAccept ∷ answers_of rest
answers_of (BackLink link ∷ rest) = answers_of rest

-- the last link given back, after one that was given back before
abbrev pub last_back : {L : Type 0} → Option L → List (DoorStep L) → Option L
last_back before [] = before
last_back before (CameLink link ∷ rest) = last_back before rest
last_back before (NoLink ∷ rest) = last_back before rest
last_back before (FailedAccept ∷ rest) = last_back before rest
last_back before (BackLink link ∷ rest) = last_back (Some link) rest

-- these answers were given by a door at which `first` waited, and `waiting` waits now
abbrev pub Answered : {L : Type 0} → Option L → List (DoorStep L) → Option L → Type 0
Answered first [] waiting = waiting ≡ first
Answered (Some link) (step ∷ rest) waiting = (step ≡ CameLink link) × Answered None rest waiting
Answered None (step ∷ rest) waiting = (step ≡ NoLink) × Answered None rest waiting

-- what a door in memory did: one link came at most, and the last one given back is kept
pub record DidSteps {L : Type 0} (waiting back : Option L) (log : List (DoorStep L)) : Type 0 where
  pub answered : (first : Option L) × Answered first (answers_of log) waiting
  pub last : last_back None log ≡ back

abbrev pub accepted : {L : Type 0} → Option L → Accepted L
accepted None = NotYet
accepted (Some link) = Came link
