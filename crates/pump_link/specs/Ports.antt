-- What ports did.
use Rattle.std.specs.Prelude.{◌≡◌, ℕ, ◌+◌, ◌-◌, ◌⊎◌, nat_lt, if◌then◌else◌, List, [], ◌∷◌, ◌++◌, length, drop, Contains}
use Rattle.std.specs.Prelude.{Option, None, Some, Result, Ok, Err}
use Rattle.pump_frame.specs.Counts.{raised}
use Rattle.pump_link.specs.Doors.{MemoryDoor}

-- a door was opened at the port or not, a link to it came or not, a link was given back, or a door was shut
pub data PortsStep (L : Type 0) (D : Type 0) : Type 0 where
  Listened : (port : ℕ) (door : D) → PortsStep L D
  NoDoor : (port : ℕ) → PortsStep L D
  Connected : (port : ℕ) (link : L) → PortsStep L D
  NoConnection : (port : ℕ) → PortsStep L D
  BackToPorts : (link : L) → PortsStep L D
  ShutDoor : (door : D) → PortsStep L D

abbrev pub listened : {L D E : Type 0} → ℕ → Result D E → PortsStep L D
listened port (Ok door) = Listened port door
listened port (Err e) = NoDoor port

abbrev pub connected : {L D E : Type 0} → ℕ → Result L E → PortsStep L D
connected port (Ok link) = Connected port link
connected port (Err e) = NoConnection port

abbrev pub option_list : {L : Type 0} → Option L → List L
option_list None = []
option_list (Some link) = link ∷ []

abbrev pub first_of : {L : Type 0} → List L → Option L
first_of [] = None
first_of (link ∷ rest) = Some link

-- the links that came back and were kept, and the places for more
pub record KeptLinks (L : Type 0) : Type 0 where
  pub links : List L
  pub places : ℕ

-- a link that comes back is kept where there is a place, else dropped
abbrev pub keep : {L : Type 0} → KeptLinks L → Option L → KeptLinks L
keep kept None = kept
keep kept (Some link) = if nat_lt 0 kept.places then record {
  links = kept.links ++ link ∷ [];
  places = kept.places - 1;
} else kept

-- a link that is handed out leaves its place
abbrev pub leave : {L : Type 0} → KeptLinks L → Option L → KeptLinks L
leave kept link = record { links = kept.links; places = kept.places + length (option_list link) }

-- what a contract sees of ports in memory: the links to come, those given back, the port of the last connect that
-- gave a link, the calls made, the numbers of those that fail, and the failed calls so far
pub record MemoryPorts (L : Type 0) : Type 0 where
  pub coming : List L
  pub kept : KeptLinks L
  pub connected : Option ℕ
  pub calls : ℕ
  pub fails : List ℕ
  pub faults : ℕ

-- the next link was handed out, where there was one
abbrev pub with_next_out : {L : Type 0} → MemoryPorts L → MemoryPorts L
with_next_out ports = record ports { coming = drop 1 ports.coming; kept = leave ports.kept (first_of ports.coming) }

-- a link came back, or none
abbrev pub with_back : {L : Type 0} → MemoryPorts L → Option L → MemoryPorts L
with_back ports link = record ports { kept = keep ports.kept link }

-- a call was made, and it failed or not
abbrev pub with_call : {L : Type 0} → MemoryPorts L → MemoryPorts L
with_call ports = record ports { calls = raised ports.calls }

abbrev pub with_fault : {L : Type 0} → MemoryPorts L → MemoryPorts L
with_fault ports = record ports { calls = raised ports.calls; faults = raised ports.faults }

-- the calls answer so: the next links come in turn, but where the number of a call is one of those that fail
abbrev pub AnswersFrom : {L : Type 0} → List L → ℕ → List ℕ → List (PortsStep L (MemoryDoor L)) → Type 0
AnswersFrom coming calls fails [] = Unit {0}
AnswersFrom coming calls fails (Listened port door ∷ rest) = (Contains fails calls → ⊥)
    × (door ≡ record { port = port; waiting = first_of coming; back = None })
    × AnswersFrom (drop 1 coming) (raised calls) fails rest
AnswersFrom coming calls fails (NoDoor port ∷ rest) = Contains fails calls
    × AnswersFrom coming (raised calls) fails rest
AnswersFrom coming calls fails (Connected port link ∷ rest) = (Contains fails calls → ⊥) × (first_of coming ≡ Some link)
    × AnswersFrom (drop 1 coming) (raised calls) fails rest
AnswersFrom coming calls fails (NoConnection port ∷ rest) = (Contains fails calls ⊎ (coming ≡ []))
    × AnswersFrom coming (raised calls) fails rest
AnswersFrom coming calls fails (BackToPorts link ∷ rest) = ⊥
AnswersFrom coming calls fails (ShutDoor door ∷ rest) = ⊥

abbrev pub GivesPorts : {L : Type 0} → MemoryPorts L → List (PortsStep L (MemoryDoor L)) → Type 0
GivesPorts ports = AnswersFrom ports.coming ports.calls ports.fails

-- what is kept after these steps: a door that opens takes its link out, and a shut one gives back the link that it has
abbrev pub kept_after : {L : Type 0} → KeptLinks L → List (PortsStep L (MemoryDoor L)) → KeptLinks L
kept_after kept [] = kept
kept_after kept (Listened port door ∷ rest) = kept_after (leave kept door.waiting) rest
kept_after kept (NoDoor port ∷ rest) = kept_after kept rest
kept_after kept (Connected port link ∷ rest) = kept_after (leave kept (Some link)) rest
kept_after kept (NoConnection port ∷ rest) = kept_after kept rest
kept_after kept (BackToPorts link ∷ rest) = kept_after (keep kept (Some link)) rest
kept_after kept (ShutDoor door ∷ rest) = kept_after (keep kept door.back) rest

-- the port of the last connect that gave a link, after an earlier one
abbrev pub last_port : {L D : Type 0} → Option ℕ → List (PortsStep L D) → Option ℕ
last_port before [] = before
last_port before (Listened port door ∷ rest) = last_port before rest
last_port before (NoDoor port ∷ rest) = last_port before rest
last_port before (Connected port link ∷ rest) = last_port (Some port) rest
last_port before (NoConnection port ∷ rest) = last_port before rest
last_port before (BackToPorts link ∷ rest) = last_port before rest
last_port before (ShutDoor door ∷ rest) = last_port before rest

-- what ports in memory did, from some number of places on
pub record DidPorts {L : Type 0} (ports : MemoryPorts L) (log : List (PortsStep L (MemoryDoor L))) : Type 0 where
  pub kept : (places : ℕ) × (kept_after (record { links = []; places = places }) log ≡ ports.kept)
  pub last : last_port None log ≡ ports.connected
