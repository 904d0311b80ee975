-- What raw bytes bring, as the private functions of a connection gather it.
use Rattle.std.specs.Prelude.{◌≡◌, ℕ, List, [], ◌++◌, map, length, take}
use Rattle.pump_frame.specs.declared.frame.Frame.{Frame}
use Rattle.pump_frame.specs.Readings.{Reading, Within, Stopped}
use Rattle.pump_frame.specs.Streams.{Reads}
use Rattle.pump_core.specs.History.{Arrival}
use Rattle.pump_core.specs.History.{Came, Bad}
use Rattle.script_reader.specs.Steps.{LineComing, bad_of, came}
use Rattle.two_worlds.specs.declared.connection.Waiting.{Waiting}
use Rattle.two_worlds.specs.declared.connection.Waiting.TheVariants.{Frame as WaitingFrame, Bad as WaitingBad}

-- an arrival that waits
abbrev pub arrival_of : Waiting → Arrival
arrival_of (WaitingFrame f) = Came f
arrival_of WaitingBad = Bad

abbrev pub arrivals_of : List Waiting → List Arrival
arrivals_of waits = map arrival_of waits

-- bad bytes add one Bad where they are met first
abbrev pub newly_bad : Reading → Reading → List Arrival
newly_bad (Within held) r = bad_of r
newly_bad (Stopped at) r = []

-- this came of bytes, fed one after the other
abbrev pub IsFed : Reading → List ℕ → LineComing → Type 0
IsFed r bytes c =
    (frames : List Frame) × Reads r bytes frames c.reading
    × (c.added ≡ came frames ++ newly_bad r c.reading)

-- these arrivals come behind what waited before; of all the first 64 are held, and all are counted
pub record Gathers (before : List Waiting) (added : List Arrival) (held : List Waiting) (count : ℕ) : Type 0 where
  pub all : List Waiting
  pub are : arrivals_of all ≡ added
  pub held_are : held ≡ take 64 (before ++ all)
  pub counted : count ≡ length (before ++ all)
