-- What waits on a session's low connection.
use Rattle.std.specs.Prelude.{◌≡◌, ℕ, ◌<◌, ◌≤◌, ◌++◌, Bool, true, false, ◌&&◌, ◌||◌, if◌then◌else◌, List, [], ◌∷◌, drop}
use Rattle.std.specs.Prelude.{length}
use Rattle.std.specs.List.{AllByRecursion}
use Rattle.pump_frame.specs.Readings.{Reading, Within}
use Rattle.pump_frame.specs.declared.frame.Frame.{Frame}
use Rattle.pump_core.specs.History.{Arrival}
use Rattle.pump_core.specs.History.{Came}
use Rattle.script_reader.specs.declared.line.Arriving.{Arriving}
use Rattle.script_reader.specs.Lows.{first_of, is_bad}
use Rattle.script_reader.specs.Steps.{LineComing, coming, IsRead, Arrives}
use Rattle.low_process.specs.Looks.{IsLawful}

-- what a connection holds
pub record Connected : Type 0 where
  -- what came and was not taken, the oldest first
  pub waits : List Arrival
  -- bad bytes were taken
  pub is_broken : Bool
  -- the raw bytes of an unfinished frame
  pub reading : Reading

abbrev pub waits_of : Connected → List Arrival
waits_of c = c.waits

abbrev pub is_broken_of : Connected → Bool
is_broken_of c = c.is_broken

abbrev pub reading_of : Connected → Reading
reading_of c = c.reading

-- before anything comes
abbrev pub unused : Connected
unused = record { waits = []; is_broken = false; reading = Within [] }

-- each frame is one that a low process can be given
abbrev pub AreLawful : List Arrival → Type 0
AreLawful arrivals = AllByRecursion IsLawful arrivals

-- what a look is offered: the earliest arrival that waits, and none behind bad bytes
abbrev pub offered_by : Connected → Arrival
offered_by c = first_of (is_broken_of c) (waits_of c)

-- the connection with what comes added
abbrev pub joined : Connected → LineComing → Connected
joined c k = record c { waits = waits_of c ++ k.added; reading = k.reading }

-- with this at most 64 arrivals wait, and it is added, or more would wait, and nothing has changed
abbrev pub JoinsComing : Connected → Connected → LineComing → Bool → Type 0
JoinsComing c d k true = (length (waits_of (joined c k)) ≤ 64) × (d ≡ joined c k)
JoinsComing c d k false = (64 < length (waits_of (joined c k))) × (d ≡ c)

-- a frame joins what waits
abbrev pub JoinsFrame : Connected → Connected → Frame → Bool → Type 0
JoinsFrame c d f fits = JoinsComing c d (coming (Came f ∷ []) (reading_of c)) fits

-- what raw bytes bring joins what waits
abbrev pub JoinsRaw : Connected → Connected → List ℕ → Bool → Type 0
JoinsRaw c d bytes fits = (k : LineComing) × IsRead (reading_of c) bytes k × JoinsComing c d k fits

-- what comes with a line of the session joins what waits
abbrev pub Joins : Connected → Connected → ℕ → Arriving → Bool → Type 0
Joins c d session a fits = (k : LineComing) × Arrives session (reading_of c) a k × JoinsComing c d k fits

-- the connection after a look that was offered what waits first, and took it or did not
abbrev pub settled : Connected → Bool → Connected
settled c taken = record c {
  waits = if taken then drop 1 (waits_of c) else waits_of c;
  is_broken = is_broken_of c || (taken && is_bad (offered_by c));
}
