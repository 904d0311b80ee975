-- What the high side of a session sends is what its low side stores.
use Rattle.std.specs.Prelude.{◌≡◌, ◌⊎◌, ℕ, ◌+◌, ◌≤◌, List, [], ◌∷◌, length}
use Rattle.std.specs.List.{All, AllByRecursion}
use Rattle.pump_frame.specs.declared.frame.Frame.{Frame}
use Rattle.pump_frame.specs.declared.row.SessionRow.{SessionRow}
use Rattle.pump_core.specs.Passage.{IsAverage, NeverFall, shape_of_row}
use Rattle.high_process.specs.Past.{ProcessPast}
use Rattle.relay_threads.specs.HighEnds.{HasMessage}

-- each number is n or the next one, and so on from there
abbrev pub Climbs : ℕ → List Frame → Type 0
Climbs n [] = Unit {0}
Climbs n (f ∷ frames) = ((f.number ≡ n) ⊎ (f.number ≡ n + 1)) × Climbs f.number frames

-- Of these messages, which were found and stored and have the numbers from `first` on, High sent some in these
-- frames, in this order, and came to this past. These pairs were told to Low.
pub record SentIsStored (row : SessionRow) (first : ℕ) (stored : List (List ℕ)) (sent : List Frame) (past : ProcessPast)
    (pairs : List (ℕ × ℕ)) : Type 0 where
  -- each DATA carries the message of its number
  pub data_are : AllByRecursion (HasMessage first stored) sent
  -- but for the first, which the receiver may have, none is passed over, and none comes back behind the next one
  pub climbs : Climbs first sent
  -- none but these was removed, and those that were not have room in the slots
  pub removed : (first ≤ past.removed) × (past.removed ≤ first + length stored)
  pub slots : first + length stored ≤ past.removed + row.capacity
  -- each pair is a count of High's times and the average of the first so many, and the counts never fall
  pub averages : All (IsAverage (shape_of_row row) past.times) pairs
  pub never_fall : NeverFall pairs
