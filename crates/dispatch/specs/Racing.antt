-- What a race writes, by its status.
use Rattle.std.specs.Prelude.{◌≡◌, ◌⊎◌, ℕ, List, [], Option}
use Rattle.std.specs.Io.KnownBytes.{Appends}
use Rattle.pump_link.specs.Causes.{AppendsPrefix}
use Rattle.pump_link.specs.Tells.{Draws}
use Rattle.race.specs.Race.{IsRaceRecord}

-- the bytes are the record of a race whose looks had these readings of the clock, one each, whatever the low worker's
-- gate was asked
abbrev pub IsRecordOf : ℕ → ℕ → List ℕ → (List ℕ → Type 0) → (List ℕ → Type 0) → List ℕ → Type 0
IsRecordOf seed count times before after bytes =
    (readings : List ℕ) × (asks : List (ℕ × ℕ)) × Draws before after readings
    × IsRaceRecord seed count times readings asks bytes

-- how a race ends, by its status: its record was written, or nothing for want of memory, or a prefix of the record
abbrev pub EndsRace : (List ℕ → Type 0) → Option (List ℕ) → Option (List ℕ) → ℕ → Type 0
EndsRace IsRecord old new status =
    ((status ≡ 0) × ((bytes : List ℕ) × IsRecord bytes × Appends old new bytes))
    ⊎ (((status ≡ 1) × Appends old new [])
    ⊎ ((status ≡ 4) × ((bytes : List ℕ) × IsRecord bytes × AppendsPrefix old new bytes)))
