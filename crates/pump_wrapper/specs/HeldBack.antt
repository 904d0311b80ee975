-- What is written, and what is held back to be written. It serves private clauses alone.
use Rattle.std.specs.Prelude.{◌≡◌, ℕ, List, ◌++◌, Option}
use Rattle.std.specs.Io.KnownBytes.{Appends}
use Rattle.pump_wrapper.specs.declared.room.Room.{Room}

abbrev pub held_in : Room → List ℕ
held_in room = room.held

-- of these bytes those were written that are not held
abbrev pub Held : Option (List ℕ) → Option (List ℕ) → List ℕ → List ℕ → Type 0
Held old new held bytes = (written : List ℕ) × Appends old new written × (bytes ≡ written ++ held)
