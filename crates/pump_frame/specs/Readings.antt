-- What a reader of frames holds.
use Rattle.std.specs.Prelude.{ℕ, Bool, true, false, List}
use Rattle.pump_frame.specs.Spellings.{IsPartial}

-- the bytes since the last whole frame, or the bad place where it stopped
pub data Reading : Type 0 where
  Within : (held : List ℕ) → Reading
  Stopped : (at : ℕ) → Reading

-- what it holds is the prefix of a lawful frame, and not a whole one
abbrev pub HasBegun : Reading → Type 0
HasBegun (Within held) = IsPartial held
HasBegun (Stopped at) = Unit {0}

-- it met bad bytes
abbrev pub is_stopped : Reading → Bool
is_stopped (Within held) = false
is_stopped (Stopped at) = true
