-- Bytes on their way out: to a link, or to a sink.
use Rattle.std.specs.Prelude.{◌≡◌, ℕ, ◌≤◌, Bool, true, false, List, ◌++◌}
use Rattle.pump_frame.specs.Counts.{Rose}

-- All of the bytes came to the other side, or a prefix of them; then a call failed, whose count of
-- faults rose. `Adds` says of bytes that they came there.
pub record Reaches (Adds : List ℕ → Type 0) (before now : ℕ) (is_whole : Bool) (bytes : List ℕ) : Type 0 where
  pub whole : is_whole ≡ true → Adds bytes
  pub prefix : (prefix : List ℕ) × (rest : List ℕ) × (bytes ≡ prefix ++ rest) × Adds prefix
  pub cause : is_whole ≡ false → Rose before now
  pub later : before ≤ now
